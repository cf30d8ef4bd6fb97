-- That the reader reads exactly the configurations of the form, and each canonical text as what was printed.
use Rattle.std.specs.Prelude.{◌≡◌, ◌≤◌, Ok, length}
use Rattle.raid_text.specs.Text.{Text, lines_in}
use Rattle.raid_conf.specs.declared.conf.Conf.{Conf}
use Rattle.raid_conf.specs.Form.{IsConf, IsConfOf, conf_text}
use Rattle.raid_conf.specs.Texts.{conf_of}

-- what is read as a configuration is of its form
abbrev pub ConfIsOfTheForm : Type 0
ConfIsOfTheForm = (text : Text) (conf : Conf) → conf_of text ≡ Ok conf → IsConf conf × IsConfOf (lines_in text) conf

-- each text of the form of a configuration is read as it
abbrev pub ConfIsRead : Type 0
ConfIsRead = (text : Text) (conf : Conf) → IsConf conf → IsConfOf (lines_in text) conf → conf_of text ≡ Ok conf

-- the canonical text of a configuration is short enough to be read, and is read as it
pub record IsReadAs (conf : Conf) : Type 0 where
  pub short : length (conf_text conf) ≤ 16777216
  pub read : conf_of (conf_text conf) ≡ Ok conf

-- each configuration's is
abbrev pub ConfTextIsRead : Type 0
ConfTextIsRead = (conf : Conf) → IsConf conf → IsReadAs conf

-- a text that was printed, read and printed again is the same text
abbrev pub ConfTextIsPrintedAgain : Type 0
ConfTextIsPrintedAgain = (text : Text) (printed read : Conf) → IsConf printed → text ≡ conf_text printed → conf_of text ≡ Ok read → conf_text read ≡ text
