-- Where to begin, where labels may say of an array that it lacks what it has.
use Rattle.std.specs.Prelude.{ℕ, ◌||◌, Bool, not, List, [], Option, Some, None, Result, Ok, Err, codes, if◌then◌else◌}
use Rattle.raid_text.specs.Text.{Text}
use Rattle.top_words.specs.Asked.{Command, profile_of}
use Rattle.top_words.specs.Judged.{Invocation, Tell, OnArray, OnConf, Scan, Simulate, invocation_of}

-- words, the name of a configuration, and the words behind it; all empty where there is no advice
pub record Advice : Type 0 where
  pub before : Text
  pub conf : Text
  pub behind : Text

abbrev pub no_advice : Advice
no_advice = record { before = []; conf = []; behind = [] }

-- devices with older labels are looked at as the newest label names them
abbrev pub adopt_advice : (conf : Text) → Advice
adopt_advice conf = record {
  before = codes "; if a call was stopped as it wrote labels, begin with raidctl ";
  conf = conf;
  behind = codes " -s --adopt";
}

-- none where it is too late for that, or the command does so itself
abbrev pub advice_unless : (late : Bool) → Command → Advice
advice_unless late command = if late || command.adopt then no_advice else adopt_advice command.conf

-- the array is lost; `-I` goes by no label
abbrev pub lost_advice : Option Command → Advice
lost_advice (Some command) = advice_unless (profile_of command.action).plain command
lost_advice None = no_advice

-- the array isn't clean, and lacks a column; it may have it where the newest label names a device for it, until that is
-- left out of a new round
abbrev pub doubt_advice : (named : Bool) → Option Command → Advice
doubt_advice named (Some command) = advice_unless (not named || (profile_of command.action).writes) command
doubt_advice named None = no_advice

abbrev pub command_by : Result Invocation ℕ → Option Command
command_by (Ok (Tell topic)) = None
command_by (Ok (OnArray command)) = Some command
command_by (Ok (Scan list)) = None
command_by (Ok (Simulate requests order)) = None
command_by (Ok (OnConf conf study)) = None
command_by (Err case) = None

-- what the words ask of an array, if they do
abbrev pub command_of : List Text → Option Command
command_of words = command_by (invocation_of words)
