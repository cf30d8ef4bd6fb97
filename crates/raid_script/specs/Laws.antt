-- That the reader reads exactly the scripts of the form.
use Rattle.std.specs.Prelude.{◌≡◌, ℕ, List, Ok}
use Rattle.raid_text.specs.Text.{Text, lines_in}
use Rattle.graph_text.specs.Format.{Named}
use Rattle.raid_script.specs.Asked.{Request, Scripted, scripted}
use Rattle.raid_script.specs.Texts.{script_of}
use Rattle.raid_script.specs.Form.{AreLinesOf, AreRequests}

-- the text has these items, line by line, and they are by client what is asked for
pub record IsScriptOf (book : List Named) (columns : ℕ) (text : Text) (script : Scripted) (requests : List Request) : Type 0 where
  pub are : AreRequests requests
  pub form : AreLinesOf book columns 0 requests (lines_in text)
  pub sorted : scripted requests ≡ script

-- what is read as a script is of the form of such items
abbrev pub ScriptIsOfTheForm : Type 0
ScriptIsOfTheForm = (book : List Named) (columns : ℕ) (text : Text) (script : Scripted) → script_of book columns text ≡ Ok script
    → (requests : List Request) × IsScriptOf book columns text script requests

-- each text of the form is read as its items
abbrev pub ScriptIsRead : Type 0
ScriptIsRead = (book : List Named) (columns : ℕ) (text : Text) (script : Scripted) (requests : List Request) → IsScriptOf book columns text script requests
    → script_of book columns text ≡ Ok script
