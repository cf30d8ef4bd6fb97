-- What becomes of a script once its lines were read.
use Rattle.std.proofs.Common.{◌≡◌, ◌∙◌, ℕ, List, Ok, Err, refl, length}
use Rattle.raid_text.specs.Text.{Text, lines_in}
use Rattle.graph_text.specs.Format.{Named}
use Rattle.raid_script.specs.declared.fault.ScriptFault.{ScriptFault}
use Rattle.raid_script.specs.declared.fault.ScriptFault.TheVariants as fault
use Rattle.raid_script.specs.Answers.{GivesFault}
use Rattle.raid_script.specs.Asked.{AreFew, IsScript, Request, Scripted, scripted}
use Rattle.raid_script.specs.Texts.{script_of}
use Rattle.raid_script.specs.Steps.{requests_of, script_in}
use Rattle.raid_script.proofs.ByClient.{clients_few, script_asked}
use Rattle.raid_script.proofs.ScriptForm.{script_of_form}
use Rattle.raid_script.proofs.Same.{script_same}

-- the fault of a line is the script's
pub refused : (book : List Named) (columns : ℕ) (text : Text) (f : ScriptFault) → GivesFault f (requests_of book columns text) → GivesFault f (script_of book columns text)
refused book columns text (fault.At line code) told =
    let read : script_in book columns text ≡ Err (record { line = line; code = code }) = rw told refl in
    script_same book columns text ∙ read
refused book columns text fault.Memory told = tt

-- all lines were read
pub sorted : (book : List Named) (columns : ℕ) (text : Text) (requests : List Request) → requests_of book columns text ≡ Ok requests → script_of book columns text ≡ Ok (scripted requests)
sorted book columns text requests told =
    let read : script_in book columns text ≡ Ok (scripted requests) = rw told refl in
    script_same book columns text ∙ read

-- what was read may stand in a script, and is within its limits
pub are_asked : (book : List Named) (columns : ℕ) (text : Text) (script : Scripted) → script_of book columns text ≡ Ok script → IsScript columns (length book) script
are_asked book columns text script told =
    let s = script_of_form book columns text script told in
    rw (← s.1.sorted) (script_asked book columns s.0 (lines_in text) s.1.form)

pub are_few : (book : List Named) (columns : ℕ) (text : Text) (script : Scripted) → script_of book columns text ≡ Ok script → AreFew script.clients
are_few book columns text script told =
    let s = script_of_form book columns text script told in
    rw (← s.1.sorted) (clients_few s.0 s.1.are)
