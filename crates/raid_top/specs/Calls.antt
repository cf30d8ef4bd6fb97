-- How a call of the program ends, and what it prints.
use Rattle.std.specs.Prelude.{ℕ, List, ◌++◌}
use Rattle.top_status.specs.declared.status.Status.{Status}
use Rattle.top_status.specs.declared.status.Status.TheVariants as status
use Rattle.top_status.specs.Dead.{dead_text}
use Rattle.top_status.specs.Refusals.{Refused}
use Rattle.top_status.specs.Status.{status_text}
use Rattle.raid_top.specs.Outcome.{Outcome, outcome_text, status_of}

-- An action on an array came to this; or this is told of a list of components, of requests to a simulated disk, or of a configuration alone, or is one of the program's own texts; or the call was refused.
pub data CallOutcome : Type 0 where
  OfArray : (o : Outcome) → CallOutcome
  OfScan : (text : List ℕ) → CallOutcome
  OfSimulation : (text : List ℕ) → CallOutcome
  OfConf : (text : List ℕ) → CallOutcome
  OfTopic : (text : List ℕ) → CallOutcome
  Refuses : (r : Refused) → CallOutcome

-- its status
abbrev pub call_status : CallOutcome → Status
call_status (OfArray o) = status_of o
call_status (OfScan text) = status.Ok
call_status (OfSimulation text) = status.Ok
call_status (OfConf text) = status.Ok
call_status (OfTopic text) = status.Ok
call_status (Refuses r) = r.status

-- all that is printed; behind one of the program's own texts there is no status
abbrev pub call_text : CallOutcome → List ℕ
call_text (OfArray o) = outcome_text o
call_text (OfScan text) = text ++ status_text status.Ok
call_text (OfSimulation text) = text ++ status_text status.Ok
call_text (OfConf text) = text ++ status_text status.Ok
call_text (OfTopic text) = text
call_text (Refuses r) = dead_text r.dead ++ status_text r.status
