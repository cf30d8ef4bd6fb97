-- What comes of an action on an array, and what is printed of it.
use Rattle.std.specs.Prelude.{ℕ, zero, suc, List, [], ◌++◌, Some, flat_map}
use Rattle.raid_script.specs.Replies.{replies_text}
use Rattle.raid_script.specs.History.{history_text}
use Rattle.raid_script.specs.Trace.{event_line}
use Rattle.raid_script.specs.Summary.{summary_text}
use Rattle.top_status.specs.declared.status.Status.{Status}
use Rattle.top_status.specs.declared.status.Status.TheVariants as status
use Rattle.top_status.specs.Status.{ending_text, status_of_loss, status_text}
use Rattle.top_acts.specs.declared.done.Done.{Done}
use Rattle.top_acts.specs.declared.done.Done.TheVariants as done
use Rattle.top_acts.specs.Done.{done_text}
use Rattle.top_run.specs.Work.{Ending, Service}
use Rattle.top_words.specs.Asked.{Action, profile_of}
use Rattle.top_words.specs.declared.profile.Drawing.{Drawing}
use Rattle.raid_top.specs.Rebuilt.{rebuild_line}
use Rattle.std.specs.Option.{option_map_or}

-- A script was run, or items that were drawn; or something was done to the array without a core, or
-- it was lost before the core was opened; or it was looked at, and this is what is said of it.
pub data Outcome : Type 0 where
  Ran : (action : Action) (s : Service) → Outcome
  Did : (act : Done) (e : Ending) → Outcome
  Looked : (text : List ℕ) → Outcome

-- how it ends where the array isn't lost: well, but for stripes that were found not to be in sync
abbrev pub status_of_act : Done → Status
status_of_act (done.Check (suc n)) = status.NotInSync (suc n)
status_of_act (done.Check zero) = status.Ok
status_of_act done.Nothing = status.Ok
status_of_act (done.Init n) = status.Ok
status_of_act (done.Rewrite n) = status.Ok
status_of_act (done.Killed c) = status.Ok
status_of_act (done.Labelled n) = status.Ok

-- the status, a lost run's too
abbrev pub status_of : Outcome → Status
status_of (Ran action s) = status_of_loss s.ending.lost
status_of (Did act e) = option_map_or (λ loss. status_of_loss (Some loss)) e.lost (status_of_act act)
status_of (Looked text) = status.Ok

-- All that is printed: what a run tells, or the line of what was done, if it has one, the columns that are dead in the end, and the status. A run tells, where clients were drawn, their sums, and nothing where the array was lost; else of a script its replies, its history, and the trace where it is kept, and behind that of a rebuild, if there was one.
abbrev pub outcome_text : Outcome → List ℕ
outcome_text (Ran action s) =
    option_map_or (λ (d : Drawing). option_map_or (λ loss. []) s.ending.lost (summary_text s.clients s.replies s.sectors)) (profile_of action).drawn
    ((replies_text s.clients s.replies s.sectors ++ history_text s.history ++ flat_map event_line s.trace) ++ option_map_or rebuild_line s.line [])
    ++ ending_text s.ending.columns (status_of_loss s.ending.lost)
outcome_text (Did act e) = done_text act ++ ending_text e.columns (status_of (Did act e))
outcome_text (Looked text) = text ++ status_text status.Ok
