-- Words by which code and proofs go, of what is printed.
use Rattle.std.specs.Prelude.{◌≡◌, ◌⊎◌, ℕ, List, [], ◌++◌, take, Option, Some, codes, decimal}
use Rattle.std.specs.Option.{option_map_or}
use Rattle.raid_script.specs.Replies.{replies_text}
use Rattle.raid_script.specs.History.{history_text}
use Rattle.raid_script.specs.Trace.{trace_text}
use Rattle.raid_script.specs.Summary.{summary_text}
use Rattle.top_run.specs.declared.service.Line.{Line}
use Rattle.top_run.specs.Work.{Service}
use Rattle.top_words.specs.declared.profile.Drawing.{Drawing}
use Rattle.top_status.specs.declared.status.Status.{Status}
use Rattle.top_status.specs.declared.status.Status.TheVariants as status
use Rattle.top_status.specs.Status.{status_of_loss}
use Rattle.top_acts.specs.declared.done.Done.{Done}
use Rattle.eng_cols.specs.declared.spot.Loss.{Loss}
use Rattle.raid_top.specs.Outcome.{status_of_act}
use Rattle.raid_top.specs.Rebuilt.{rebuild_line}

-- where the units of a rebuild went: onto a device, by its number, or into the stripes' spare places
abbrev pub place_text : Option ℕ → List ℕ
place_text place = option_map_or (λ device. codes " device " ++ decimal device) place (codes " spread")

-- the line, if there was a rebuild
abbrev pub rebuild_text : Option Line → List ℕ
rebuild_text line = option_map_or rebuild_line line []

-- what is told of a script: replies, history, and the trace where it is kept
abbrev pub script_text : Service → List ℕ
script_text s = replies_text s.clients s.replies s.sectors ++ history_text s.history ++ trace_text s.trace

-- what is told of a run, but for its end: where clients were drawn, their sums, and nothing where the array was lost; else of a script, and behind that of a rebuild, if there was one
abbrev pub run_text : Option Drawing → Service → List ℕ
run_text drawing s = option_map_or (λ (d : Drawing). option_map_or (λ loss. []) s.ending.lost (summary_text s.clients s.replies s.sectors)) drawing
    (script_text s ++ rebuild_text s.line)

-- how what was done ends
abbrev pub status_of_done : Done → Option Loss → Status
status_of_done act lost = option_map_or (λ loss. status_of_loss (Some loss)) lost (status_of_act act)

-- The answer is the status, and its output was printed whole; or the sink failed, and a front of that output was printed. `rose` says that the sink's count of faults rose.
abbrev pub Printed : Type 0 → Type 0 → Status → Status → List ℕ → List ℕ → List ℕ → Type 0
Printed tells rose ending answer text old new =
    ((answer ≡ ending) × (tells → new ≡ old ++ text))
    ⊎ ((answer ≡ status.SinkFault) × rose × (tells → (n : ℕ) × (new ≡ old ++ take n text)))
