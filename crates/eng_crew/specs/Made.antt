-- An event is made in a turn.
use Rattle.std.specs.Prelude.{Option, None, Some}
use Rattle.blk_disk.specs.declared.disk.Disk.{Ghosts as DiskGhosts}
use Rattle.lay_core.specs.declared.layout.Layout.{Ghosts as LayoutGhosts}
use Rattle.eng_job.specs.declared.job.Job.{Job}
use Rattle.eng_array.specs.declared.calls.Core.{Core}
use Rattle.eng_array.specs.Progress.{Falls}
use Rattle.eng_array.specs.Steady.{IsSteady}
use Rattle.eng_array.specs.Tickets.{Quiet}
use Rattle.eng_crew.specs.Laws.{TurnsTo}

-- A pass without a job goes on with this job or none, by an event and perhaps the end of the node that it fires; and less is left to do.
pub record IsMade {L D : Type 0} (lay : LayoutGhosts L) (disk : DiskGhosts D) (old new : Core L D) (job : Option (Job D)) : Type 0 where
  pub turned : TurnsTo lay disk old None new job
  pub steady : IsSteady lay disk new.array
  pub falls : Falls old.array new.array

-- The same from whatever core on that a look left as `chosen`: it chose the event, and changed no more than whose turn is next.
abbrev pub IsMadeSinceLook : {L D : Type 0} → LayoutGhosts L → DiskGhosts D → Core L D → Core L D → Option (Job D) → Type 0
IsMadeSinceLook lay disk chosen new job = (old : Core _ _) → Quiet lay disk old.array chosen.array → IsSteady lay disk old.array → IsMade lay disk old new job

-- The end of that job has been made from whatever core on that its firing left as `fired`.
abbrev pub IsMadeSinceFiring : {L D : Type 0} → LayoutGhosts L → DiskGhosts D → Job D → Core L D → Core L D → Type 0
IsMadeSinceFiring lay disk job fired new = (old : Core _ _) → IsMade lay disk old fired (Some job) → IsMade lay disk old new None
