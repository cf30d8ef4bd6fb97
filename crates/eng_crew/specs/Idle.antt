-- When a worker may end.
use Rattle.std.specs.Prelude.{◌≡◌, ◌⊎◌, Option, Some, None}
use Rattle.std.specs.Global.{Box}
use Rattle.blk_disk.specs.declared.disk.Disk.{Ghosts as DiskGhosts}
use Rattle.lay_core.specs.declared.layout.Layout.{Ghosts as LayoutGhosts}
use Rattle.eng_job.specs.declared.job.Job.{Job}
use Rattle.eng_state.specs.declared.array.Array.{Array}
use Rattle.eng_array.specs.declared.calls.Core.{Core}
use Rattle.eng_choice.specs.Picked.{IsResting, IsStuck}
use Rattle.eng_array.specs.Tickets.{After}
use Rattle.eng_turn.specs.declared.turn.Pass.{Pass}
use Rattle.eng_turn.specs.declared.turn.Turn.{Turn}
use Rattle.eng_turn.specs.Turn.{IsOf, IsOutside, ticket_of, mark_of, share_of}

module _ {L D : Type 0} (lay : LayoutGhosts L) where
  -- all is done, or nothing can be done but that jobs come home
  abbrev pub IsIdle : Array L D → Type 0
  IsIdle core = IsResting core ⊎ IsStuck lay core

  -- an idle core stands on the way from the one core to the other, by events of clients alone
  pub record WasIdle (disk : DiskGhosts D) (old new : Array L D) : Type 0 where
    pub mid : Array L D
    pub idle : IsIdle mid
    pub before : After lay disk old mid
    pub behind : After lay disk mid new

module _ {R L D : Type 0} where
  -- the pass is this turn's and outside, with no job
  abbrev pub IsReady : Turn R (Box (Core L D)) (Option (Job D)) → Pass R (Box (Core L D)) (Option (Job D)) → Type 0
  IsReady t p = IsOf p t × IsOutside p × (ticket_of p ≡ None)

  -- and it has one share
  abbrev pub IsSpare : Turn R (Box (Core L D)) (Option (Job D)) → Pass R (Box (Core L D)) (Option (Job D)) → Type 0
  IsSpare t p = IsReady t p × (share_of p ≡ 1)

  -- the core that the pass left last is idle, and comes after the opening
  abbrev pub HasIdleMark : LayoutGhosts L → DiskGhosts D → Box (Core L D) → Pass R (Box (Core L D)) (Option (Job D)) → Type 0
  HasIdleMark lay disk opening p = (m : Box (Core L D)) × (mark_of p ≡ Some m) × IsIdle lay m.value.array × After lay disk opening.value.array m.value.array
