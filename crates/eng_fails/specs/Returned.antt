-- How a job that came back ends.
use Rattle.std.specs.Prelude.{◌≡◌, ◌⊎◌, ℕ, List, Bool, true, false, if◌then◌else◌, Option, Some, None}
use Rattle.blk_plain.specs.declared.op.Outcome.{Outcome}
use Rattle.blk_plain.specs.declared.op.Outcome.TheVariants.{Good, Bad}
use Rattle.blk_disk.specs.declared.disk.Disk.{Ghosts as DiskGhosts}
use Rattle.lay_core.specs.declared.layout.Layout.{Ghosts as LayoutGhosts}
use Rattle.eng_cols.specs.declared.spot.Spot.{Spot}
use Rattle.eng_job.specs.declared.job.Job.{Job}
use Rattle.eng_job.specs.declared.job.Work.{Work}
use Rattle.eng_job.specs.declared.job.Work.TheVariants.{Nothing, Read, Write, Sum}
use Rattle.eng_world.specs.declared.item.Traced.{Traced}
use Rattle.eng_world.specs.declared.item.Traced.TheVariants as event
use Rattle.eng_state.specs.declared.array.Array.{Array}
use Rattle.eng_parts.specs.Shelf.{Shelved, has_failed}
use Rattle.eng_clients.specs.Desk.{desk_at, spot_at}
use Rattle.eng_state.specs.Moves.{id_of}
use Rattle.eng_state.specs.Out.{CameBack}

-- the job is a write
abbrev pub IsWriteJob : {D : Type 0} → Job D → Type 0
IsWriteJob {D} job = (disk : D) × (first : ℕ) × (buffer : List ℕ) × (count : ℕ) × (job.work ≡ Write disk first buffer count)

module _ {L D : Type 0} where
  -- the device on which the unit of the job's node stood has failed, or hasn't
  abbrev pub DeviceFailed : Array L D → Job D → Bool → Type 0
  DeviceFailed core job failed = (at : Spot) → spot_at (desk_at core.clients job.client) job.node ≡ Some at → has_failed core.devices at.device ≡ failed

  -- the device answered so, or it is a write whose device failed since it was fired
  abbrev pub CameBackBad : Array L D → Job D → Outcome → Type 0
  CameBackBad core job outcome = (outcome ≡ Bad) ⊎ (IsWriteJob job × DeviceFailed core job true)

  -- the job is out, came back with some outcome, and ends bad
  pub record JobCameBad (lay : LayoutGhosts L) (disk : DiskGhosts D) (core : Array L D) (job : Job D) : Type 0 where
    pub outcome : Outcome
    pub back : CameBack disk lay core job outcome
    pub bad : CameBackBad core job outcome

-- the device of this place has failed, if there is one
abbrev pub failed_at : {D : Type 0} → Shelved D → Option Spot → Bool
failed_at s None = false
failed_at s (Some at) = has_failed s at.device

-- so ends what was done with this outcome, where it is known whether its device has failed
abbrev pub is_bad_end : {D : Type 0} → Outcome → Work D → Bool → Bool
is_bad_end Bad work failed = true
is_bad_end Good (Write disk first buffer count) failed = failed
is_bad_end Good (Read disk first buffer count) failed = false
is_bad_end Good (Sum to count) failed = false
is_bad_end Good Nothing failed = false

-- whether a job that came back with this outcome ends bad, and the event that it is
abbrev pub ends_bad : {L D : Type 0} → Array L D → Job D → Outcome → Bool
ends_bad core job outcome = is_bad_end outcome job.work (failed_at core.devices (spot_at (desk_at core.clients job.client) job.node))

abbrev pub ended_by : {L D : Type 0} → Array L D → Job D → Outcome → Traced
ended_by core job outcome = if ends_bad core job outcome then event.Bad (id_of core.clients job.client) job.node else event.Good (id_of core.clients job.client) job.node
