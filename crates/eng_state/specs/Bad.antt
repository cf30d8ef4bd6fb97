-- A read or a write that came back and ends bad.
use Rattle.std.specs.Prelude.{◌≡◌, ◌<◌, ◌≤◌, ◌+◌, ◌⊎◌, ℕ, List, length, Bool, true, Some, slice_get, slice_set, slice_index, if◌then◌else◌}
use Rattle.blk_plain.specs.declared.op.Outcome.{Outcome}
use Rattle.blk_plain.specs.declared.op.Outcome.TheVariants.{Bad}
use Rattle.blk_disk.specs.declared.disk.Disk.{Ghosts as DiskGhosts}
use Rattle.lay_core.specs.declared.layout.Layout.{Ghosts as LayoutGhosts}
use Rattle.graph_mean.specs.declared.step.Status.TheVariants as status
use Rattle.graph_mean.specs.declared.step.Phase.TheVariants.{Before}
use Rattle.graph_mean.specs.declared.graph.Node.TheVariants.{Rd, Wr}
use Rattle.graph_mean.specs.Graph.{kind_at}
use Rattle.graph_mean.specs.Steps.{stripe_of}
use Rattle.eng_one.specs.Control.{settled_in}
use Rattle.eng_cols.specs.declared.spot.Spot.{Spot}
use Rattle.eng_cols.specs.Cols.{Dead, HasDevice}
use Rattle.eng_cols.specs.Changes.{killed}
use Rattle.eng_cols.specs.Seats.{spot}
use Rattle.eng_state.specs.Failing.{FailedBy}
use Rattle.eng_job.specs.Performed.{Calls}
use Rattle.eng_state.specs.declared.array.Array.{Array}
use Rattle.eng_parts.specs.Shelf.{has_failed, failing}
use Rattle.eng_clients.specs.Desk.{Desk, desk_at, spot_at}
use Rattle.eng_state.specs.Sound.{IsOutOf}
use Rattle.eng_state.specs.Out.{AreOut}

-- a node has ended bad, and of its column's failure nothing was done yet
abbrev pub with_bad : Desk → ℕ → Desk
with_bad d n = record d { run = record d.run { marks = slice_set d.run.marks n status.Bad; phase = settled_in (slice_set d.run.marks n status.Bad) d.run.phase } }

module _ {L D : Type 0} (lay : LayoutGhosts L) where
  -- where the units of nodes that are out stood: on columns of the array; and the unit of a read in phase Before stands there still
  pub record Standing (core : Array L D) : Type 0 where
    pub within : (c n : ℕ) (at : Spot) → IsOutOf (desk_at core.clients c) n → spot_at (desk_at core.clients c) n ≡ Some at → at.column < (lay.shape core.layout).columns
    pub reads : (c n i b : ℕ) (at : Spot) → IsOutOf (desk_at core.clients c) n → (desk_at core.clients c).run.phase ≡ Before → kind_at (desk_at core.clients c).run.graph n ≡ Rd i b → spot_at (desk_at core.clients c) n ≡ Some at
        → spot (lay.shape core.layout) core.cols.states (slice_index (desk_at core.clients c).map.stripes (stripe_of (desk_at core.clients c).run.graph b)) i ≡ Some at

  -- node n of client c is out, a call on a unit through buffer b, fired where its unit stood; it left with this device and these bytes, and came back with these
  pub record CallBack (disk : DiskGhosts D) (core : Array L D) (c n : ℕ) (after : D) (first : ℕ) (now : List ℕ) (count : ℕ) (outcome : Outcome) : Type 0 where
    pub unit : ℕ
    pub buf : ℕ
    pub at : Spot
    pub left : D
    pub buffer : List ℕ
    pub writes : Bool
    pub out : IsOutOf (desk_at core.clients c) n
    pub kind : kind_at (desk_at core.clients c).run.graph n ≡ (if writes then Wr unit buf else Rd unit buf)
    pub spot : spot_at (desk_at core.clients c) n ≡ Some at
    pub are_out : AreOut disk (lay.shape core.layout) core.devices core.pool (desk_at core.clients c).run.graph (desk_at core.clients c).lease at buf left first buffer count
    pub calls : Calls disk left after (if writes then 1 else 0) first count outcome
    pub long : length now ≡ length buffer
    pub same_buffer : writes ≡ true → now ≡ buffer
    pub kept : disk.tells → (s : ℕ) → (writes ≡ true → (s < first) ⊎ (first + count ≤ s)) → disk.sector after s ≡ disk.sector left s

  -- it ends bad: the device answered so, or it is a write whose device failed since it was fired
  abbrev pub EndsBad : (disk : DiskGhosts D) (core : Array L D) (c n : ℕ) (after : D) (first : ℕ) (now : List ℕ) (count : ℕ) (outcome : Outcome) → CallBack disk core c n after first now count outcome → Type 0
  EndsBad disk core c n after first now count outcome b = (outcome ≡ Bad) ⊎ ((b.writes ≡ true) × (has_failed core.devices b.at.device ≡ true))

-- the column failed, or it was dead and nothing changed
abbrev pub FailedIfAlive : {L D : Type 0} → LayoutGhosts L → Array L D → ℕ → Array L D → Type 0
FailedIfAlive lay old k new = ((slice_get old.cols.states k ≡ Some Dead) × (new ≡ old)) ⊎ ((slice_get old.cols.states k ≡ Some Dead → ⊥) × FailedBy lay old k new)

-- ## Once the array is lost

-- the device on which the node's unit stood is on that column still, or has failed
abbrev pub IsOnColumn : {L D : Type 0} → Array L D → ℕ → ℕ → Type 0
IsOnColumn core c n = (at : Spot) → spot_at (desk_at core.clients c) n ≡ Some at → (has_failed core.devices at.device ≡ true) ⊎ HasDevice core.cols.states at.column at.device

-- the device has failed and the column is dead
abbrev pub struck_lost : {L D : Type 0} → Array L D → Spot → Array L D
struck_lost core at = record core { devices = failing core.devices at.device; cols = record core.cols { states = killed core.cols.states at.column } }
