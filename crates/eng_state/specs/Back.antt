-- A read or a write that came back.
use Rattle.std.specs.Prelude.{◌≡◌, ℕ, List, Some}
use Rattle.blk_plain.specs.declared.op.Outcome.{Outcome}
use Rattle.blk_disk.specs.declared.disk.Disk.{Ghosts as DiskGhosts}
use Rattle.lay_core.specs.declared.layout.Layout.{Ghosts as LayoutGhosts}
use Rattle.graph_mean.specs.declared.graph.Node.TheVariants.{Rd, Wr}
use Rattle.graph_mean.specs.Graph.{kind_at}
use Rattle.eng_cols.specs.declared.spot.Spot.{Spot}
use Rattle.eng_job.specs.Performed.{Reads, Writes}
use Rattle.eng_state.specs.declared.array.Array.{Array}
use Rattle.eng_clients.specs.Desk.{desk_at, spot_at}
use Rattle.eng_state.specs.Sound.{IsOutOf}
use Rattle.eng_state.specs.Out.{AreOut}

module _ {L D : Type 0} (lay : LayoutGhosts L) (disk : DiskGhosts D) where
  -- node n of client c is out, a read of unit i into buffer b, fired where its unit stood; it left with this device and these bytes, and came back with these
  pub record ReadBack (core : Array L D) (c n : ℕ) (after : D) (first : ℕ) (now : List ℕ) (count : ℕ) (outcome : Outcome) : Type 0 where
    pub unit : ℕ
    pub buf : ℕ
    pub at : Spot
    pub left : D
    pub buffer : List ℕ
    pub out : IsOutOf (desk_at core.clients c) n
    pub kind : kind_at (desk_at core.clients c).run.graph n ≡ Rd unit buf
    pub spot : spot_at (desk_at core.clients c) n ≡ Some at
    pub are_out : AreOut disk (lay.shape core.layout) core.devices core.pool (desk_at core.clients c).run.graph (desk_at core.clients c).lease at buf left first buffer count
    pub reads : Reads disk left after first buffer now count outcome

  -- the same of a write, whose buffer came back as it left
  pub record WriteBack (core : Array L D) (c n : ℕ) (after : D) (first : ℕ) (now : List ℕ) (count : ℕ) (outcome : Outcome) : Type 0 where
    pub unit : ℕ
    pub buf : ℕ
    pub at : Spot
    pub left : D
    pub out : IsOutOf (desk_at core.clients c) n
    pub kind : kind_at (desk_at core.clients c).run.graph n ≡ Wr unit buf
    pub spot : spot_at (desk_at core.clients c) n ≡ Some at
    pub are_out : AreOut disk (lay.shape core.layout) core.devices core.pool (desk_at core.clients c).run.graph (desk_at core.clients c).lease at buf left first now count
    pub writes : Writes disk left after first now count outcome
