-- An exclusive-or that came back, and how its target and its sources come home.
use Rattle.std.specs.Prelude.{◌≡◌, ◌+◌, ℕ, List, get_or, slice_set}
use Rattle.blk_plain.specs.declared.op.Outcome.{Outcome}
use Rattle.blk_plain.specs.declared.op.Outcome.TheVariants.{Good}
use Rattle.blk_disk.specs.declared.disk.Disk.{Ghosts as DiskGhosts}
use Rattle.buf_pool.specs.Pool.{PoolView, put}
use Rattle.graph_mean.specs.declared.graph.Node.TheVariants.{Xor}
use Rattle.graph_mean.specs.Graph.{kind_at, vertex_at}
use Rattle.eng_job.specs.declared.job.Source.{Source}
use Rattle.eng_job.specs.Performed.{Sums}
use Rattle.eng_state.specs.declared.array.Array.{Array}
use Rattle.eng_clients.specs.Desk.{desk_at, with_ended}
use Rattle.eng_state.specs.Sound.{IsOutOf}
use Rattle.eng_clients.specs.Scattered.{SourcesHome}
use Rattle.eng_state.specs.Out.{AreSources}

module _ {L D : Type 0} where
  -- node n of client c is out, an exclusive-or that left with this list of sources, and whose target came back with these bytes
  pub record SumBack (disk : DiskGhosts D) (core : Array L D) (c n : ℕ) (now : List ℕ) (from : List Source) (count : ℕ) (outcome : Outcome) : Type 0 where
    pub to : ℕ
    pub target : List ℕ
    pub out : IsOutOf (desk_at core.clients c) n
    pub kind : kind_at (desk_at core.clients c).run.graph n ≡ Xor to
    pub are_sources : AreSources disk core.pool (desk_at core.clients c).run.graph (desk_at core.clients c).lease to (vertex_at (desk_at core.clients c).run.graph n).sources target from count
    pub sums : Sums target now from count outcome

  -- the target came home with these bytes, and the sources as they left, and the list; and the node has ended good
  pub record SumHome (old : Array L D) (c n to : ℕ) (now : List ℕ) (from : List Source) (new : Array L D) : Type 0 where
    pub clients : new.clients ≡ slice_set old.clients c (with_ended (desk_at old.clients c) n Good)
    pub mid : PoolView
    pub sources : SourcesHome old.pool (desk_at old.clients c).lease from mid
    pub pool : new.pool ≡ put mid (get_or (desk_at old.clients c).lease to 0) now
    pub lists : new.lists ≡ old.lists + 1
    pub devices : new.devices ≡ old.devices
    pub log : new.log ≡ old.log
    pub layout : new.layout ≡ old.layout
    pub cols : new.cols ≡ old.cols
    pub locks : new.locks ≡ old.locks
    pub graphs : new.graphs ≡ old.graphs
    pub lost : new.lost ≡ old.lost
    pub spare : new.spare ≡ old.spare
