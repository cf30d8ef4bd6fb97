-- Jobs that are out.
use Rattle.std.specs.Prelude.{◌≡◌, ◌≤◌, ℕ, List, [], length, true, Option, Some, slice_index, nat_eq, vec_capacity}
use Rattle.std.specs.List.{IsDistinct, AllByRecursion}
use Rattle.graph_mean.specs.Sums.{xor_by}
use Rattle.blk_disk.specs.declared.disk.Disk.{Ghosts as DiskGhosts}
use Rattle.buf_pool.specs.Pool as pool
use Rattle.lay_core.specs.Layout.{Shape}
use Rattle.lay_core.specs.declared.layout.Layout.{Ghosts as LayoutGhosts}
use Rattle.graph_mean.specs.declared.graph.Node.{Node}
use Rattle.graph_mean.specs.declared.graph.Node.TheVariants.{Rd, Wr, Xor, Cmt, Trm}
use Rattle.graph_mean.specs.Graph.{View, kind_at, vertex_at, buf_at}
use Rattle.eng_cols.specs.declared.spot.Spot.{Spot}
use Rattle.eng_cols.specs.Contents.{sector_at}
use Rattle.eng_job.specs.declared.job.Work.{Work}
use Rattle.eng_job.specs.declared.job.Work.TheVariants.{Nothing, Read, Write, Sum}
use Rattle.eng_job.specs.declared.job.Job.{Job}
use Rattle.eng_job.specs.declared.job.Source.{Source}
use Rattle.eng_job.specs.Performed.{HasRoom, Performed, sum_at}
use Rattle.blk_plain.specs.declared.op.Outcome.{Outcome}
use Rattle.eng_state.specs.declared.array.Array.{Array}
use Rattle.eng_parts.specs.Shelf.{Shelved, IsAway}
use Rattle.eng_clients.specs.Desk.{Desk, desk_at, spot_at}
use Rattle.eng_state.specs.Sound.{IsOutOf}
use Rattle.eng_clients.specs.Gathered.{has, numbers}
use Rattle.eng_clients.specs.Seats.{lease_seat, bytes_at}

-- the sector at which the buffer's range begins, where its unit stands there
abbrev pub first_of : Shape → View → ℕ → Spot → ℕ
first_of y g b at = sector_at y at (buf_at g b).from

module _ {D : Type 0} (disk : DiskGhosts D) where
  -- the device and the buffer of a call are out, as they are here, and the sectors lie on both
  pub record AreOut (y : Shape) (s : Shelved D) (p : pool.PoolView) (g : View) (lease : List ℕ) (at : Spot) (b : ℕ) (x : D) (first : ℕ) (buffer : List ℕ) (count : ℕ) : Type 0 where
    pub device : IsAway s at.device x
    pub seat : (lease_seat p lease b).out ≡ true
    pub bytes : buffer ≡ bytes_at p lease b
    pub long : length buffer ≡ p.unit
    pub first_is : first ≡ first_of y g b at
    pub count_is : count ≡ (buf_at g b).count
    pub room : HasRoom disk x first buffer count

  -- what leaves with an exclusive-or: its target, and each source once, which counts if it is named an odd number of times
  pub record AreSources (p : pool.PoolView) (g : View) (lease : List ℕ) (to : ℕ) (named : List ℕ) (target : List ℕ) (from : List Source) (count : ℕ) : Type 0 where
    pub seat : (lease_seat p lease to).out ≡ true
    pub is : target ≡ bytes_at p lease to
    pub long : length target ≡ p.unit
    pub count_is : count ≡ (buf_at g to).count
    pub seats : (b : ℕ) → has named b ≡ true → (lease_seat p lease b).out ≡ true
    pub bytes : AllByRecursion (λ (s : Source). s.buffer ≡ bytes_at p lease s.at) from
    pub longs : AllByRecursion (λ (s : Source). length s.buffer ≡ p.unit) from
    pub all : (b : ℕ) → has (numbers from) b ≡ has named b
    pub once : IsDistinct nat_eq (numbers from)
    pub sum : (k : ℕ) → sum_at from k ≡ xor_by (λ b. slice_index (bytes_at p lease b) k) named

  -- the work is that of a node of this kind, whose unit stood there as it was fired
  abbrev pub IsWork : Shape → Shelved D → pool.PoolView → View → List ℕ → Option Spot → Node → List ℕ → Work D → List Source → Type 0
  IsWork y s p g lease at (Rd unit b) named w from = (here : Spot) × (at ≡ Some here) × (x : D) × (first : ℕ) × (buffer : List ℕ) × (count : ℕ) × (w ≡ Read x first buffer count) × AreOut y s p g lease here b x first buffer count × (from ≡ [])
  IsWork y s p g lease at (Wr unit b) named w from = (here : Spot) × (at ≡ Some here) × (x : D) × (first : ℕ) × (buffer : List ℕ) × (count : ℕ) × (w ≡ Write x first buffer count) × AreOut y s p g lease here b x first buffer count × (from ≡ [])
  IsWork y s p g lease at (Xor to) named w from = (target : List ℕ) × (count : ℕ) × (w ≡ Sum target count) × AreSources p g lease to named target from count
  IsWork y s p g lease at Cmt named w from = (w ≡ Nothing) × (from ≡ [])
  IsWork y s p g lease at Trm named w from = (w ≡ Nothing) × (from ≡ [])

  -- node n of the desk is out, and this is its work as it left
  pub record IsJobOf (y : Shape) (s : Shelved D) (p : pool.PoolView) (d : Desk) (n : ℕ) (w : Work D) (from : List Source) : Type 0 where
    pub out : IsOutOf d n
    pub work : IsWork y s p d.run.graph d.lease (spot_at d n) (kind_at d.run.graph n) (vertex_at d.run.graph n).sources w from

  -- The job is out, and this is as it left.
  pub record IsOutIn (y : Shape) (desks : List Desk) (s : Shelved D) (p : pool.PoolView) (job : Job D) : Type 0 where
    pub is : IsJobOf y s p (desk_at desks job.client) job.node job.work job.sources.items
    pub room : 2048 ≤ vec_capacity job.sources

  abbrev pub IsOut : {L : Type 0} → LayoutGhosts L → Array L D → Job D → Type 0
  IsOut lay core job = IsOutIn (lay.shape core.layout) core.clients core.devices core.pool job

  -- the job is out, and is as `perform` left it with this outcome
  abbrev pub CameBack : {L : Type 0} → LayoutGhosts L → Array L D → Job D → Outcome → Type 0
  CameBack lay core job outcome = (left : Job D) × IsOut lay core left × Performed disk left job outcome

  -- each job that is out is out still, as it left, but the one of node n of client c
  abbrev pub OthersStay : {L : Type 0} → LayoutGhosts L → ℕ → ℕ → Array L D → Array L D → Type 0
  OthersStay lay c n old new = (job : Job D) → ((job.client ≡ c) × (job.node ≡ n) → ⊥) → IsOut lay old job → IsOut lay new job
