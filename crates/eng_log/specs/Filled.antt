-- The buffers of new data, filled.
use Rattle.blk_disk.specs.Disk.{sector_at}
use Rattle.std.specs.Prelude.{◌≡◌, ◌<◌, ◌≤◌, ◌*◌, ◌+◌, ℕ, List, length, get_or, slice_index, slice_set, Some, Contains, ◌-◌}
use Rattle.buf_pool.specs.Pool.{PoolView, seat_at, IsLease, AllHome}
use Rattle.graph_mean.specs.Graph.{View, buf_at}
use Rattle.lay_core.specs.Layout.{Shape, block_of}
use Rattle.graph_mean.specs.Steps.{Covers, stripe_of}
use Rattle.blk_plain.specs.declared.op.Patch.{Patch}
use Rattle.blk_plain.specs.declared.op.Op.{Op}
use Rattle.blk_plain.specs.declared.op.Op.TheVariants.{Write, Writes, Read, Rebuild, Sync}
use Rattle.blk_plain.specs.Plain.{sector_of, patched_sector, zero_sector}
use Rattle.eng_world.specs.Planning.{fresh}

-- byte k of a buffer at an offset that it covers
abbrev pub buffer_byte : View → List ℕ → ℕ → ℕ → ℕ → ℕ
buffer_byte g bytes b o k = get_or (sector_at bytes (o - (buf_at g b).from)) k 0

-- the bytes of a lease's buffer of that number
abbrev pub bytes_of : PoolView → List ℕ → ℕ → List ℕ
bytes_of p l b = (seat_at p.seats (get_or l b 0)).bytes

-- the pool where the buffer at seat k has these bytes
abbrev pub stored : PoolView → ℕ → List ℕ → PoolView
stored p k bytes = record p { seats = slice_set p.seats k (record (seat_at p.seats k) { bytes = bytes }) }

-- the sector of an operation that writes the same to each of its blocks, or of zeros
abbrev pub same_sector : Op → List ℕ
same_sector (Write span pattern) = sector_of pattern
same_sector (Writes patches) = zero_sector
same_sector (Read span) = zero_sector
same_sector (Rebuild stripe) = zero_sector
same_sector (Sync stripe) = zero_sector

-- the lease has a buffer at home for each of the graph's, long enough for its sectors
pub record HasBuffers (g : View) (p : PoolView) (l : List ℕ) : Type 0 where
  pub lease : IsLease p l
  pub home : AllHome p l
  pub count : length g.bufs ≤ length l
  pub long : (b : ℕ) → b < length g.bufs → 512 * (buf_at g b).count ≤ p.unit

-- Nothing of a pool changed but the bytes of this lease's buffers.
pub record FillsAlone (old : PoolView) (l : List ℕ) (new : PoolView) : Type 0 where
  pub unit : new.unit ≡ old.unit
  pub free : new.free ≡ old.free
  pub seats : length new.seats ≡ length old.seats
  pub owners : (k : ℕ) → (seat_at new.seats k).owner ≡ (seat_at old.seats k).owner
  pub homes : (k : ℕ) → (seat_at new.seats k).out ≡ (seat_at old.seats k).out
  pub others : (k : ℕ) → ¬ Contains l k → seat_at new.seats k ≡ seat_at old.seats k

-- the sector that some patches write to the j-th block of a buffer of data unit u, or zeros
abbrev pub sector_for : Shape → List ℕ → View → List Patch → ℕ → ℕ → ℕ → List ℕ
sector_for y stripes g ps b u j = patched_sector ps (block_of y (slice_index stripes (stripe_of g b)) u (buf_at g b).from + j) zero_sector

-- and its buffers of new data, in these stripes, hold what the operation writes to their blocks, or zeros
pub record Filled (y : Shape) (stripes : List ℕ) (g : View) (op : Op) (l : List ℕ) (old new : PoolView) : Type 0 where
  pub alone : FillsAlone old l new
  pub fresh_is : (b u o k : ℕ) → (buf_at g b).new_of ≡ Some u → Covers g b o → k < 512 → buffer_byte g (bytes_of new l b) b o k ≡ fresh op (block_of y (slice_index stripes (stripe_of g b)) u o) k
