-- Sources of an exclusive-or, each gathered once.
use Rattle.std.specs.Prelude.{◌≡◌, ◌<◌, ◌≤◌, ◌++◌, ◌∷◌, [], ℕ, List, length, map, get_or, slice_index, Bool, true, false, not, if◌then◌else◌, ◌==◌, nat_eq, All}
use Rattle.std.specs.List.{IsDistinct, AllByRecursion, list_any}
use Rattle.buf_pool.specs.Pool.{PoolView, taken}
use Rattle.graph_mean.specs.Sums.{xor_by}
use Rattle.eng_job.specs.declared.job.Source.{Source}
use Rattle.eng_job.specs.Performed.{sum_at}
use Rattle.eng_clients.specs.Seats.{lease_seat, bytes_at, BuffersLeft}

-- the number is one of these
abbrev pub has : List ℕ → ℕ → Bool
has named b = list_any (nat_eq b) named

-- the source, counting the other way if it is this one
abbrev pub turned : ℕ → Source → Source
turned at s = if s.at == at then record s { counts = not s.counts } else s

-- a source that counts, with the bytes that its buffer has
abbrev pub source_of : PoolView → List ℕ → ℕ → Source
source_of p lease b = record { at = b; counts = true; buffer = bytes_at p lease b }

-- one source more: it left the pool, or counts the other way
pub record GathersOne (old : PoolView) (lease : List ℕ) (b : ℕ) (from : List Source) (new : PoolView) (now : List Source) : Type 0 where
  pub home : (lease_seat old lease b).out ≡ false → (new ≡ taken old (get_or lease b 0)) × (now ≡ from ++ source_of old lease b ∷ []) × (length (bytes_at old lease b) ≡ old.unit)
  pub out : (lease_seat old lease b).out ≡ true → (new ≡ old) × (now ≡ map (turned b) from)

-- the numbers are some of a lease, of at most 2,048 buffers
pub record AreInLease (lease : List ℕ) (named : List ℕ) : Type 0 where
  pub bufs : ℕ
  pub few : bufs ≤ 2048
  pub leased : bufs ≤ length lease
  pub below : All (λ b. b < bufs) named

-- a seat of one of these buffers
abbrev pub IsNamed : List ℕ → List ℕ → ℕ → Type 0
IsNamed lease named k = (b : ℕ) × (has named b ≡ true) × (get_or lease b 0 ≡ k)

-- the numbers of sources
abbrev pub numbers : List Source → List ℕ
numbers from = map (λ (s : Source). s.at) from

-- The named buffers have left the pool, and stand in the list, each once, with its bytes; it counts if it is named an odd number of times.
pub record Gathered (old : PoolView) (lease : List ℕ) (named : List ℕ) (new : PoolView) (from : List Source) : Type 0 where
  pub pool : BuffersLeft old (IsNamed lease named) new
  pub bytes : AllByRecursion (λ (s : Source). s.buffer ≡ bytes_at old lease s.at) from
  pub long : AllByRecursion (λ (s : Source). length s.buffer ≡ old.unit) from
  pub all : (b : ℕ) → has (numbers from) b ≡ has named b
  pub once : IsDistinct nat_eq (numbers from)
  pub sum : (k : ℕ) → sum_at from k ≡ xor_by (λ b. slice_index (bytes_at old lease b) k) named
