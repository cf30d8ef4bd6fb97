-- How the sources of an exclusive-or come home.
use Rattle.std.specs.Prelude.{◌≡◌, ◌<◌, ℕ, List, length, true, false, nat_eq}
use Rattle.std.specs.List.{IsDistinct, AllByRecursion}
use Rattle.buf_pool.specs.Pool.{PoolView, seat_at}
use Rattle.eng_job.specs.declared.job.Source.{Source}
use Rattle.eng_clients.specs.Seats.{lease_seat, bytes_at}
use Rattle.eng_clients.specs.Gathered.{has, numbers, IsNamed}

-- The sources are buffers of the lease, each once, which are out, with the bytes with which they left.
pub record SourcesOut (p : PoolView) (lease : List ℕ) (from : List Source) : Type 0 where
  pub below : (b : ℕ) → has (numbers from) b ≡ true → b < length lease
  pub seats : (b : ℕ) → has (numbers from) b ≡ true → (lease_seat p lease b).out ≡ true
  pub bytes : AllByRecursion (λ (s : Source). s.buffer ≡ bytes_at p lease s.at) from
  pub longs : AllByRecursion (λ (s : Source). length s.buffer ≡ p.unit) from
  pub once : IsDistinct nat_eq (numbers from)

-- The sources came home as they left, and of the pool nothing else changed.
pub record SourcesHome (old : PoolView) (lease : List ℕ) (from : List Source) (new : PoolView) : Type 0 where
  pub unit : new.unit ≡ old.unit
  pub free : new.free ≡ old.free
  pub seats : length new.seats ≡ length old.seats
  pub owner : (k : ℕ) → (seat_at new.seats k).owner ≡ (seat_at old.seats k).owner
  pub bytes : (k : ℕ) → (seat_at new.seats k).bytes ≡ (seat_at old.seats k).bytes
  pub came : (k : ℕ) → IsNamed lease (numbers from) k → (seat_at new.seats k).out ≡ false
  pub others : (k : ℕ) → (IsNamed lease (numbers from) k → ⊥) → seat_at new.seats k ≡ seat_at old.seats k
