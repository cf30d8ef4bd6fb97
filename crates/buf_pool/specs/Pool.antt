-- A pool as contracts see it: for each seat whose it is, whether its buffer is at home, and the bytes.
use Rattle.std.specs.Prelude.{◌≡◌, ◌≢◌, ℕ, ◌+◌, ◌<◌, ◌≤◌, List, [], length, Bool, true, false, get_or, slice_set, map, sum_by, replicate, Contains}
use Rattle.buf_pool.specs.declared.seat.Owner.{Owner}
use Rattle.buf_pool.specs.declared.seat.Owner.TheVariants.{Free, Leased}
use Rattle.buf_pool.specs.declared.seat.Place.{Place}
use Rattle.buf_pool.specs.declared.seat.Place.TheVariants.{Home, Out}
use Rattle.buf_pool.specs.declared.seat.Seat.{Seat}

-- whose the seat is, whether its buffer is out, and the bytes: those that it has, or those with which it left
pub record SeatView : Type 0 where
  pub owner : Owner
  pub out : Bool
  pub bytes : List ℕ

-- how many bytes a buffer has, the free seats, with the one that is lent next at the end, and all seats
pub record PoolView : Type 0 where
  pub unit : ℕ
  pub free : List ℕ
  pub seats : List SeatView

abbrev pub is_out : Place → Bool
is_out (Home bytes) = false
is_out (Out copy) = true

abbrev pub bytes_in : Place → List ℕ
bytes_in (Home bytes) = bytes
bytes_in (Out copy) = copy.value

abbrev pub seen : Seat → SeatView
seen s = record { owner = s.owner.value; out = is_out s.place; bytes = bytes_in s.place }

-- what is seen of a pool's fields
abbrev pub shown : ℕ → List ℕ → List Seat → PoolView
shown unit free seats = record { unit = unit; free = free; seats = map seen seats }

-- no seat
abbrev pub nowhere : SeatView
nowhere = record { owner = Leased 0 0; out = false; bytes = [] }

abbrev pub seat_at : List SeatView → ℕ → SeatView
seat_at seats k = get_or seats k nowhere

-- ---- whose a seat is

-- 1 for a lease's seat
abbrev pub leased : Owner → ℕ
leased (Free at) = 0
leased (Leased first place) = 1

abbrev pub leased_in : SeatView → ℕ
leased_in v = leased v.owner

-- how many seats are leases'
abbrev pub leased_count : List SeatView → ℕ
leased_count seats = sum_by leased_in seats

-- the seat is no lease's
abbrev pub IsFree : SeatView → Type 0
IsFree v = leased_in v ≡ 0

-- the seats of a lease of this pool: each says that it is this lease's, at its place
abbrev pub IsLease : PoolView → List ℕ → Type 0
IsLease p l = (i : ℕ) → i < length l → (get_or l i 0 < length p.seats) × ((seat_at p.seats (get_or l i 0)).owner ≡ Leased (get_or l 0 0) i)

-- all its buffers are at home
abbrev pub AllHome : PoolView → List ℕ → Type 0
AllHome p l = (i : ℕ) → i < length l → (seat_at p.seats (get_or l i 0)).out ≡ false

-- two leases have no seat in common
abbrev pub AreApart : List ℕ → List ℕ → Type 0
AreApart l m = (i j : ℕ) → i < length l → j < length m → get_or l i 0 ≢ get_or m j 0

-- ---- what holds of every pool

-- the free seats are those on the list, each where it says, with their buffers at home; the others are leases'; each buffer has the unit's bytes
pub record IsPool (p : PoolView) : Type 0 where
  pub listed : (at : ℕ) → at < length p.free → (get_or p.free at 0 < length p.seats) × ((seat_at p.seats (get_or p.free at 0)).owner ≡ Free at)
  pub whole : length p.free + leased_count p.seats ≡ length p.seats
  pub room : length p.seats ≤ 2048
  pub home : (k at : ℕ) → k < length p.seats → (seat_at p.seats k).owner ≡ Free at → (at < length p.free) × (get_or p.free at 0 ≡ k) × ((seat_at p.seats k).out ≡ false)
  pub long : (k : ℕ) → k < length p.seats → length (seat_at p.seats k).bytes ≡ p.unit

-- ---- what each call does

-- all seats are free, with zero bytes at home
pub record IsFresh (p : PoolView) (count : ℕ) : Type 0 where
  pub seats : length p.seats ≡ count
  pub free : length p.free ≡ count
  pub each : (k : ℕ) → k < count → seat_at p.seats k ≡ record { owner = Free k; out = false; bytes = replicate p.unit 0 }

-- n free seats became this lease's, and nothing else changed
pub record Leases (old : PoolView) (n : ℕ) (l : List ℕ) (new : PoolView) : Type 0 where
  pub count : length l ≡ n
  pub unit : new.unit ≡ old.unit
  pub free : length old.free ≡ length new.free + n
  pub seats : length new.seats ≡ length old.seats
  pub is_lease : IsLease new l
  pub all_home : AllHome new l
  pub were_free : (i : ℕ) → i < length l → IsFree (seat_at old.seats (get_or l i 0))
  pub bytes : (i : ℕ) → i < length l → (seat_at new.seats (get_or l i 0)).bytes ≡ (seat_at old.seats (get_or l i 0)).bytes
  pub others : (k : ℕ) → ¬ Contains l k → seat_at new.seats k ≡ seat_at old.seats k

-- each lease that there was is one still, and has no seat of the new one
abbrev pub StandsApart : PoolView → List ℕ → PoolView → Type 0
StandsApart old l new = (m : List ℕ) → IsLease old m → IsLease new m × AreApart m l

-- the lease's seats are free again, and nothing else changed
pub record Returns (old : PoolView) (l : List ℕ) (new : PoolView) : Type 0 where
  pub unit : new.unit ≡ old.unit
  pub free : length new.free ≡ length old.free + length l
  pub seats : length new.seats ≡ length old.seats
  pub are_free : (i : ℕ) → i < length l → IsFree (seat_at new.seats (get_or l i 0))
  pub all_home : AllHome new l
  pub bytes : (i : ℕ) → i < length l → (seat_at new.seats (get_or l i 0)).bytes ≡ (seat_at old.seats (get_or l i 0)).bytes
  pub others : (k : ℕ) → ¬ Contains l k → seat_at new.seats k ≡ seat_at old.seats k

-- each other lease is one still
abbrev pub KeepsOthers : PoolView → List ℕ → PoolView → Type 0
KeepsOthers old l new = (m : List ℕ) → IsLease old m → AreApart m l → IsLease new m

-- each lease is one still
abbrev pub KeepsLeases : PoolView → PoolView → Type 0
KeepsLeases old new = (m : List ℕ) → IsLease old m → IsLease new m

-- the pool whose seat k alone differs: its buffer left, or came back with these bytes
abbrev pub taken : PoolView → ℕ → PoolView
taken p k = record p { seats = slice_set p.seats k (record (seat_at p.seats k) { out = true }) }

abbrev pub put : PoolView → ℕ → List ℕ → PoolView
put p k bytes = record p { seats = slice_set p.seats k (record (seat_at p.seats k) { out = false; bytes = bytes }) }

-- ---- one seat

-- the seats with one more given to a lease, and with one given back
abbrev pub claim : ℕ → ℕ → ℕ → List SeatView → List SeatView
claim first place k seats = slice_set seats k (record (seat_at seats k) { owner = Leased first place })

abbrev pub release : ℕ → ℕ → List SeatView → List SeatView
release at k seats = slice_set seats k (record (seat_at seats k) { owner = Free at })
