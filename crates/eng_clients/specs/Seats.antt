-- The buffers of a client's lease.
use Rattle.std.specs.Prelude.{ℕ, List, get_or, ◌≡◌, ◌↔◌, ◌⊎◌, length, true}
use Rattle.buf_pool.specs.Pool.{PoolView, SeatView, seat_at}
use Rattle.eng_clients.specs.Desk.{Desk}

-- the seat of a lease's buffer of that number
abbrev pub lease_seat : PoolView → List ℕ → ℕ → SeatView
lease_seat p seats b = seat_at p.seats (get_or seats b 0)

-- and that of the desk's
abbrev pub seat_of : PoolView → Desk → ℕ → SeatView
seat_of p d b = lease_seat p d.lease b

-- and its bytes: those that it has, or those with which it left
abbrev pub bytes_at : PoolView → List ℕ → ℕ → List ℕ
bytes_at p seats b = (seat_at p.seats (get_or seats b 0)).bytes

-- of a pool some buffers left or came home, with the bytes that they had; and these seats are out now
pub record BuffersLeft (old : PoolView) (is_out : ℕ → Type 0) (new : PoolView) : Type 0 where
  pub unit : new.unit ≡ old.unit
  pub free : new.free ≡ old.free
  pub seats : length new.seats ≡ length old.seats
  pub owner : (k : ℕ) → (seat_at new.seats k).owner ≡ (seat_at old.seats k).owner
  pub bytes : (k : ℕ) → (seat_at new.seats k).bytes ≡ (seat_at old.seats k).bytes
  pub out : (k : ℕ) → ((seat_at new.seats k).out ≡ true) ↔ (((seat_at old.seats k).out ≡ true) ⊎ is_out k)

-- of a pool the buffers of these seats came home, with whatever bytes
pub record BuffersCame (old : PoolView) (is_home : ℕ → Type 0) (new : PoolView) : Type 0 where
  pub unit : new.unit ≡ old.unit
  pub free : new.free ≡ old.free
  pub seats : length new.seats ≡ length old.seats
  pub owner : (k : ℕ) → (seat_at new.seats k).owner ≡ (seat_at old.seats k).owner
  pub came : (k : ℕ) → is_home k → (seat_at new.seats k).out ≡ true → ⊥
  pub others : (k : ℕ) → (is_home k → ⊥) → seat_at new.seats k ≡ seat_at old.seats k
