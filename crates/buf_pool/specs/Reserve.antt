-- A pool as contracts see it that stands for 2,048 buffers, of which some have no memory.
use Rattle.std.specs.Prelude.{◌≡◌, ◌<◌, ◌≤◌, ◌+◌, ◌-◌, ◌++◌, ℕ, length, false, replicate}
use Rattle.buf_pool.specs.declared.seat.Owner.TheVariants.{Free}
use Rattle.buf_pool.specs.Pool.{PoolView, seat_at}

-- The pool, and as many more free buffers as it lacks. These have no seats, so that no lease has one of them.
abbrev pub whole : PoolView → PoolView
whole p = record { unit = p.unit; free = p.free ++ replicate (2048 - length p.seats) 2048; seats = p.seats }

-- so many of the free buffers are there
abbrev pub AreThere : PoolView → ℕ → Type 0
AreThere p n = n + 2048 ≤ length p.free + length p.seats

-- all 2,048 are free, and so many are there, with zero bytes at home
pub record IsStocked (p : PoolView) (count : ℕ) : Type 0 where
  pub seats : length p.seats ≡ count
  pub free : length p.free ≡ 2048
  pub each : (k : ℕ) → k < count → seat_at p.seats k ≡ record { owner = Free k; out = false; bytes = replicate p.unit 0 }
