-- Two buffers of a lease have two seats.
use Rattle.std.proofs.Common.{◌≡◌, ℕ, ◌<◌, List, length, get_or, sym, ap, ◌∙◌}
use Rattle.std.specs.Prelude.{}
use Rattle.buf_pool.specs.Pool as pool
use Rattle.buf_pool.specs.declared.seat.Owner.{Owner}
use Rattle.buf_pool.specs.declared.seat.Owner.TheVariants.{Free, Leased}

-- within a lease no two buffers have one seat
abbrev pub place_in : Owner → ℕ
place_in (Free at) = at
place_in (Leased first at) = at

pub seats-differ : (p : pool.PoolView) (l : List ℕ) → pool.IsLease p l → (a b : ℕ) → a < length l → b < length l → get_or l a 0 ≡ get_or l b 0 → a ≡ b
seats-differ p l lease a b ha hb e = ap place_in (sym (lease a ha).1 ∙ (ap (λ (k : ℕ). (pool.seat_at p.seats k).owner) e ∙ (lease b hb).1))
