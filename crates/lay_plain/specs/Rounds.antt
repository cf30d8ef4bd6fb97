-- Stripes that are dealt out in rounds of m: stripe s is number s % m of round s / m.
use Rattle.std.specs.Prelude.{◌≡◌, ◌<◌, ◌≤◌, ◌+◌, ◌*◌, ◌/◌, ◌%◌, ℕ}
use Rattle.std.proofs.Common.{arith, sym, ap, ◌∙◌}
use Rattle.std.proofs.lemmas.Nat.{div-add-mod'}
use Rattle.std.proofs.Math.Nat.{mod-lt, mul_comm, mul-le-mul_left, div-lt_iff_lt-mul}
use Rattle.lay_plain.specs.Rotation.{remainders_differ}

-- each stripe of so many rounds lies in one of them
pub round_below : (m rounds s : ℕ) → 0 < m → s < m * rounds → s / m < rounds
round_below m rounds s some h = (div-lt_iff_lt-mul some).1 (let turned = mul_comm m rounds in omega (arith, turned, h))

-- a round that isn't empty has a stripe
pub some_stripes : (m rounds : ℕ) → 1 ≤ m → 1 ≤ rounds → 1 ≤ m * rounds
some_stripes m rounds some many = omega (arith, some, mul-le-mul_left m many)

-- stripes of one round and of one number in it are the same
pub same_stripe : (m s t : ℕ) → s / m ≡ t / m → s % m ≡ t % m → s ≡ t
same_stripe m s t round number = sym (div-add-mod' s m) ∙ (ap (λ (q : ℕ). q * m + s % m) round ∙ (ap (λ (r : ℕ). t / m * m + r) number ∙ div-add-mod' t m))

-- and so are stripes of one round whose units i lie on one column, where a stripe's units go from column to column
pub same_turn : (m s t i : ℕ) → 0 < m → s / m ≡ t / m → (s + i) % m ≡ (t + i) % m → s ≡ t
same_turn m s t i some round column =
    let one : s / m * m + i + s % m ≡ s + i = omega (arith, div-add-mod' s m) in
    let two : s / m * m + i + t % m ≡ t + i = omega (arith, div-add-mod' t m, ap (λ (q : ℕ). q * m) round) in
    same_stripe m s t round (remainders_differ m (s / m * m + i) (s % m) (t % m) (mod-lt s some) (mod-lt t some)
    (ap (λ (x : ℕ). x % m) one ∙ (column ∙ sym (ap (λ (x : ℕ). x % m) two))))
