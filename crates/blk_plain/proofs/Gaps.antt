-- Two spans with blocks have none in common exactly where one of them begins behind the other's end.
use Rattle.std.specs.Prelude.{◌≡◌, ℕ, ◌+◌, ◌<◌, ◌≤◌, true, nat_le, nat_lt}
use Rattle.std.proofs.Common.{arith, inl, inr}
use Rattle.std.proofs.lemmas.Bool.{and_parts, and_from, leb-true, ltb-true, le-leb, lt-ltb, cases_lt}
use Rattle.blk_plain.specs.declared.op.Span.{Span}
use Rattle.blk_plain.specs.declared.op.Patch.{Patch}
use Rattle.blk_plain.specs.Plain.{is_in, AreApart}

pub is-in-bounds : (s : Span) (b : ℕ) → is_in s b ≡ true → (s.first ≤ b) × (b < s.first + s.count)
is-in-bounds s b h =
    let both = and_parts (nat_le s.first b) (nat_lt b (s.first + s.count)) h in
    (leb-true s.first b both.0, ltb-true b (s.first + s.count) both.1)

pub bounds-is-in : (s : Span) (b : ℕ) → s.first ≤ b → b < s.first + s.count → is_in s b ≡ true
bounds-is-in s b low high = and_from _ _ (le-leb s.first b low) (lt-ltb b (s.first + s.count) high)

pub apart-other : (p q : Patch) → AreApart p q → AreApart q p
apart-other p q apart b in_q in_p = apart b in_p in_q

-- a gap keeps them apart
pub apart-behind : (p q : Patch) → p.span.first + p.span.count ≤ q.span.first → AreApart p q
apart-behind p q gap b in_p in_q =
    let high = (is-in-bounds p.span b in_p).1 in
    let low = (is-in-bounds q.span b in_q).0 in
    let u : ⊥ = omega (arith, gap, high, low) in u

-- and without one the first block of the later span is in both
pub behind-apart : (p q : Patch) → p.span.first ≤ q.span.first → 1 ≤ q.span.count → AreApart p q → p.span.first + p.span.count ≤ q.span.first
behind-apart p q order some apart = elim (cases_lt q.span.first (p.span.first + p.span.count)) [
  | inl l ↦ absurd (apart q.span.first (bounds-is-in p.span q.span.first order l) (bounds-is-in q.span q.span.first (omega arith) (omega (arith, some))))
  | inr l ↦ l
]
