-- The stripes of a span by the blocks of a whole stripe.
use Rattle.std.specs.Prelude.{◌≡◌, ◌≤◌, ◌+◌, ◌-◌, ◌*◌, ◌/◌, ℕ}
use Rattle.std.proofs.Common.{arith, ap, ◌∙◌, inl, inr}
use Rattle.std.proofs.lemmas.Bool.{cases_lt}
use Rattle.blk_plain.specs.declared.op.Span.{Span}
use Rattle.lay_core.specs.Layout.{Shape, IsLayout, data_units, blocks_in, stripe_of}
use Rattle.lay_core.specs.Touched.{PassesEnd, stripe_count}
use Rattle.lay_core.proofs.Parted.{stripe-once}
use Rattle.lay_core.proofs.Joining.{stripe-up}
use Rattle.lay_core.proofs.SpanSplit.{last_below}

pub once : (y : Shape) (b sectors units : ℕ) → sectors ≡ y.unit_sectors → units ≡ data_units y → b / (sectors * units) ≡ stripe_of y b
once y b sectors units sectors-is units-is =
    stripe-once b sectors units
    ∙ (ap (λ (n : ℕ). b / n / units) sectors-is
    ∙ ap (λ (n : ℕ). b / y.unit_sectors / n) units-is)

module _ (y : Shape) (law : IsLayout y) (span : Span) (some : 1 ≤ span.count) (inside : PassesEnd y span → ⊥) (sectors units count last : ℕ)
    (sectors-is : sectors ≡ y.unit_sectors) (units-is : units ≡ data_units y) (count-is : count ≡ span.count) (last-is : last ≡ (span.first + count - 1) / (sectors * units)) where
  fits : span.first + span.count ≤ blocks_in y
  fits = elim (cases_lt (blocks_in y) (span.first + span.count)) [ inl past ↦ absurd (inside past) | inr h ↦ h ]

  pub first-of : span.first / (sectors * units) ≡ stripe_of y span.first
  first-of = once y span.first sectors units sectors-is units-is

  pub last-of : last ≡ stripe_of y (span.first + span.count - 1)
  last-of =
      last-is
      ∙ (ap (λ (n : ℕ). (span.first + n - 1) / (sectors * units)) count-is
      ∙ once y (span.first + span.count - 1) sectors units sectors-is units-is)

  up : stripe_of y span.first ≤ stripe_of y (span.first + span.count - 1)
  up = stripe-up y law span.first (span.first + span.count - 1) (omega (arith, some))

  pub counted : last - span.first / (sectors * units) + 1 ≡ stripe_count y span
  counted = let f = first-of in let l = last-of in let u = up in omega (arith, f, l, u)

  pub within : span.first / (sectors * units) + (last - span.first / (sectors * units) + 1) ≤ y.stripes
  within = let f = first-of in let l = last-of in let u = up in let b = last_below y law span some fits in omega (arith, f, l, u, b)

  pub few : span.first / (sectors * units) + (last - span.first / (sectors * units) + 1) ≤ 1048576
  few = let w = within in let s = law.stripes_most in omega (arith, w, s)
