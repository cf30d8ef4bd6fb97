-- Where a position lies, by the kept table.
use Rattle.std.specs.Prelude.{◌≡◌, ◌<◌, ◌≤◌, ◌+◌, ◌*◌, ◌/◌, ◌%◌, ℕ, List, get_or, length}
use Rattle.std.proofs.Common.{arith, sym, ap, ◌∙◌}
use Rattle.std.proofs.Math.Nat.{mod-lt}
use Rattle.std.proofs.lemmas.List.{get_or_default}
use Rattle.std.proofs.lemmas.Nat.{mul-add-lt}
use Rattle.lay_core.specs.declared.place.Place.{Place}
use Rattle.lay_design.specs.Blocks.{object}
use Rattle.lay_design.specs.Design.{Blocks, IsDesign}
use Rattle.lay_decluster.specs.Table.{column_at, tuple_of, free_row, seat}
use Rattle.lay_decluster.specs.Offsets.{AreOffsets, offset}
use Rattle.lay_decluster.specs.Seats.{free_row_of, column_below, degree_before, object_there}

module _ (d : Blocks) (design : IsDesign d) (offsets : List ℕ) (s p : ℕ) (are : AreOffsets d d.b offsets) (hp : p < d.k) where
  tuple_below : tuple_of d s < d.b
  tuple_below = mod-lt s (omega (arith, design.numbers.tuples_least))

  -- the entry of a position is its offset
  pub entry_is : (b k entry : ℕ) → b ≡ d.b → k ≡ d.k → entry ≡ get_or offsets (s % b * k + p) entry → entry ≡ offset d (tuple_of d s) p
  entry_is b k entry hb hk e =
      let within : tuple_of d s * d.k + p < length offsets = omega (arith, mul-add-lt (tuple_of d s) d.k p d.b tuple_below hp, are.long) in
      let place : s % b * k + p ≡ tuple_of d s * d.k + p = ap (λ x. s % x * k + p) hb ∙ ap (λ x. s % d.b * x + p) hk in
      e ∙ (ap (λ i. get_or offsets i entry) place ∙ (get_or_default offsets (tuple_of d s * d.k + p) entry 0 within ∙ are.each (tuple_of d s) p tuple_below hp))

  offset_less : offset d (tuple_of d s) p < d.r
  offset_less = degree_before d design (column_at d s p) (tuple_of d s) (column_below d design s p hp) tuple_below (object_there d design (tuple_of d s) p tuple_below hp)

  pub fits : (b r entry : ℕ) → b ≡ d.b → r ≡ d.r → entry ≡ offset d (tuple_of d s) p → s / d.b * d.r + d.r ≤ 4294967295 → s / b * r + entry < 4294967296
  fits b r entry hb hr e h =
      let same : s / b * r ≡ s / d.b * d.r = ap (λ x. s / x * r) hb ∙ ap (λ x. s / d.b * x) hr in
      omega (arith, same, e, offset_less, h)

  pub place_is : (b b2 r x entry : ℕ) → b ≡ d.b → b2 ≡ d.b → r ≡ d.r → x ≡ object d.k d.objects (s % b2) p → entry ≡ offset d (tuple_of d s) p → ◌≡◌ {A = Place} (record { column = x; row = s / b * r + entry }) (seat d s p)
  place_is b b2 r x entry hb hb2 hr hx e =
      let column : x ≡ column_at d s p = hx ∙ ap (λ n. object d.k d.objects (s % n) p) hb2 in
      let same : s / b * r ≡ s / d.b * d.r = ap (λ x. s / x * r) hb ∙ ap (λ x. s / d.b * x) hr in
      let row : s / b * r + entry ≡ free_row d (column_at d s p) s = ap (λ n. n + entry) same ∙ (ap (λ n. s / d.b * d.r + n) e ∙ sym (free_row_of d design (column_at d s p) s (column_below d design s p hp))) in
      ap (λ c. record { column = c; row = s / b * r + entry }) column ∙ ap (λ w. record { column = column_at d s p; row = w }) row
