-- What a table of counts says of a design.
use Rattle.std.specs.Prelude.{◌≡◌, ◌≢◌, ◌<◌, ◌≤◌, ◌+◌, ◌*◌, ◌==◌, ◌&&◌, ℕ, Bool, true, false, List, get_or, drop, Some, None, not, nat_lt}
use Rattle.std.proofs.Common.{arith, refl, ap, sym, ◌∙◌}
use Rattle.std.proofs.lemmas.Bool.{eqb-true, eq-eqb, lt-ltb, true≢false}
use Rattle.std.proofs.lemmas.List.{get_or-take, get_or-drop}
use Rattle.lay_design.specs.Counting.{IsFirst, IsNowhere, IsFirstPlace}
use Rattle.lay_design.specs.Blocks.{entry, has, degree, together, object}
use Rattle.lay_design.specs.Design.{Blocks, parts}
use Rattle.lay_design.specs.Given.{AreCounted}
use Rattle.lay_design.proofs.Pairs.{count_alike}

both_same : (b : Bool) → (b && b) ≡ b
both_same true = refl
both_same false = refl

differ : (a b : ℕ) → not (a == b) ≡ true → a ≢ b
differ a b h e = true≢false (sym h ∙ ap not (eq-eqb a b e))

agree : (a b : ℕ) → not (a == b) ≡ false → a ≡ b
agree a b h = by (a == b) refl h
  where
    by : (t : Bool) → (a == b) ≡ t → not (a == b) ≡ false → a ≡ b
    by true e g = eqb-true a b e
    by false e g = let z : true ≡ false = sym (ap not e) ∙ g in absurd (true≢false z)

module _ (d : Blocks) (counts : List ℕ) (few : d.v ≤ 32) (counted : AreCounted d.b d.k d.objects counts) where
  -- an object's own count is its degree
  pub degree_is : (x : ℕ) → x < d.v → entry counts x x ≡ degree d.b d.k d.objects x
  degree_is x h = counted x x (omega (arith, h, few)) (omega (arith, h, few)) ∙ count_alike (λ t. has d.k d.objects x t && has d.k d.objects x t) (has d.k d.objects x) d.b (λ t. both_same (has d.k d.objects x t))

  pub stray_found : (x : ℕ) → IsFirst (λ x. not (entry counts x x == d.r)) d.v (Some x)
      → (entry counts x x ≡ degree d.b d.k d.objects x) × (entry counts x x ≢ d.r) × (x < d.v) × ((y : ℕ) → y < x → degree d.b d.k d.objects y ≡ d.r)
  stray_found x h = (
    degree_is x h.0,
    differ _ _ h.1,
    h.0,
    λ y less. sym (degree_is y (omega (arith, less, h.0))) ∙ agree _ _ (h.2 y less),
  )

  pub degrees_right : IsFirst (λ x. not (entry counts x x == d.r)) d.v None → (x : ℕ) → x < d.v → degree d.b d.k d.objects x ≡ d.r
  degrees_right none x h = sym (degree_is x h) ∙ agree _ _ (none x h)

  parts_is : (x y : ℕ) → x < d.v → y < d.v → (nat_lt x y && not (entry counts x y == d.lambda)) ≡ parts d x y
  parts_is x y hx hy = ap (λ n. nat_lt x y && not (n == d.lambda)) (counted x y (omega (arith, hx, few)) (omega (arith, hy, few)))

  pub parted_found : (x y : ℕ) → IsFirstPlace (λ x y. nat_lt x y && not (entry counts x y == d.lambda)) d.v d.v x y
      → (entry counts x y ≡ together d.b d.k d.objects x y) × IsFirstPlace (parts d) d.v d.v x y
  parted_found x y h = (
    counted x y (omega (arith, h.row, few)) (omega (arith, h.place, few)),
    record {
      row = h.row;
      place = h.place;
      passes = sym (parts_is x y h.row h.place) ∙ h.passes;
      rows_before = λ s j hs hj. sym (parts_is s j (omega (arith, hs, h.row)) hj) ∙ h.rows_before s j hs hj;
      places_before = λ j hj. sym (parts_is x j h.row (omega (arith, hj, h.place))) ∙ h.places_before j hj;
    },
  )

  pub pairs_right : IsNowhere (λ x y. nat_lt x y && not (entry counts x y == d.lambda)) d.v d.v → (x y : ℕ) → x < y → y < d.v → together d.b d.k d.objects x y ≡ d.lambda
  pairs_right none x y less h =
      let within : x < d.v = omega (arith, less, h) in
      let same = none x y within h in
      sym (counted x y (omega (arith, within, few)) (omega (arith, h, few)))
      ∙ agree _ _ (sym (ap (λ t. t && not (entry counts x y == d.lambda)) (lt-ltb x y less)) ∙ same)

-- a place in the list of all tuples
pub object_is : (k : ℕ) (objects : List ℕ) (t place : ℕ) → place < k → object k objects t place ≡ get_or objects (t * k + place) 0
object_is k objects t place h = get_or-take k (drop (t * k) objects) place 0 h ∙ get_or-drop (t * k) objects place 0
