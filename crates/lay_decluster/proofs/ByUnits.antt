-- Where a column has a spare place it has a unit too: it has check units.
use Rattle.std.specs.Prelude.{◌≡◌, ◌<◌, ◌≤◌, ◌+◌, ◌*◌, ◌/◌, ℕ, zero, suc, Bool, true, false, cond}
use Rattle.std.proofs.Common.{arith, refl, ap, ◌∙◌, inl, inr}
use Rattle.std.proofs.lemmas.Bool.{cases_lt, eqb-true}
use Rattle.std.proofs.lemmas.Nat.{mul-le}
use Rattle.lay_core.specs.Layout.{Shape, SparesLieByUnits, data_units}
use Rattle.lay_design.specs.Counting.{count_below}
use Rattle.lay_design.specs.Design.{Blocks}
use Rattle.lay_decluster.specs.Limits.{table_rows, table_stripes, stripes_in, IsTabled}
use Rattle.lay_decluster.specs.Shapes.{spared, spared_lawful}
use Rattle.lay_decluster.specs.Balance.{has_check, count_in_table}
use Rattle.lay_decluster.proofs.Balanced.{spared_balanced}

-- where some of n numbers pass a test, one of them does
passes_one : (f : ℕ → Bool) (n : ℕ) → 1 ≤ count_below f n → (i : ℕ) × (i < n) × (f i ≡ true)
unfolding count_below
passes_one f zero some = absurd (omega (arith, some))
passes_one f (suc n) some = by (f n) refl (passes_one f n) some
  where
    by : (b : Bool) → f n ≡ b → (1 ≤ count_below f n → (i : ℕ) × (i < n) × (f i ≡ true)) → 1 ≤ cond b (1 + count_below f n) (count_below f n) → (i : ℕ) × (i < suc n) × (f i ≡ true)
    by true is before h = (n, omega arith, is)
    by false is before h = let found = before h in (found.0, (let less = found.1 in omega (arith, less)), found.2)

module _ (d : Blocks) (u rows : ℕ) (tabled : IsTabled d u rows) (wide : 3 ≤ d.k) where
  abbrev y : Shape
  y = spared d u rows

  -- each object stands in a tuple
  degree_least : 1 ≤ d.r
  degree_least = elim (cases_lt 0 d.r) [
    | inl some ↦ some
    | inr none ↦
        let nothing : d.r ≡ 0 = omega (arith, none) in
        let empty : d.v * d.r ≡ 0 = ap (λ n. d.v * n) nothing ∙ omega arith in
        let places = mul-le 1 2 d.b d.k tabled.design.numbers.tuples_least tabled.design.numbers.width_least in
        absurd (omega (arith, empty, places, tabled.design.numbers.places))
  ]

  -- there is a full table
  table_within : 0 * table_stripes d + table_stripes d ≤ y.stripes
  table_within = elim (cases_lt 0 (rows / table_rows d)) [
    | inl some ↦ let least = mul-le (table_stripes d) 1 (table_stripes d) (rows / table_rows d) (omega arith) some in omega (arith, least)
    | inr none ↦
        let zero_is : rows / table_rows d ≡ 0 = omega (arith, none) in
        let empty : stripes_in d rows ≡ 0 = ap (λ n. table_stripes d * n) zero_is ∙ omega arith in
        let some = (spared_lawful d u rows tabled wide).stripes_least in
        absurd (omega (arith, empty, some))
  ]

  -- a unit of some stripe lies on each column
  check_on : (x : ℕ) → x < d.v → (t : ℕ) × (i : ℕ) × (t < y.stripes) × (i < y.width) × ((y.place t i).column ≡ x)
  check_on x within =
      let even : count_in_table (table_stripes d) 0 (has_check y x) ≡ d.r = (spared_balanced d tabled.design wide u rows).check_units 0 x table_within within in
      let found = passes_one (λ s. has_check y x (0 * table_stripes d + s)) (table_stripes d) (omega (arith, even, degree_least)) in
      let s : ℕ = 0 * table_stripes d + found.0 in
      (s, data_units y, let less = found.1 in omega (arith, less, table_within), omega arith, eqb-true (y.place s (data_units y)).column x found.2)

  pub spared_by_units : SparesLieByUnits y
  spared_by_units s p within is = check_on p.column ((spared_lawful d u rows tabled wide).spare_within s p within is).0
