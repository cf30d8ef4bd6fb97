-- Levels T and D as layouts: parity declustering over full tables of a design, without spare places and with one for each stripe.
use Rattle.std.specs.Prelude.{◌≡◌, ◌<◌, ◌≤◌, ◌+◌, ◌-◌, ◌*◌, ◌/◌, ◌%◌, ℕ, Some, None}
use Rattle.std.proofs.Common.{arith, sym, ap, subst, ◌∙◌, inl, inr}
use Rattle.std.proofs.lemmas.Bool.{cases_lt}
use Rattle.std.proofs.lemmas.Nat.{mul-le, div-add-mod'}
use Rattle.std.proofs.Math.Nat.{mod-lt}
use Rattle.lay_core.specs.declared.place.Place.{Place}
use Rattle.lay_core.specs.Layout.{Shape, IsLayout, IsWithin}
use Rattle.lay_design.specs.Design.{Blocks}
use Rattle.lay_decluster.specs.Limits.{table_rows, table_stripes, stripes_in, IsTabled}
use Rattle.lay_decluster.specs.Table.{copy_of, seat}
use Rattle.lay_decluster.specs.Positions.{unit_position, spare_position, spared_position, unit_below, units_apart, spare_below, spared_below, spared_apart, spare_apart}
use Rattle.lay_decluster.specs.Seats.{column_below, columns_apart, seats_apart, row_below}

-- level T: the check unit moves on by one position with each copy of the design
abbrev pub declustered : Blocks → ℕ → ℕ → Shape
declustered d u rows = record {
  columns = d.v;
  width = d.k;
  checks = 1;
  unit_sectors = u;
  stripes = d.k * d.b * (rows / (d.k * d.r));
  rows = rows;
  place = λ s i. seat d s (unit_position d.k (copy_of d s) i);
  spare = λ s. None;
}

-- level D: and so does the spare place, which stands behind the check unit, around the end
abbrev pub spared : Blocks → ℕ → ℕ → Shape
spared d u rows = record {
  columns = d.v;
  width = d.k - 1;
  checks = 1;
  unit_sectors = u;
  stripes = d.k * d.b * (rows / (d.k * d.r));
  rows = rows;
  place = λ s i. seat d s (spared_position d.k (copy_of d s) i);
  spare = λ s. Some (seat d s ((copy_of d s + 1) % d.k));
}

module _ (d : Blocks) (u rows : ℕ) (tabled : IsTabled d u rows) where
  copy_below : (s : ℕ) → copy_of d s < d.k
  copy_below s = mod-lt (s / d.b) (omega (arith, tabled.design.numbers.width_least))

  some_stripes : 1 ≤ stripes_in d rows
  some_stripes = elim (cases_lt 0 (rows / table_rows d)) [
    | inl some ↦
        let table : 1 ≤ table_stripes d = omega (arith, mul-le 1 1 d.k d.b (omega (arith, tabled.design.numbers.width_least)) tabled.design.numbers.tuples_least) in
        omega (arith, mul-le 1 1 (table_stripes d) (rows / table_rows d) table some)
    | inr none ↦
        let zero_is : rows / table_rows d ≡ 0 = omega arith in
        let whole : rows / table_rows d * table_rows d + rows % table_rows d ≡ rows = div-add-mod' rows (table_rows d) in
        let nothing : rows / table_rows d * table_rows d ≡ 0 = ap (λ n. n * table_rows d) zero_is ∙ omega arith in
        absurd (omega (arith, whole, nothing, tabled.whole, tabled.rows_least))
  ]

  pub declustered_lawful : IsLayout (declustered d u rows)
  declustered_lawful = record {
    columns_most = tabled.design.numbers.objects_most;
    width_most = tabled.design.numbers.width_most;
    checks_most = omega arith;
    checks_below = tabled.design.numbers.width_least;
    unit_least = tabled.unit_least;
    unit_most = tabled.unit_most;
    stripes_least = some_stripes;
    stripes_most = tabled.stripes_most;
    within = λ s i hs hi. (column_below d tabled.design s (at s i) (below s i hi), row_below d tabled.design u rows s (at s i) tabled hs (below s i hi));
    spare_within = λ s p hs e. none p e;
    one_to_one = λ s t i j hs ht hi hj e.
        let both = seats_apart d tabled.design s t (at s i) (at t j) (below s i hi) (below t j hj) e in
        (both.0, units_apart d.k (copy_of d s) i j hi hj (both.1 ∙ ap (λ r. unit_position d.k (copy_of d r) j) (sym both.0)));
    spare_apart = λ s t i p hs ht hi e. none p e;
    spare_one_to_one = λ s t p hs ht e f. none p e;
    columns_apart = λ s i j hs hi hj e. units_apart d.k (copy_of d s) i j hi hj (columns_apart d tabled.design s (at s i) (at s j) (below s i hi) (below s j hj) e);
    spare_column = λ s i p hs hi e. none p e;
  }
    where
      at : ℕ → ℕ → ℕ
      at s i = unit_position d.k (copy_of d s) i

      below : (s i : ℕ) → i < d.k → unit_position d.k (copy_of d s) i < d.k
      below s i hi = unit_below d.k (copy_of d s) i (copy_below s) hi

      none : {A : Type 0} (p : Place) → None ≡ Some p → A
      none p e = cc

  module _ (wide : 3 ≤ d.k) where
    pub spared_lawful : IsLayout (spared d u rows)
    spared_lawful = record {
      columns_most = tabled.design.numbers.objects_most;
      width_most = omega (arith, tabled.design.numbers.width_most);
      checks_most = omega arith;
      checks_below = omega arith;
      unit_least = tabled.unit_least;
      unit_most = tabled.unit_most;
      stripes_least = some_stripes;
      stripes_most = tabled.stripes_most;
      within = λ s i hs hi. within s (spared_position d.k (copy_of d s) i) hs (below s i hi);
      spare_within = λ s p hs e. subst (IsWithin (spared d u rows)) (is_some _ p e) (within s (spare_position d.k (copy_of d s)) hs (behind s));
      one_to_one = λ s t i j hs ht hi hj e.
          let both = seats_apart d tabled.design s t (spared_position d.k (copy_of d s) i) (spared_position d.k (copy_of d t) j) (below s i hi) (below t j hj) e in
          (both.0, spared_apart d.k (copy_of d s) i j wide (copy_below s) hi hj (both.1 ∙ ap (λ r. spared_position d.k (copy_of d r) j) (sym both.0)));
      spare_apart = λ s t i p hs ht hi e f.
          let both = seats_apart d tabled.design t s (spared_position d.k (copy_of d t) i) (spare_position d.k (copy_of d s)) (below t i hi) (behind s) (f ∙ sym (is_some _ p e)) in
          spare_apart d.k (copy_of d t) i wide (copy_below t) hi (both.1 ∙ ap (λ r. spare_position d.k (copy_of d r)) (sym both.0));
      spare_one_to_one = λ s t p hs ht e f. (seats_apart d tabled.design s t (spare_position d.k (copy_of d s)) (spare_position d.k (copy_of d t)) (behind s) (behind t) (is_some _ p e ∙ sym (is_some _ p f))).0;
      columns_apart = λ s i j hs hi hj e. spared_apart d.k (copy_of d s) i j wide (copy_below s) hi hj (columns_apart d tabled.design s (spared_position d.k (copy_of d s) i) (spared_position d.k (copy_of d s) j) (below s i hi) (below s j hj) e);
      spare_column = λ s i p hs hi e f. spare_apart d.k (copy_of d s) i wide (copy_below s) hi (columns_apart d tabled.design s (spared_position d.k (copy_of d s) i) (spare_position d.k (copy_of d s)) (below s i hi) (behind s) (f ∙ sym (ap (λ (a : Place). a.column) (is_some _ p e))));
    }
      where
        below : (s i : ℕ) → i < d.k - 1 → spared_position d.k (copy_of d s) i < d.k
        below s i hi = spared_below d.k (copy_of d s) i wide (copy_below s) hi

        behind : (s : ℕ) → spare_position d.k (copy_of d s) < d.k
        behind s = spare_below d.k (copy_of d s) (copy_below s)

        within : (s p : ℕ) → s < stripes_in d rows → p < d.k → IsWithin (spared d u rows) (seat d s p)
        within s p hs hp = (column_below d tabled.design s p hp, row_below d tabled.design u rows s p tabled hs hp)

        is_some : (a p : Place) → Some a ≡ Some p → a ≡ p
        is_some a p e = cc
