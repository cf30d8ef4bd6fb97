-- Full tables of a design: positions have places of their own, and those of a stripe lie on different columns.
use Rattle.std.specs.Prelude.{◌≡◌, ◌≢◌, ◌<◌, ◌≤◌, ◌+◌, ◌*◌, ◌/◌, ◌%◌, ◌==◌, ℕ, true, List, take, drop, get_or, length}
use Rattle.std.specs.List.{list_any}
use Rattle.std.proofs.Common.{arith, refl, sym, ap, ◌∙◌, inl, inr}
use Rattle.std.proofs.lemmas.Bool.{true≢false, cases_lt, eq-eqb, leb-false}
use Rattle.std.proofs.lemmas.List.{length-take-le, length-drop, get_or-take}
use Rattle.std.proofs.lemmas.List.Folds.{list_any_at}
use Rattle.std.proofs.lemmas.Nat.{mul-le, div-add-mod', div_below, row_fits}
use Rattle.std.proofs.Math.Nat.{mod-lt}
use Rattle.lay_core.specs.declared.place.Place.{Place}
use Rattle.lay_design.specs.Blocks.{tuple, object, has, degree}
use Rattle.lay_design.specs.Design.{Blocks, IsDesign}
use Rattle.lay_decluster.specs.Limits.{table_rows, stripes_in, IsTabled}
use Rattle.lay_decluster.specs.Table.{tuple_of, column_at, lies_on, free_row, seat}
use Rattle.lay_decluster.specs.Counted.{count_rounds, count_over, same_from_count, count_few}

module _ (d : Blocks) (design : IsDesign d) where
  -- each object stands in a tuple, and in no more than there are
  pub degree_least : 1 ≤ d.r
  degree_least = elim (cases_lt 0 d.r) [
    | inl some ↦ some
    | inr none ↦
        let zero_is : d.r ≡ 0 = omega arith in
        let nothing : d.v * d.r ≡ 0 = ap (λ r. d.v * r) zero_is ∙ omega arith in
        absurd (omega (arith, nothing, design.numbers.places, mul-le 1 2 d.b d.k design.numbers.tuples_least design.numbers.width_least))
  ]

  pub degree_most : d.r ≤ d.b
  degree_most =
      let some : 0 < d.v = omega (arith, design.numbers.objects_least) in
      let most = count_few (has d.k d.objects 0) d.b in
      omega (arith, most, design.degrees 0 some)

  -- the objects of a tuple
  pub tuple_long : (t : ℕ) → t < d.b → length (tuple d.k d.objects t) ≡ d.k
  tuple_long t h =
      let fits : t * d.k + d.k ≤ d.b * d.k = row_fits t d.k d.b d.k h (omega arith) in
      let rest : d.k ≤ length (drop (t * d.k) d.objects) = omega (arith, length-drop (t * d.k) d.objects, fits, design.numbers.length) in
      length-take-le d.k (drop (t * d.k) d.objects) rest

  pub object_below : (t p : ℕ) → t < d.b → p < d.k → object d.k d.objects t p < d.v
  object_below t p ht hp = leb-false _ _ (design.below t p ht hp)

  pub object_there : (t p : ℕ) → t < d.b → p < d.k → has d.k d.objects (object d.k d.objects t p) t ≡ true
  object_there t p ht hp =
      let x : ℕ = object d.k d.objects t p in
      list_any_at (λ y. y == x) (tuple d.k d.objects t) p 0 (omega (arith, hp, tuple_long t ht)) (eq-eqb x x refl)

  object_before : (t p q : ℕ) → t < d.b → p < q → q < d.k → object d.k d.objects t p ≢ object d.k d.objects t q
  object_before t p q ht less hq same =
      let l : List ℕ = tuple d.k d.objects t in
      let long : length l ≡ d.k = tuple_long t ht in
      let short : length (take q l) ≡ q = length-take-le q l (omega (arith, long, hq)) in
      let seen : list_any (λ x. x == get_or l q 0) (take q l) ≡ true = list_any_at (λ x. x == get_or l q 0) (take q l) p 0 (omega (arith, short, less)) (eq-eqb _ _ (get_or-take q l p 0 less ∙ same)) in
      true≢false (sym seen ∙ design.distinct t q ht hq)

  pub object_apart : (t p q : ℕ) → t < d.b → p < d.k → q < d.k → object d.k d.objects t p ≡ object d.k d.objects t q → p ≡ q
  object_apart t p q ht hp hq same = elim (cases_lt p q) [
    | inl less ↦ absurd (object_before t p q ht less hq same)
    | inr most ↦ elim (cases_lt q p) [
      | inl more ↦ absurd (object_before t q p ht more hp (sym same))
      | inr least ↦ omega (arith, most, least)
    ]
  ]

  -- the lowest free row: r for each whole copy of the design, and one for each earlier tuple of this copy
  pub free_row_at : (x c t : ℕ) → x < d.v → t ≤ d.b → free_row d x (c * d.b + t) ≡ c * d.r + degree t d.k d.objects x
  free_row_at x c t hx ht = count_rounds (has d.k d.objects x) d.b c t ht ∙ ap (λ n. c * n + degree t d.k d.objects x) (design.degrees x hx)

  pub free_row_of : (x s : ℕ) → x < d.v → free_row d x s ≡ s / d.b * d.r + degree (s % d.b) d.k d.objects x
  free_row_of x s hx =
      let some : s % d.b < d.b = mod-lt s (omega (arith, design.numbers.tuples_least)) in
      ap (free_row d x) (sym (div-add-mod' s d.b)) ∙ free_row_at x (s / d.b) (s % d.b) hx (omega (arith, some))

  -- fewer than r earlier tuples have an object of this one
  pub degree_before : (x t : ℕ) → x < d.v → t < d.b → has d.k d.objects x t ≡ true → degree t d.k d.objects x < d.r
  degree_before x t hx ht there = omega (arith, count_over (has d.k d.objects x) t d.b there ht, design.degrees x hx)

  tuple_below : (s : ℕ) → tuple_of d s < d.b
  tuple_below s = mod-lt s (omega (arith, design.numbers.tuples_least))

  pub column_below : (s p : ℕ) → p < d.k → column_at d s p < d.v
  column_below s p hp = object_below (tuple_of d s) p (tuple_below s) hp

  pub columns_apart : (s p q : ℕ) → p < d.k → q < d.k → column_at d s p ≡ column_at d s q → p ≡ q
  columns_apart s p q hp hq same = object_apart (tuple_of d s) p q (tuple_below s) hp hq same

  -- a column's rows go to the stripes that lie on it, one each
  rows_apart : (x s t : ℕ) → lies_on d x s ≡ true → lies_on d x t ≡ true → free_row d x s ≡ free_row d x t → s ≡ t
  rows_apart x s t hs ht same = same_from_count (lies_on d x) s t hs ht same

  pub seats_apart : (s t p q : ℕ) → p < d.k → q < d.k → seat d s p ≡ seat d t q → (s ≡ t) × (p ≡ q)
  seats_apart s t p q hp hq same =
      let column : column_at d s p ≡ column_at d t q = ap (λ (a : Place). a.column) same in
      let row : free_row d (column_at d s p) s ≡ free_row d (column_at d t q) t = ap (λ (a : Place). a.row) same in
      let there_s : lies_on d (column_at d s p) s ≡ true = object_there (tuple_of d s) p (tuple_below s) hp in
      let there_t : lies_on d (column_at d t q) t ≡ true = object_there (tuple_of d t) q (tuple_below t) hq in
      let stripe : s ≡ t = rows_apart (column_at d s p) s t there_s (ap (λ x. lies_on d x t) column ∙ there_t) (row ∙ ap (λ x. free_row d x t) (sym column)) in
      (stripe, columns_apart s p q hp hq (column ∙ ap (λ z. column_at d z q) (sym stripe)))

  -- the rows of whole tables hold the stripes that they make
  pub copy_fits : (u rows s : ℕ) → IsTabled d u rows → s < stripes_in d rows → s / d.b * d.r + d.r ≤ rows
  copy_fits u rows s tabled h =
      let tables : ℕ = rows / table_rows d in
      let turned : stripes_in d rows ≡ (d.k * tables) * d.b = omega arith in
      let copy : s / d.b < d.k * tables = div_below s d.b (d.k * tables) (omega (arith, design.numbers.tuples_least)) (omega (arith, h, turned)) in
      let fits : s / d.b * d.r + d.r ≤ (d.k * tables) * d.r = row_fits (s / d.b) d.r (d.k * tables) d.r copy (omega arith) in
      let whole : tables * (d.k * d.r) + rows % table_rows d ≡ rows = div-add-mod' rows (table_rows d) in
      let same : (d.k * tables) * d.r ≡ tables * (d.k * d.r) = omega arith in
      omega (arith, fits, whole, same, tabled.whole)

  pub row_below : (u rows s p : ℕ) → IsTabled d u rows → s < stripes_in d rows → p < d.k → free_row d (column_at d s p) s < rows
  row_below u rows s p tabled h hp =
      let x : ℕ = column_at d s p in
      let less : degree (tuple_of d s) d.k d.objects x < d.r = degree_before x (tuple_of d s) (column_below s p hp) (tuple_below s) (object_there (tuple_of d s) p (tuple_below s) hp) in
      omega (arith, less, copy_fits u rows s tabled h, free_row_of x s (column_below s p hp))
