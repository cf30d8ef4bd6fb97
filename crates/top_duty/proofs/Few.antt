-- No more stripes are left to rebuild than rebuilds are counted.
use Rattle.std.specs.Prelude.{◌≡◌, ◌<◌, ◌≤◌, ◌+◌, ◌-◌, ℕ, suc, Bool, true, false, List, [], ◌∷◌, length, Contains, Option, Some, if◌then◌else◌, nat_le, option_and_then, slice_get, slice_index, slice_set, unwrap_or}
use Rattle.std.specs.List.Sorted.{IsStrictlyIncreasing}
use Rattle.std.proofs.Common.{arith, refl, sym, ap, subst, inl, inr, ◌∙◌}
use Rattle.std.proofs.lemmas.Bool.{cases_lt}
use Rattle.lay_core.specs.Layout.{Shape}
use Rattle.eng_array.specs.Fitting.{BeginsAtMost, HasAtMost}
use Rattle.eng_array.specs.Starts.{begun_by, column_of, most_of}
use Rattle.eng_array.specs.declared.start.Start.{Start}
use Rattle.eng_array.specs.declared.start.Start.TheVariants as start
use Rattle.eng_cols.specs.declared.column.Column.{Column}
use Rattle.eng_cols.specs.declared.column.Column.TheVariants as column
use Rattle.eng_cols.specs.Cols.{AtMostOne, ColumnState, Filling, Spread, is_done, is_done_on, is_set_filling, is_spread, none_done, passes}
use Rattle.eng_cols.specs.Stripes.{are_spread, done_set, filled_in, first_done, is_stripe_by, is_stripe_of, spreads, states_of}
use Rattle.eng_cols.proofs.Counting.{stripe-of, stripe-same}
use Rattle.eng_cols.proofs.Fewer.{filled-at, first-same, states-at, states-spread}
use Rattle.eng_cols.proofs.Leading.{count-grows, count-step, first-marks}
use Rattle.eng_cols.proofs.Lists.{get_set_other}
use Rattle.eng_world.specs.Serving.{IsLeft}
use Rattle.top_duty.specs.Duty.{left_by, rebuilds_by}
use Rattle.top_duty.specs.Opening.{stripes_on}
use Rattle.top_duty.proofs.Counting.{stripe_apart}
use Rattle.lay_core.specs.Touched.{count_below}

-- ## Stripes are counted

-- so many at least is the first of them
abbrev Above : ℕ → List ℕ → Type 0
Above m [] = Unit {0}
Above m (x ∷ xs) = m ≤ x

rest_up : (x : ℕ) (xs : List ℕ) → IsStrictlyIncreasing (x ∷ xs) → IsStrictlyIncreasing xs
rest_up x xs up k lt =
    let e : suc k + 1 ≡ suc (k + 1) = omega arith in
    subst (λ (n : ℕ). slice_index xs k < slice_index (x ∷ xs) n) e (up (suc k) (omega (arith, lt)))

rest_above : (x : ℕ) (xs : List ℕ) → IsStrictlyIncreasing (x ∷ xs) → Above (suc x) xs
rest_above x [] up = tt
rest_above x (y ∷ xs) up = let first = up 0 (omega arith) in omega (arith, first)

module _ (p : ℕ → Bool) (n : ℕ) where
  counted_from : (m : ℕ) (xs : List ℕ) → IsStrictlyIncreasing xs → Above m xs → m ≤ n → ((s : ℕ) → Contains xs s → (s < n) × (p s ≡ true)) → length xs + count_below p m ≤ count_below p n
  counted_from m [] up above le each = let grows = count-grows p m n le in omega (arith, grows)
  counted_from m (x ∷ xs) up above le each =
      let here : (x < n) × (p x ≡ true) = each x (0, omega arith, refl) in
      let rest = counted_from (suc x) xs (rest_up x xs up) (rest_above x xs up) here.0 (λ s h. each s (suc h.0, omega (arith, h.1), h.2)) in
      let one : count_below p (suc x) ≡ count_below p x + 1 = count-step p x here.1 in
      let grows = count-grows p m x above in
      omega (arith, rest, one, grows)

  -- of stripes that pass behind the first m that do there are no more than pass but those
  counted_behind : (m : ℕ) (xs : List ℕ) → IsStrictlyIncreasing xs → ((s : ℕ) → Contains xs s → (s < n) × (p s ≡ true) × (m ≤ count_below p s)) → length xs ≤ count_below p n - m
  counted_behind m [] up each = omega arith
  counted_behind m (x ∷ xs) up each =
      let here = each x (0, omega arith, refl) in
      let all = counted_from x (x ∷ xs) up (omega arith) (omega (arith, here.0)) (λ s h. let it = each s h in (it.0, it.1)) in
      omega (arith, all, here.2)

-- ## Of a column

module _ (y : Shape) (columns : List Column) (c : ℕ) where
  abbrev states : List ColumnState
  states = states_of y columns

  -- one that is begun anew has all of them left
  has_anew : (x : ColumnState) → HasAtMost y (slice_set (states_of y columns) c x) c (stripes_on y columns c)
  has_anew x stripes up each =
      let all = counted_behind (is_stripe_of y states c) y.stripes 0 stripes up (λ s there. of s (each s there)) in
      omega (arith, all)
    where
      of : (s : ℕ) → IsLeft y (slice_set (states_of y columns) c x) c s → (s < y.stripes) × (is_stripe_of y (states_of y columns) c s ≡ true) × (0 ≤ count_below (is_stripe_of y (states_of y columns) c) s)
      of s left =
          let same : is_stripe_of y (slice_set (states_of y columns) c x) c s ≡ is_stripe_of y (states_of y columns) c s =
          stripe_apart y (are_spread (slice_set (states_of y columns) c x)) (are_spread (states_of y columns)) c s (λ k other. ap (λ (o : Option ColumnState). passes is_spread o) (get_set_other (states_of y columns) c k x other)) in
          (left.within, sym same ∙ (stripe-of y (slice_set (states_of y columns) c x) c s).1 left.of_column, omega arith)

  -- one that is filling those that aren't done
  module _ (one : AtMostOne is_set_filling columns) (d m : ℕ) (at : slice_get columns c ≡ Some (column.Filling d m)) where
    -- of the first of them each is done
    behind : (s : ℕ) → IsLeft y states c s → m ≤ count_below (is_stripe_of y states c) s
    behind s left = elim (cases_lt (count_below (is_stripe_of y states c) s) m) [
      | inr le ↦ le
      | inl lt ↦
          let list : filled_in y columns ≡ first_done (is_stripe_of y states c) m y.stripes y.stripes =
          filled-at y columns c d m one at
          ∙ first-same (is_stripe_by y (spreads columns) c) (is_stripe_of y states c) m y.stripes y.stripes (λ t. stripe-same y (spreads columns) (are_spread states) c t (λ k. sym (states-spread y columns k))) in
          let marked : is_done (first_done (is_stripe_of y states c) m y.stripes y.stripes) s ≡ true = first-marks (is_stripe_of y states c) m y.stripes y.stripes s (omega arith) left.within ((stripe-of y states c s).1 left.of_column) lt in
          let done : is_done_on (slice_get states c) s ≡ true = ap (λ (o : Option ColumnState). is_done_on o s) (states-at y columns c (column.Filling d m) at) ∙ (ap (λ (l : List Bool). is_done l s) list ∙ marked) in
          let other : true ≡ false = sym done ∙ left.left in
          absurd (let z : ⊥ = cc other in z)
    ]

    has_further : HasAtMost y states c (stripes_on y columns c - m)
    has_further stripes up each =
        counted_behind (is_stripe_of y states c) y.stripes m stripes up (λ s there. let left = each s there in (left.within, (stripe-of y states c s).1 left.of_column, behind s left))

-- no more are begun than are counted: all that are left, or no more than are asked
either : (y : Shape) (cols : List ColumnState) (c left most : ℕ) → HasAtMost y cols c left → BeginsAtMost y cols c most (if nat_le left most then left else most)
either y cols c left most has = go (nat_le left most)
  where
    go : (b : Bool) → BeginsAtMost y cols c most (if b then left else most)
    go true = inr has
    go false = inl (omega arith)

-- where a column is filling with which it goes on
abbrev pub GoesOn : List Column → Start → Type 0
GoesOn columns (start.Fill c device most) = Unit {0}
GoesOn columns (start.Resume c most) = (d : ℕ) × (m : ℕ) × (slice_get columns c ≡ Some (column.Filling d m))
GoesOn columns (start.Spread c) = Unit {0}

pub few_rebuilds : (y : Shape) (columns : List Column) (s : Start) → AtMostOne is_set_filling columns → GoesOn columns s
    → BeginsAtMost y (begun_by (record { states = states_of y columns; stripes = y.stripes }) s) (column_of s) (most_of s) (rebuilds_by y columns (Some s))
unfolding rebuilds_by
few_rebuilds y columns (start.Fill c device most) one on = either y (slice_set (states_of y columns) c (Filling device (none_done y.stripes))) c (stripes_on y columns c) most (has_anew y columns c (Filling device (none_done y.stripes)))
few_rebuilds y columns (start.Resume c most) one on =
    either y (states_of y columns) c (left_by y columns (start.Resume c most)) most
    (subst (λ (n : ℕ). HasAtMost y (states_of y columns) c (stripes_on y columns c - n)) (sym (ap (λ (o : Option Column). unwrap_or (option_and_then done_set o) 0) on.2)) (has_further y columns c one on.0 on.1 on.2))
few_rebuilds y columns (start.Spread c) one on = either y (slice_set (states_of y columns) c (Spread (none_done y.stripes))) c (stripes_on y columns c) 4294967295 (has_anew y columns c (Spread (none_done y.stripes)))
