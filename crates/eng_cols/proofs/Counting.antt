-- The stripes of a column, how many they are, and which of them are done as the column is set.
use Rattle.std.proofs.Common.{◌≡◌, ◌<◌, ◌≤◌, ◌+◌, ℕ, zero, suc, List, [], ◌∷◌, Bool, true, false, inl, inr, Option, Some, None, slice_get, slice_set, drop, length, refl, sym, ap, ap₂, ◌∙◌, arith, length-set}
use Rattle.std.specs.Prelude.{◌==◌, ◌&&◌, ◌||◌, not, ◌↔◌, IsTrue, if◌then◌else◌, nat_lt, option_and_then}
use Rattle.std.proofs.lemmas.Bool.{cases_eq, cases_Bool}
use Rattle.std.proofs.lemmas.List.{length-replicate}
use Rattle.lay_core.specs.Layout.{Shape}
use Rattle.eng_cols.specs.declared.column.Column.{Column}
use Rattle.eng_cols.specs.Cols.{ColumnState, is_done_on, none_done}
use Rattle.eng_cols.specs.Seats.{is_place_on, is_unit_of, IsStripeOf}
use Rattle.eng_cols.specs.Stripes.{all_done_below, done_at, done_set, filled_from, filled_in, first_done, is_stripe_by, is_stripe_of, is_unit_by, leading, spreads}
use Rattle.eng_cols.proofs.Words.{is_led, first_or}
use Rattle.lay_core.specs.Touched.{count_below, any_below}

-- ## Numbers that pass

or-true : (a : Bool) → (a || true) ≡ true
or-true true = refl
or-true false = refl

pub any-here : (p : ℕ → Bool) (n i : ℕ) → i < n → p i ≡ true → any_below p n ≡ true
any-here p zero i h e = absurd (omega (arith, h))
any-here p (suc n) i h e = elim (cases_eq i n) [
  | inl same ↦ ap (λ b. b || any_below p n) (ap p (sym same) ∙ e)
  | inr ne ↦ ap (λ b. p n || b) (any-here p n i (omega (arith, h, ne)) e) ∙ or-true (p n)
]

pub any-where : (p : ℕ → Bool) (n : ℕ) → any_below p n ≡ true → (i : ℕ) × (i < n) × (p i ≡ true)
any-where p zero h = let z : false ≡ true = h in absurd (let u : ⊥ = cc in u)
any-where p (suc n) h = elim (cases_Bool (p n)) [
  | inl e ↦ (n, omega arith, e)
  | inr e ↦ let w = any-where p n (sym (ap (λ b. b || any_below p n) e) ∙ h) in (w.0, omega (arith, w.1), w.2)
]

-- one more that doesn't pass
pub any-more : (p : ℕ → Bool) (n m : ℕ) → m ≡ suc n → any_below p n ≡ false → p n ≡ false → any_below p m ≡ false
any-more p n m next none e = ap (any_below p) next ∙ (ap (λ b. b || any_below p n) e ∙ none)

pub any-same : (p q : ℕ → Bool) (n : ℕ) → ((i : ℕ) → p i ≡ q i) → any_below p n ≡ any_below q n
any-same p q zero same = refl
any-same p q (suc n) same = ap₂ (λ a b. a || b) (same n) (any-same p q n same)

pub count-more : (p : ℕ → Bool) (n m : ℕ) → m ≡ suc n → count_below p m ≡ count_below p n + (if p n then 1 else 0)
count-more p n m next = ap (count_below p) next

pub count-few : (p : ℕ → Bool) (n : ℕ) → count_below p n ≤ n
count-few p zero = omega arith
count-few p (suc n) = omega (arith, count-few p n, one (p n))
  where
    one : (b : Bool) → (if b then 1 else 0) ≤ 1
    one true = omega arith
    one false = omega arith

pub count-same : (p q : ℕ → Bool) (n : ℕ) → ((i : ℕ) → p i ≡ q i) → count_below p n ≡ count_below q n
count-same p q zero same = refl
count-same p q (suc n) same = ap₂ (λ (a : ℕ) (b : Bool). a + (if b then 1 else 0)) (count-same p q n same) (same n)

-- ## Stripes of a column

-- the test is whether the stripe is the column's
pub stripe-of : (y : Shape) (cols : List ColumnState) (c s : ℕ) → IsTrue (is_stripe_of y cols c s) ↔ IsStripeOf y cols c s
unfolding is_stripe_by
stripe-of y cols c s = (
  λ h. any-where (λ i. is_unit_of y cols s i c) y.width h,
  λ h. any-here (λ i. is_unit_of y cols s i c) y.width h.0 h.1 h.2,
)

-- it goes by which columns are spread alone
pub stripe-same : (y : Shape) (one other : ℕ → Bool) (c s : ℕ) → ((k : ℕ) → one k ≡ other k) → is_stripe_by y one c s ≡ is_stripe_by y other c s
unfolding is_stripe_by
stripe-same y one other c s same =
    any-same (λ i. is_unit_by y one s i c) (λ i. is_unit_by y other s i c) y.width
    (λ i. ap (λ b. (c == (y.place s i).column) || (b && is_place_on (y.spare s) c)) (same (y.place s i).column))

pub stripe-here : (y : Shape) (spread : ℕ → Bool) (c s i : ℕ) → i < y.width → is_unit_by y spread s i c ≡ true → is_stripe_by y spread c s ≡ true
unfolding is_stripe_by
stripe-here y spread c s i iw h = any-here (λ i. is_unit_by y spread s i c) y.width i iw h

pub stripe-none : (y : Shape) (spread : ℕ → Bool) (c s n : ℕ) → n ≡ y.width → any_below (λ i. is_unit_by y spread s i c) n ≡ false → is_stripe_by y spread c s ≡ false
unfolding is_stripe_by
stripe-none y spread c s n e h = sym (ap (any_below (λ i. is_unit_by y spread s i c)) e) ∙ h

-- ## The first of them

module _ (p : ℕ → Bool) (m n : ℕ) where
  pub first-none : first_done p m 0 n ≡ none_done n
  unfolding first_done
  first-none = refl

  -- one stripe more, which is one of the first
  pub first-one : (s : ℕ) → p s ≡ true → count_below p s < m → first_done p m (s + 1) n ≡ slice_set (first_done p m s n) s true
  unfolding first_done
  first-one s is few = let next : s + 1 ≡ suc s = omega arith in rw next (go (p s) (nat_lt (count_below p s) m) is (lt-true (count_below p s) m few))
    where
      lt-true : (a b : ℕ) → a < b → nat_lt a b ≡ true
      lt-true a b h = search (arith)

      go : (a b : Bool) → a ≡ true → b ≡ true → (if a && b then slice_set (first_done p m s n) s true else first_done p m s n) ≡ slice_set (first_done p m s n) s true
      go true true e f = refl
      go true false e f = let u : ⊥ = cc in absurd u
      go false b e f = let u : ⊥ = cc in absurd u

  -- or isn't
  pub first-skip : (s : ℕ) → (p s && nat_lt (count_below p s) m) ≡ false → first_done p m (s + 1) n ≡ first_done p m s n
  unfolding first_done
  first-skip s other = let next : s + 1 ≡ suc s = omega arith in rw next (ap (λ (b : Bool). if b then slice_set (first_done p m s n) s true else first_done p m s n) other)

  pub first-length : (s : ℕ) → length (first_done p m s n) ≡ n
  unfolding first_done
  first-length zero = length-replicate n false
  first-length (suc s) = go (p s && nat_lt (count_below p s) m) (first-length s)
    where
      go : (b : Bool) → length (first_done p m s n) ≡ n → length (if b then slice_set (first_done p m s n) s true else first_done p m s n) ≡ n
      go true h = length-set (first_done p m s n) s true ∙ h
      go false h = h

-- ## The columns, one behind the other

pub drop-get : {X : Type 0} (xs : List X) (i : ℕ) (x : X) → slice_get xs i ≡ Some x → drop i xs ≡ x ∷ drop (i + 1) xs
drop-get [] i x h = let z : None ≡ Some x = h in absurd (let u : ⊥ = cc in u)
drop-get (z ∷ xs) zero x h = let same : z ≡ x = cc in ap (λ w. w ∷ xs) same
drop-get (z ∷ xs) (suc i) x h = let next : suc i + 1 ≡ suc (i + 1) = omega arith in rw next (drop-get xs i x h)

pub drop-end : {X : Type 0} (xs : List X) (i : ℕ) → length xs ≤ i → drop i xs ≡ []
drop-end [] zero h = refl
drop-end [] (suc i) h = refl
drop-end (z ∷ xs) zero h = absurd (omega (arith, h))
drop-end (z ∷ xs) (suc i) h = drop-end xs i (omega (arith, h))

module _ (y : Shape) (spread : ℕ → Bool) where
  pub filled-step : (x : Column) (xs : List Column) (c : ℕ) → filled_from y spread (x ∷ xs) c ≡ first_or y spread c (done_set x) (filled_from y spread xs (c + 1))
  unfolding filled_from
  filled-step x xs c = let next : c + 1 ≡ suc c = omega arith in ap (λ k. first_or y spread c (done_set x) (filled_from y spread xs k)) (sym next)

  pub filled-end : (c : ℕ) → filled_from y spread [] c ≡ none_done y.stripes
  unfolding filled_from
  filled-end c = refl

  or-length : (c : ℕ) (o : Option ℕ) (other : List Bool) → length other ≡ y.stripes → length (first_or y spread c o other) ≡ y.stripes
  or-length c None other h = h
  or-length c (Some done) other h = first-length (is_stripe_by y spread c) done y.stripes y.stripes

  pub filled-length : (xs : List Column) (c : ℕ) → length (filled_from y spread xs c) ≡ y.stripes
  unfolding filled_from
  filled-length [] c = length-replicate y.stripes false
  filled-length (x ∷ xs) c = or-length c (done_set x) (filled_from y spread xs (suc c)) (filled-length xs (suc c))

module _ (y : Shape) (columns : List Column) where
  pub filled-all : filled_from y (spreads columns) columns 0 ≡ filled_in y columns
  unfolding filled_in
  filled-all = refl

  pub filled-in-length : length (filled_in y columns) ≡ y.stripes
  filled-in-length = ap length (sym filled-all) ∙ filled-length y (spreads columns) columns 0

-- the columns from the next on
pub filled-next : (y : Shape) (columns : List Column) (c : ℕ) (o : Option ℕ) → c < length columns → done_at columns c ≡ o
    → filled_from y (spreads columns) (drop c columns) c ≡ first_or y (spreads columns) c o (filled_from y (spreads columns) (drop (c + 1) columns) (c + 1))
filled-next y columns c o within is = go (slice_get columns c) refl is
  where
    go : (x : Option Column) → slice_get columns c ≡ x → option_and_then done_set x ≡ o
        → filled_from y (spreads columns) (drop c columns) c ≡ first_or y (spreads columns) c o (filled_from y (spreads columns) (drop (c + 1) columns) (c + 1))
    go None e h = absurd (past columns c within e)
      where
        past : (xs : List Column) (i : ℕ) → i < length xs → slice_get xs i ≡ None → ⊥
        past [] i lt e = omega (arith, lt)
        past (x ∷ xs) zero lt e = let z : Some x ≡ None = e in let u : ⊥ = cc in u
        past (x ∷ xs) (suc i) lt e = past xs i (omega (arith, lt)) e
    go (Some x) e h =
        ap (λ l. filled_from y (spreads columns) l c) (drop-get columns c x e)
        ∙ filled-step y (spreads columns) x (drop (c + 1) columns) c
        ∙ ap (λ d. first_or y (spreads columns) c d (filled_from y (spreads columns) (drop (c + 1) columns) (c + 1))) h

-- ## How many are led

module _ (p done : ℕ → Bool) where
  pub led-none : all_done_below p done 0 ≡ true
  unfolding all_done_below
  led-none = refl

  -- one more that doesn't pass
  pub led-skip : (s : ℕ) → all_done_below p done s ≡ true → p s ≡ false → (all_done_below p done (s + 1) ≡ true) × (count_below (is_led p done) (s + 1) ≡ count_below (is_led p done) s)
  unfolding all_done_below
  led-skip s all not_p = let next : s + 1 ≡ suc s = omega arith in rw next (
    ap₂ (λ (a b : Bool). a && (not b || done s)) all not_p,
    not-counted (count_below (is_led p done) s) (p s) (all_done_below p done (suc s)) not_p,
  )
    where
      not-counted : (n : ℕ) (a b : Bool) → a ≡ false → n + (if a && b then 1 else 0) ≡ n
      not-counted n true b e = let u : ⊥ = cc in absurd u
      not-counted n false b e = omega arith

  -- or passes and is done
  pub led-one : (s : ℕ) → all_done_below p done s ≡ true → p s ≡ true → done s ≡ true → (all_done_below p done (s + 1) ≡ true) × (count_below (is_led p done) (s + 1) ≡ count_below (is_led p done) s + 1)
  unfolding all_done_below
  led-one s all is d =
      let here : all_done_below p done (suc s) ≡ true = all_more s all (or-true-of (not (p s)) (done s) d) in
      let next : s + 1 ≡ suc s = omega arith in rw next (
        here,
        counted (count_below (is_led p done) s) (p s) (all_done_below p done (suc s)) is here,
      )
    where
      counted : (n : ℕ) (a b : Bool) → a ≡ true → b ≡ true → n + (if a && b then 1 else 0) ≡ n + 1
      counted n true true e f = refl
      counted n true false e f = let u : ⊥ = cc in absurd u
      counted n false b e f = let u : ⊥ = cc in absurd u

      or-true-of : (a b : Bool) → b ≡ true → (a || b) ≡ true
      or-true-of a b e = ap (λ c. a || c) e ∙ or-true a

      all_more : (s : ℕ) → all_done_below p done s ≡ true → (not (p s) || done s) ≡ true → all_done_below p done (suc s) ≡ true
      all_more s a b = ap₂ (λ (c d : Bool). c && d) a b

  -- behind one that passes and isn't done none is led
  led-broken : (s n : ℕ) → s < n → p s ≡ true → done s ≡ false → all_done_below p done n ≡ false
  unfolding all_done_below
  led-broken s zero lt is left = absurd (omega (arith, lt))
  led-broken s (suc n) lt is left = elim (cases_eq s n) [
    | inl e ↦ broken (all_done_below p done n) (ap₂ (λ (a b : Bool). not a || b) (ap p (sym e) ∙ is) (ap done (sym e) ∙ left))
    | inr ne ↦ ap (λ b. b && (not (p n) || done n)) (led-broken s n (omega (arith, lt, ne)) is left)
  ]
    where
      broken : (a : Bool) {b : Bool} → b ≡ false → (a && b) ≡ false
      broken true h = h
      broken false h = refl

  pub led-stays : (s n : ℕ) → s ≤ n → p s ≡ true → done s ≡ false → count_below (is_led p done) n ≡ count_below (is_led p done) s
  led-stays s zero le is left = let e : s ≡ 0 = omega (arith, le) in ap (count_below (is_led p done)) (sym e)
  led-stays s (suc n) le is left = elim (cases_eq s (suc n)) [
    | inl e ↦ ap (count_below (is_led p done)) (sym e)
    | inr ne ↦
        not-led (count_below (is_led p done) n) (p n) (all_done_below p done (suc n)) (led-broken s (suc n) (omega (arith, le, ne)) is left) ∙ led-stays s n (omega (arith, le, ne)) is left
  ]
    where
      not-led : (n : ℕ) (a b : Bool) → b ≡ false → n + (if a && b then 1 else 0) ≡ n
      not-led n a true e = let u : ⊥ = cc in absurd u
      not-led n true false e = omega arith
      not-led n false false e = omega arith

pub leading-is : (y : Shape) (cols : List ColumnState) (c n : ℕ) → n ≡ y.stripes → count_below (is_led (is_stripe_of y cols c) (is_done_on (slice_get cols c))) n ≡ leading y cols c
unfolding leading
leading-is y cols c n e = ap (count_below (is_led (is_stripe_of y cols c) (is_done_on (slice_get cols c)))) e
