-- The first of a column's stripes as a list, and how many they are.
use Rattle.std.proofs.Common.{◌≡◌, ◌≢◌, ◌⊎◌, ◌<◌, ◌≤◌, ◌+◌, ℕ, zero, suc, List, [], ◌∷◌, Bool, true, false, inl, inr, slice_set, length, refl, sym, ap, ap₂, ◌∙◌, arith, subst}
use Rattle.std.specs.Prelude.{◌&&◌, ◌||◌, not, if◌then◌else◌, nat_lt}
use Rattle.std.proofs.lemmas.Bool.{cases_eq, cases_Bool}
use Rattle.eng_cols.specs.Cols.{is_done, none_done}
use Rattle.eng_cols.specs.Stripes.{all_done_below, first_done}
use Rattle.eng_cols.proofs.Counting.{led-stays, first-length, first-none, first-one, first-skip}
use Rattle.eng_cols.proofs.Words.{is_led}
use Rattle.lay_core.specs.Touched.{count_below}

no : {A : Type 0} → false ≡ true → A
no h = absurd (let u : ⊥ = cc in u)

-- ## Counts

pub count-step : (p : ℕ → Bool) (n : ℕ) → p n ≡ true → count_below p (suc n) ≡ count_below p n + 1
count-step p n h = ap (λ (b : Bool). count_below p n + (if b then 1 else 0)) h

pub count-rest : (p : ℕ → Bool) (n : ℕ) → p n ≡ false → count_below p (suc n) ≡ count_below p n
count-rest p n h = ap (λ (b : Bool). count_below p n + (if b then 1 else 0)) h ∙ omega arith

pub count-grows : (p : ℕ → Bool) (k n : ℕ) → k ≤ n → count_below p k ≤ count_below p n
count-grows p k zero le = let e : k ≡ 0 = omega (arith, le) in rw e (omega arith)
count-grows p k (suc n) le = elim (cases_eq k (suc n)) [
  | inl e ↦ rw e (omega arith)
  | inr ne ↦ elim (cases_Bool (p n)) [
    | inl h ↦ omega (arith, count-grows p k n (omega (arith, le, ne)), count-step p n h)
    | inr h ↦ omega (arith, count-grows p k n (omega (arith, le, ne)), count-rest p n h)
  ]
]

-- a number that passes is counted behind itself
pub count-past : (p : ℕ → Bool) (k n : ℕ) → k < n → p k ≡ true → count_below p k + 1 ≤ count_below p n
count-past p k n lt h = omega (arith, count-step p k h, count-grows p (suc k) n (omega (arith, lt)))

-- what passes a stricter test is no more
pub count-less : (p q : ℕ → Bool) (n : ℕ) → ((k : ℕ) → q k ≡ true → p k ≡ true) → count_below q n ≤ count_below p n
count-less p q zero h = omega arith
count-less p q (suc n) h = elim (cases_Bool (q n)) [
  | inl e ↦ omega (arith, count-less p q n h, count-step q n e, count-step p n (h n e))
  | inr e ↦ elim (cases_Bool (p n)) [
    | inl f ↦ omega (arith, count-less p q n h, count-rest q n e, count-step p n f)
    | inr f ↦ omega (arith, count-less p q n h, count-rest q n e, count-rest p n f)
  ]
]

and-first : (a b : Bool) → (a && b) ≡ true → a ≡ true
and-first true b h = refl
and-first false b h = no h

-- ## What is led

module _ (p done : ℕ → Bool) where
  pub led-few : (n : ℕ) → count_below (is_led p done) n ≤ count_below p n
  led-few n = count-less p (is_led p done) n (λ k h. and-first (p k) (all_done_below p done (suc k)) h)

  -- one that passes before so many that are led is done
  pub led-done : (k n : ℕ) → p k ≡ true → count_below p k < count_below (is_led p done) n → done k ≡ true
  led-done k n is before = elim (cases_Bool (done k)) [
    | inl d ↦ d
    | inr d ↦ elim (cases-le k n) [
      | inl le ↦ absurd (omega (arith, before, led-stays p done k n le is d, led-few k))
      | inr lt ↦ absurd (omega (arith, before, led-few n, count-grows p n k (omega (arith, lt))))
    ]
  ]
    where
      cases-le : (a b : ℕ) → (a ≤ b) ⊎ (b < a)
      cases-le a b = search (arith)

  -- one more that passes and isn't done
  not-led : (n : ℕ) → p n ≡ true → done n ≡ false → count_below (is_led p done) (suc n) ≡ count_below (is_led p done) n
  not-led n is d = led-stays p done n (suc n) (omega arith) is d

  not-passed : (n : ℕ) → p n ≡ false → count_below (is_led p done) (suc n) ≡ count_below (is_led p done) n
  not-passed n h = count-rest (is_led p done) n (ap (λ b. b && all_done_below p done (suc n)) h)

  -- all that pass are done exactly where as many are led as pass
  pub led-all : (n : ℕ) → all_done_below p done n ≡ true → count_below (is_led p done) n ≡ count_below p n
  unfolding all_done_below
  led-all zero h = refl
  led-all (suc n) h =
      let before : all_done_below p done n ≡ true = and-first (all_done_below p done n) (not (p n) || done n) h in
      elim (cases_Bool (p n)) [
        | inl is ↦ count-step (is_led p done) n (ap₂ (λ a b. a && b) is h) ∙ ap (λ k. k + 1) (led-all n before) ∙ sym (count-step p n is)
        | inr is ↦ not-passed n is ∙ led-all n before ∙ sym (count-rest p n is)
      ]

  pub all-led : (n : ℕ) → count_below (is_led p done) n ≡ count_below p n → (k : ℕ) → k < n → p k ≡ true → done k ≡ true
  all-led n e k lt is = led-done k n is (omega (arith, e, count-past p k n lt is))

-- where each that passes is done they all are
pub each-done : (p done : ℕ → Bool) (n : ℕ) → ((k : ℕ) → k < n → p k ≡ true → done k ≡ true) → all_done_below p done n ≡ true
unfolding all_done_below
each-done p done zero h = refl
each-done p done (suc n) h = both (all_done_below p done n) (not (p n) || done n) (each-done p done n (λ k lt. h k (omega (arith, lt)))) (one (p n) refl)
  where
    both : (a b : Bool) → a ≡ true → b ≡ true → (a && b) ≡ true
    both true b e f = f
    both false b e f = no e

    one : (b : Bool) → p n ≡ b → (not b || done n) ≡ true
    one true is = h n (omega arith) is
    one false is = refl

-- ## The list of the first

lt-is : (a b : ℕ) → nat_lt a b ≡ true → a < b
lt-is a b h = search (arith)

is-lt : (a b : ℕ) → a < b → nat_lt a b ≡ true
is-lt a b h = search (arith)

and-second : (a b : Bool) → (a && b) ≡ true → b ≡ true
and-second true b h = h
and-second false b h = no h

and-both : (a b : Bool) → a ≡ true → b ≡ true → (a && b) ≡ true
and-both true b e f = f
and-both false b e f = no e

not-done : (n s : ℕ) → is_done (none_done n) s ≡ false
not-done zero s = refl
not-done (suc n) zero = refl
not-done (suc n) (suc s) = not-done n s

done-other : (l : List Bool) (i k : ℕ) → k ≢ i → is_done (slice_set l i true) k ≡ is_done l k
done-other [] i k ne = refl
done-other (x ∷ l) zero zero ne = absurd (ne refl)
done-other (x ∷ l) zero (suc k) ne = refl
done-other (x ∷ l) (suc i) zero ne = refl
done-other (x ∷ l) (suc i) (suc k) ne = done-other l i k (λ e. ne (ap suc e))

done-here : (l : List Bool) (i : ℕ) → i < length l → is_done (slice_set l i true) i ≡ true
done-here [] i lt = absurd (omega (arith, lt))
done-here (x ∷ l) zero lt = refl
done-here (x ∷ l) (suc i) lt = done-here l i (omega (arith, lt))

module _ (p : ℕ → Bool) (m n : ℕ) where
  marks : ℕ → Bool
  marks s = p s && nat_lt (count_below p s) m

  skip : (s : ℕ) → (p s && nat_lt (count_below p s) m) ≡ false → first_done p m (suc s) n ≡ first_done p m s n
  skip s other = let next : s + 1 ≡ suc s = omega arith in ap (λ k. first_done p m k n) (sym next) ∙ first-skip p m n s other

  mark : (s : ℕ) → (p s && nat_lt (count_below p s) m) ≡ true → first_done p m (suc s) n ≡ slice_set (first_done p m s n) s true
  mark s is =
      let next : s + 1 ≡ suc s = omega arith in
      ap (λ k. first_done p m k n) (sym next) ∙ first-one p m n s (and-first (p s) (nat_lt (count_below p s) m) is) (lt-is (count_below p s) m (and-second (p s) (nat_lt (count_below p s) m) is))

  -- a stripe that is marked is one of the first
  pub first-marked : (s k : ℕ) → is_done (first_done p m s n) k ≡ true → (p k ≡ true) × (count_below p k < m)
  first-marked zero k h = no (sym (not-done n k) ∙ ap (λ l. is_done l k) (sym (first-none p m n)) ∙ h)
  first-marked (suc s) k h = elim (cases_Bool (p s && nat_lt (count_below p s) m)) [
    | inr other ↦ first-marked s k (ap (λ l. is_done l k) (sym (skip s other)) ∙ h)
    | inl is ↦ elim (cases_eq k s) [
      | inl e ↦ (ap p e ∙ and-first (p s) (nat_lt (count_below p s) m) is, subst (λ j. count_below p j < m) (sym e) (lt-is (count_below p s) m (and-second (p s) (nat_lt (count_below p s) m) is)))
      | inr ne ↦ first-marked s k (sym (done-other (first_done p m s n) s k ne) ∙ ap (λ l. is_done l k) (sym (mark s is)) ∙ h)
    ]
  ]

  -- and one of the first is marked
  pub first-marks : (s k : ℕ) → s ≤ n → k < s → p k ≡ true → count_below p k < m → is_done (first_done p m s n) k ≡ true
  first-marks zero k le lt is few = absurd (omega (arith, lt))
  first-marks (suc s) k le lt is few = elim (cases_eq k s) [
    | inl e ↦
        let here : (p s && nat_lt (count_below p s) m) ≡ true = and-both (p s) (nat_lt (count_below p s) m) (ap p (sym e) ∙ is) (is-lt (count_below p s) m (subst (λ j. count_below p j < m) e few)) in
        ap (λ l. is_done l k) (mark s here) ∙ ap (is_done (slice_set (first_done p m s n) s true)) e ∙ done-here (first_done p m s n) s (omega (arith, le, first-length p m n s))
    | inr ne ↦
        let before : is_done (first_done p m s n) k ≡ true = first-marks s k (omega (arith, le)) (omega (arith, lt, ne)) is few in
        elim (cases_Bool (p s && nat_lt (count_below p s) m)) [
          | inr other ↦ ap (λ l. is_done l k) (skip s other) ∙ before
          | inl here ↦ ap (λ l. is_done l k) (mark s here) ∙ done-other (first_done p m s n) s k ne ∙ before
        ]
  ]

  abbrev done : ℕ → Bool
  done k = is_done (first_done p m n n) k

  -- each that passes is done as long as no more than so many pass
  all-first : (s : ℕ) → s ≤ n → count_below p s ≤ m → all_done_below p done s ≡ true
  unfolding all_done_below
  all-first zero le few = refl
  all-first (suc s) le few =
      and-both (all_done_below p done s) (not (p s) || done s) (all-first s (omega (arith, le)) (omega (arith, few, count-grows p s (suc s) (omega arith)))) (one (p s) refl)
    where
      one : (b : Bool) → p s ≡ b → (not b || is_done (first_done p m n n) s) ≡ true
      one true is = first-marks n s (omega arith) (omega (arith, le)) is (omega (arith, few, count-step p s is))
      one false is = refl

  -- so many are led at least
  led-least : (s : ℕ) → s ≤ n → m ≤ count_below p s → m ≤ count_below (is_led p done) s
  led-least zero le many = omega (arith, many)
  led-least (suc s) le many = elim (cases-at (count_below p s) m) [
    | inl there ↦ omega (arith, led-least s (omega (arith, le)) there, count-grows (is_led p done) s (suc s) (omega arith))
    | inr short ↦ elim (cases_Bool (p s)) [
      | inr not_p ↦ absurd (omega (arith, many, short, count-rest p s not_p))
      | inl is ↦ omega (arith, many, led-all p done (suc s) (all-first (suc s) le (omega (arith, short, count-step p s is))))
    ]
  ]
    where
      cases-at : (a b : ℕ) → (b ≤ a) ⊎ (a < b)
      cases-at a b = search (arith)

  or-rest : (a b : Bool) → a ≡ true → (not a || b) ≡ true → b ≡ true
  or-rest true b e h = h
  or-rest false b e h = no e

  last : (s : ℕ) → is_led p done s ≡ true → p s ≡ true → is_done (first_done p m n n) s ≡ true
  unfolding all_done_below
  last s led is = or-rest (p s) (done s) is (and-second (all_done_below p done s) (not (p s) || done s) (and-second (p s) (all_done_below p done (suc s)) led))

  -- and at most
  led-most : (s : ℕ) → s ≤ n → count_below (is_led p done) s ≤ m
  led-most zero le = omega arith
  led-most (suc s) le = elim (cases_Bool (is_led p done s)) [
    | inr other ↦ omega (arith, led-most s (omega (arith, le)), count-rest (is_led p done) s other)
    | inl led ↦
        let is : p s ≡ true = and-first (p s) (all_done_below p done (suc s)) led in
        let here : is_done (first_done p m n n) s ≡ true = last s led is in
        omega (arith, count-step (is_led p done) s led, led-few p done s, (first-marked n s here).1)
  ]

  -- of a list of the first, where there are so many, so many are led
  pub led-first : m ≤ count_below p n → count_below (is_led p done) n ≡ m
  led-first many = omega (arith, led-least n (omega arith) many, led-most n (omega arith))
