-- Where the done stripes of a column are its first ones, and the first of the others are done too, so many more lead.
use Rattle.std.proofs.Common.{◌≡◌, ◌⊎◌, ◌<◌, ◌+◌, inl, inr, ℕ, zero, suc, List, [], ◌∷◌, length, Bool, true, false, slice_index_or, refl, sym, ap, ap₂, ◌∙◌, subst, arith}
use Rattle.std.specs.Prelude.{◌==◌, ◌&&◌, ◌||◌, if◌then◌else◌, not, Contains}
use Rattle.std.specs.List.Sorted.{IsStrictlyIncreasing}
use Rattle.std.proofs.lemmas.Bool.{cases_Bool, cases_eq, eq-eqb, ne_eqb, eqb-true}
use Rattle.eng_cols.specs.Stripes.{all_done_below}
use Rattle.eng_cols.proofs.Leading.{count-rest, count-step, each-done}
use Rattle.eng_world.proofs.Shared.{no}
use Rattle.eng_cols.proofs.Words.{is_led}
use Rattle.lay_core.specs.Touched.{count_below}

-- ## Counts

count-below-same : (p q : ℕ → Bool) (n : ℕ) → ((s : ℕ) → s < n → p s ≡ q s) → count_below p n ≡ count_below q n
count-below-same p q zero same = refl
count-below-same p q (suc n) same = ap₂ (λ (a : ℕ) (b : Bool). a + (if b then 1 else 0)) (count-below-same p q n (λ s lt. same s (omega (arith, lt)))) (same n (omega arith))

-- two tests that pass the same
same-test : (a b : Bool) → (a ≡ true → b ≡ true) → (b ≡ true → a ≡ true) → a ≡ b
same-test true true f g = refl
same-test true false f g = sym (f refl)
same-test false true f g = g refl
same-test false false f g = refl

or-false : (a : Bool) → (a || false) ≡ a
or-false true = refl
or-false false = refl

or-true : (a : Bool) → (a || true) ≡ true
or-true true = refl
or-true false = refl

-- one number more passes
with-one : (ℕ → Bool) → ℕ → ℕ → Bool
with-one q x s = q s || (s == x)

one-more : (q : ℕ → Bool) (x n : ℕ) → x < n → q x ≡ false → count_below (with-one q x) n ≡ count_below q n + 1
unfolding with-one
one-more q x zero lt out = absurd (omega (arith, lt))
one-more q x (suc n) lt out = elim (cases_eq x n) [
  | inl e ↦
      let below : count_below (λ s. q s || (s == x)) n ≡ count_below q n = count-below-same (λ s. q s || (s == x)) q n (λ s lt. ap (λ b. q s || b) (ne_eqb s x (λ i. omega (arith, lt, i, e))) ∙ or-false (q s)) in
      let here : (q n || (n == x)) ≡ true = ap (λ b. q n || b) (eq-eqb n x (sym e)) ∙ or-true (q n) in
      let a = count-step (λ s. q s || (s == x)) n here in
      let b = count-rest q n (ap q (sym e) ∙ out) in
      omega (arith, below, a, b)
  | inr ne ↦
      let before = one-more q x n (omega (arith, lt, ne)) out in
      let here : (q n || (n == x)) ≡ q n = ap (λ b. q n || b) (ne_eqb n x (λ i. ne (sym i))) ∙ or-false (q n) in
      let same = ap (λ (b : Bool). count_below (λ s. q s || (s == x)) n + (if b then 1 else 0)) here in
      let last : count_below (λ s. q s || (s == x)) (suc n) ≡ count_below (λ s. q s || (s == x)) n + (if q n then 1 else 0) = same in
      let whole : count_below q (suc n) ≡ count_below q n + (if q n then 1 else 0) = refl in
      omega (arith, before, last, whole)
]

-- those of a list pass too
with-all : (ℕ → Bool) → List ℕ → ℕ → Bool
with-all q [] = q
with-all q (x ∷ xs) = with-all (with-one q x) xs

Above : ℕ → List ℕ → Type 0
Above x [] = Unit {0}
Above x (z ∷ xs) = (x < z) × Above x xs

Rising : List ℕ → Type 0
Rising [] = Unit {0}
Rising (x ∷ xs) = Above x xs × Rising xs

Each : (ℕ → Type 0) → List ℕ → Type 0
Each P [] = Unit {0}
Each P (x ∷ xs) = P x × Each P xs

all-more : (q : ℕ → Bool) (xs : List ℕ) (n : ℕ) → Rising xs → Each (λ x. (x < n) × (q x ≡ false)) xs → count_below (with-all q xs) n ≡ count_below q n + length xs
unfolding with-all with-one Rising Above Each
all-more q [] n rising out = omega arith
all-more q (x ∷ xs) n rising out =
    let rest = all-more (with-one q x) xs n rising.1 (still xs rising.0 out.1) in
    let one = one-more q x n out.0.0 out.0.1 in
    omega (arith, rest, one)
  where
    still : (zs : List ℕ) → Above x zs → Each (λ z. (z < n) × (q z ≡ false)) zs → Each (λ z. (z < n) × (with-one q x z ≡ false)) zs
    still [] above each = tt
    still (z ∷ zs) above each = ((each.0.0, ap₂ (λ a b. a || b) each.0.1 (ne_eqb z x (λ e. omega (arith, e, above.0)))), still zs above.1 each.1)

-- what passes then did, or is one of the list
either : (q : ℕ → Bool) (xs : List ℕ) (s : ℕ) → with-all q xs s ≡ true → (q s ≡ true) ⊎ Contains xs s
unfolding with-all with-one
either q [] s h = inl h
either q (x ∷ xs) s h = elim (either (with-one q x) xs s h) [
  | inr has ↦ inr (suc has.0, (let n = has.1 in omega (arith, n)), has.2)
  | inl was ↦ first was
]
  where
    first : with-one q x s ≡ true → (q s ≡ true) ⊎ Contains (x ∷ xs) s
    first e = elim (cases_Bool (q s)) [
      | inl was ↦ inl was
      | inr none ↦ let same : (s == x) ≡ true = sym (ap (λ b. b || (s == x)) none) ∙ e in inr (0, omega arith, sym (eqb-true s x same))
    ]

was-passes : (q : ℕ → Bool) (xs : List ℕ) (s : ℕ) → q s ≡ true → with-all q xs s ≡ true
unfolding with-all with-one
was-passes q [] s h = h
was-passes q (x ∷ xs) s h = was-passes (with-one q x) xs s (one h)
  where
    one : q s ≡ true → with-one q x s ≡ true
    one h = ap (λ b. b || (s == x)) h

has-passes : (q : ℕ → Bool) (xs : List ℕ) (s k : ℕ) → k < length xs → slice_index_or xs k s ≡ s → with-all q xs s ≡ true
unfolding with-all with-one
has-passes q [] s k lt is = absurd (omega (arith, lt))
has-passes q (x ∷ xs) s zero lt is = was-passes (with-one q x) xs s one
  where
    one : with-one q x s ≡ true
    one = ap (λ b. q s || b) (eq-eqb s x (sym is)) ∙ or-true (q s)
has-passes q (x ∷ xs) s (suc k) lt is = has-passes (with-one q x) xs s k (omega (arith, lt)) is

-- a list that rises, by its places
rising-is : (xs : List ℕ) → IsStrictlyIncreasing xs → Rising xs
unfolding Rising Above
rising-is [] h = tt
rising-is (x ∷ []) h = (tt, tt)
rising-is (x ∷ z ∷ xs) h =
    let rest = rising-is (z ∷ xs) (λ k within. let e : suc k + 1 ≡ suc (k + 1) = omega arith in subst (λ n. slice_index_or (z ∷ xs) k 0 < slice_index_or (x ∷ z ∷ xs) n 0) e (h (suc k) (omega (arith, within)))) in
    let first : x < z = h 0 (omega arith) in
    ((first, lower x z xs first rest.0), rest)
  where
    lower : (a b : ℕ) (ys : List ℕ) → a < b → Above b ys → Above a ys
    lower a b [] lt above = tt
    lower a b (y ∷ ys) lt above = (omega (arith, lt, above.0), lower a b ys lt above.1)

each-is : (P : ℕ → Type 0) (xs : List ℕ) → ((s : ℕ) → Contains xs s → P s) → Each P xs
unfolding Each
each-is P [] h = tt
each-is P (x ∷ xs) h = (h x (0, omega arith, refl), each-is P xs (λ s has. h s (suc has.0, (let n = has.1 in omega (arith, n)), has.2)))

-- ## Fronts

-- each that passes before one that is done is done
abbrev pub IsFront : (ℕ → Bool) → (ℕ → Bool) → ℕ → Type 0
IsFront p done n = (s t : ℕ) → t < n → s < t → p s ≡ true → p t ≡ true → done t ≡ true → done s ≡ true

and-first : (a b : Bool) → (a && b) ≡ true → a ≡ true
and-first true b h = refl
and-first false b h = no (sym h)

and-second : (a b : Bool) → (a && b) ≡ true → b ≡ true
and-second true b h = h
and-second false b h = no (sym h)

and-both : (a b : Bool) → a ≡ true → b ≡ true → (a && b) ≡ true
and-both true b e f = f
and-both false b e f = no (sym e)

-- of a front all that are done lead
front-leads : (p done : ℕ → Bool) (n : ℕ) → IsFront p done n → count_below (is_led p done) n ≡ count_below (λ s. p s && done s) n
unfolding all_done_below
front-leads p done n front = count-below-same (is_led p done) (λ s. p s && done s) n (λ s lt. same-test (is_led p done s) (p s && done s) (led s lt) (leads s lt))
  where
    led : (s : ℕ) → s < n → is_led p done s ≡ true → (p s && done s) ≡ true
    led s lt h =
        let is = and-first (p s) (all_done_below p done (suc s)) h in
        let all = and-second (p s) (all_done_below p done (suc s)) h in
        let here = and-second (all_done_below p done s) (not (p s) || done s) all in
        and-both (p s) (done s) is (sym (ap (λ b. not b || done s) is) ∙ here)

    leads : (s : ℕ) → s < n → (p s && done s) ≡ true → is_led p done s ≡ true
    leads s lt h =
        let is = and-first (p s) (done s) h in
        let d = and-second (p s) (done s) h in
        and-both (p s) (all_done_below p done (suc s)) is (each-done p done (suc s) (λ k kl pk. elim (cases_eq k s) [
          | inl e ↦ ap done e ∙ d
          | inr ne ↦ front k s lt (omega (arith, kl, ne)) pk is d
        ]))

module _ (p before after : ℕ → Bool) (n : ℕ) (stripes : List ℕ)
    (only : (s : ℕ) → Contains stripes s → (s < n) × ((p s ≡ true) × (before s ≡ false)))
    (first : (s : ℕ) → s < n → p s ≡ true → before s ≡ false → Contains stripes s ⊎ ((t : ℕ) → Contains stripes t → t < s))
    (ascending : IsStrictlyIncreasing stripes)
    (front : IsFront p before n)
    (done : (s : ℕ) → s < n → p s ≡ true → (before s ≡ true) ⊎ Contains stripes s → after s ≡ true)
    (others : (s : ℕ) → s < n → p s ≡ true → after s ≡ true → (before s ≡ true) ⊎ Contains stripes s) where
  front-after : IsFront p after n
  front-after s t tn st ps pt at = elim (cases_Bool (before s)) [
    | inl was ↦ done s (omega (arith, tn, st)) ps (inl was)
    | inr not-was ↦ elim (others t tn pt at) [
      | inl t-was ↦ done s (omega (arith, tn, st)) ps (inl (front s t tn st ps pt t-was))
      | inr t-has ↦ elim (first s (omega (arith, tn, st)) ps not-was) [
        | inl has ↦ done s (omega (arith, tn, st)) ps (inr has)
        | inr behind ↦ let lt = behind t t-has in absurd (omega (arith, lt, st))
      ]
    ]
  ]

  passes-alike : (s : ℕ) → s < n → (p s && after s) ≡ with-all (λ s. p s && before s) stripes s
  passes-alike s lt = same-test (p s && after s) (with-all (λ s. p s && before s) stripes s) on back
    where
      on : (p s && after s) ≡ true → with-all (λ s. p s && before s) stripes s ≡ true
      on h =
          let is = and-first (p s) (after s) h in
          elim (others s lt is (and-second (p s) (after s) h)) [
            | inl b ↦ was-passes (λ s. p s && before s) stripes s (and-both (p s) (before s) is b)
            | inr has ↦ has-passes (λ s. p s && before s) stripes s has.0 has.1 has.2
          ]

      back : with-all (λ s. p s && before s) stripes s ≡ true → (p s && after s) ≡ true
      back h = elim (either (λ s. p s && before s) stripes s h) [
        | inl b ↦ let is = and-first (p s) (before s) b in and-both (p s) (after s) is (done s lt is (inl (and-second (p s) (before s) b)))
        | inr has ↦ let o = only s has in and-both (p s) (after s) o.1.0 (done s lt o.1.0 (inr has))
      ]

  -- so many more lead
  pub front-grows : count_below (is_led p after) n ≡ count_below (is_led p before) n + length stripes
  front-grows =
      let out = each-is (λ x. (x < n) × ((p x && before x) ≡ false)) stripes (λ s has. let o = only s has in (o.0, ap (λ b. p s && b) o.1.1 ∙ last (p s))) in
      let more = all-more (λ s. p s && before s) stripes n (rising-is stripes ascending) out in
      front-leads p after n front-after
      ∙ (count-below-same (λ s. p s && after s) (with-all (λ s. p s && before s) stripes) n passes-alike
      ∙ (more ∙ ap (λ k. k + length stripes) (sym (front-leads p before n front))))
    where
      last : (b : Bool) → (b && false) ≡ false
      last true = refl
      last false = refl
