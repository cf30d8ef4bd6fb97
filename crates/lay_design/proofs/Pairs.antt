-- Counts of the objects of tuples, and of pairs of them.
use Rattle.std.specs.Prelude.{◌≡◌, ◌≢◌, ◌<◌, ◌≤◌, ◌+◌, ◌*◌, ◌==◌, ◌&&◌, ◌||◌, ℕ, zero, suc, Bool, true, false, List, All, length, take, get_or, cond}
use Rattle.std.specs.List.{list_any}
use Rattle.std.proofs.Common.{arith, refl, ap, sym, subst, ◌∙◌, inl, inr}
use Rattle.std.proofs.lemmas.Nat.{mul-le}
use Rattle.std.proofs.lemmas.Bool.{eq-eqb, ne_eqb, cases_eq, leb-false}
use Rattle.std.proofs.lemmas.List.{length-take-le, take_all, get_or_default}
use Rattle.std.proofs.lemmas.List.Sums.{count_by-le-length, count_by_more_yes, count_by_more_no}
use Rattle.std.proofs.lemmas.List.Folds.{list_any_more}
use Rattle.lay_design.specs.Counting.{count_below}
use Rattle.lay_design.specs.Blocks.{times, is_repeated, is_outside}

-- an object and another stand in a tuple in few places
pub product_few : (x y : ℕ) (objects : List ℕ) (i : ℕ) → i ≤ length objects → length objects ≤ 32 → times x (take i objects) * times y objects ≤ 1024
product_few x y objects i h short =
    let a = count_by-le-length (λ z. z == x) (take i objects) in
    let n = length-take-le i objects h in
    let b = count_by-le-length (λ z. z == y) objects in
    mul-le (times x (take i objects)) (times y objects) 32 32 (omega (arith, a, n, h, short)) (omega (arith, b, short))

-- one more place, with the object or without
pub times_more : (x : ℕ) (objects : List ℕ) (i : ℕ) → i < length objects → get_or objects i 0 ≡ x → times x (take (i + 1) objects) ≡ times x (take i objects) + 1
times_more x objects i h e = count_by_more_yes (λ z. z == x) objects i 0 h (eq-eqb _ _ e)

pub times_same : (x : ℕ) (objects : List ℕ) (i : ℕ) → i < length objects → get_or objects i 0 ≢ x → times x (take (i + 1) objects) ≡ times x (take i objects)
times_same x objects i h ne = count_by_more_no (λ z. z == x) objects i 0 h (ne_eqb _ _ ne)

-- in a tuple of distinct objects each stands once or not at all
once_before : (x : ℕ) (objects : List ℕ) → ((i : ℕ) → i < length objects → is_repeated objects i ≡ false) → (n : ℕ) → n ≤ length objects → times x (take n objects) ≡ cond (list_any (λ y. y == x) (take n objects)) 1 0
once_before x objects distinct zero h = refl
once_before x objects distinct (suc n) h =
    let before = once_before x objects distinct n (omega (arith, h)) in
    let within : n < length objects = omega (arith, h) in
    let next : suc n ≡ n + 1 = omega arith in
    let more = list_any_more (λ y. y == x) objects n 0 within in
    rw next (elim (cases_eq (get_or objects n 0) x) [
      | inl e ↦
          let new : list_any (λ y. y == x) (take n objects) ≡ false = ap (λ z. list_any (λ y. y == z) (take n objects)) (sym e) ∙ distinct n within in
          times_more x objects n within e ∙ ap (λ m. m + 1) (before ∙ ap (λ t. cond t 1 0) new) ∙ sym (ap (λ t. cond t 1 0) (more ∙ ap (λ t. t || (get_or objects n 0 == x)) new ∙ eq-eqb _ _ e))
      | inr ne ↦
          times_same x objects n within ne ∙ before ∙ sym (ap (λ t. cond t 1 0) (more ∙ ap (λ t. list_any (λ y. y == x) (take n objects) || t) (ne_eqb _ _ ne) ∙ or_false (list_any (λ y. y == x) (take n objects))))
    ])
  where
    or_false : (b : Bool) → (b || false) ≡ b
    or_false true = refl
    or_false false = refl

pub once : (x : ℕ) (objects : List ℕ) → ((i : ℕ) → i < length objects → is_repeated objects i ≡ false) → times x objects ≡ cond (list_any (λ y. y == x) objects) 1 0
once x objects distinct =
    let whole = take_all (length objects) objects (omega arith) in
    ap (times x) (sym whole) ∙ once_before x objects distinct (length objects) (omega arith) ∙ ap (λ l. cond (list_any (λ y. y == x) l) 1 0) whole

-- both stand there, or not both
pub one_product : (a b : Bool) → cond a 1 0 * cond b 1 0 ≡ cond (a && b) 1 0
one_product true true = refl
one_product true false = refl
one_product false b = omega arith

pub count_more : (f : ℕ → Bool) (n : ℕ) → count_below f (n + 1) ≡ count_below f n + cond (f n) 1 0
unfolding count_below
count_more f n = let next : n + 1 ≡ suc n = omega arith in ap (count_below f) next ∙ by (f n) (count_below f n)
  where
    by : (b : Bool) (m : ℕ) → cond b (1 + m) m ≡ m + cond b 1 0
    by true m = omega arith
    by false m = omega arith

pub count_few : (f : ℕ → Bool) (n : ℕ) → count_below f n ≤ n
unfolding count_below
count_few f zero = omega arith
count_few f (suc n) = by (f n) (count_few f n)
  where
    by : (b : Bool) → count_below f n ≤ n → cond b (1 + count_below f n) (count_below f n) ≤ suc n
    by true h = omega (arith, h)
    by false h = omega (arith, h)

pub count_none : (f : ℕ → Bool) → count_below f 0 ≡ 0
unfolding count_below
count_none f = refl

pub count_alike : (f g : ℕ → Bool) (n : ℕ) → ((i : ℕ) → f i ≡ g i) → count_below f n ≡ count_below g n
unfolding count_below
count_alike f g zero h = refl
count_alike f g (suc n) h = ap (λ b. cond b (1 + count_below f n) (count_below f n)) (h n) ∙ ap (λ m. cond (g n) (1 + m) m) (count_alike f g n h)

-- what isn't outside is below
pub all_below : (v : ℕ) (objects : List ℕ) (width : ℕ) → length objects ≡ width → ((i : ℕ) → i < width → is_outside v objects i ≡ false) → All (λ x. x < v) objects
all_below v objects width long inside i d h =
    let low : get_or objects i 0 < v = leb-false v _ (inside i (omega (arith, h, long))) in
    subst (λ x. x < v) (get_or_default objects i 0 d h) low
