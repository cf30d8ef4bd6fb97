-- Counts of the numbers that pass a test.
use Rattle.std.specs.Prelude.{◌≡◌, ◌<◌, ◌≤◌, ◌+◌, ◌-◌, ◌*◌, ◌%◌, ℕ, zero, suc, Bool, true, false, cond}
use Rattle.std.proofs.Common.{arith, refl, sym, ap, ◌∙◌, inl, inr}
use Rattle.std.proofs.lemmas.Bool.{cases_lt}
use Rattle.std.proofs.Math.Nat.{mod-eq_of_lt, add-mul-mod_self_right}
use Rattle.lay_design.specs.Counting.{count_below}

-- one for a test that is passed
abbrev pub one_if : Bool → ℕ
one_if b = cond b 1 0

pub count_none : (f : ℕ → Bool) → count_below f 0 ≡ 0
unfolding count_below
count_none f = refl

pub count_more : (f : ℕ → Bool) (n : ℕ) → count_below f (n + 1) ≡ count_below f n + one_if (f n)
unfolding count_below
count_more f n = let next : n + 1 ≡ suc n = omega arith in ap (count_below f) next ∙ by (f n) (count_below f n)
  where
    by : (b : Bool) (m : ℕ) → cond b (1 + m) m ≡ m + cond b 1 0
    by true m = omega arith
    by false m = omega arith

pub count_alike : (f g : ℕ → Bool) (n : ℕ) → ((i : ℕ) → i < n → f i ≡ g i) → count_below f n ≡ count_below g n
unfolding count_below
count_alike f g zero h = refl
count_alike f g (suc n) h = ap (λ b. cond b (1 + count_below f n) (count_below f n)) (h n (omega arith)) ∙ ap (λ m. cond (g n) (1 + m) m) (count_alike f g n (λ i less. h i (omega (arith, less))))

-- of a number m, and then of n more
pub count_both : (f : ℕ → Bool) (m n : ℕ) → count_below f (m + n) ≡ count_below f m + count_below (λ i. f (m + i)) n
count_both f m zero =
    let whole : m + 0 ≡ m = omega arith in
    let none : count_below (λ i. f (m + i)) 0 ≡ 0 = count_none (λ i. f (m + i)) in
    let sum : count_below f m ≡ count_below f m + count_below (λ i. f (m + i)) 0 = omega (arith, none) in
    ap (count_below f) whole ∙ sum
count_both f m (suc n) =
    let sum : m + suc n ≡ m + n + 1 = omega arith in
    let next : suc n ≡ n + 1 = omega arith in
    ap (count_below f) sum ∙ count_more f (m + n)
    ∙ ap (λ c. c + one_if (f (m + n))) (count_both f m n)
    ∙ (let more = count_more (λ i. f (m + i)) n in let whole : count_below (λ i. f (m + i)) (suc n) ≡ count_below (λ i. f (m + i)) (n + 1) = ap (count_below (λ i. f (m + i))) next in omega (arith, more, whole))

pub count_up : (f : ℕ → Bool) (m n : ℕ) → m ≤ n → count_below f m ≤ count_below f n
count_up f m n h =
    let whole : m + (n - m) ≡ n = omega arith in
    let both = count_both f m (n - m) in
    omega (arith, both, ap (count_below f) whole)

-- what passes at m counts for each greater number
pub count_over : (f : ℕ → Bool) (m n : ℕ) → f m ≡ true → m < n → count_below f m < count_below f n
count_over f m n passes h =
    let one : one_if (f m) ≡ 1 = ap one_if passes in
    omega (arith, one, count_more f m, count_up f (m + 1) n (omega arith))

-- numbers that pass, with as many before the one as before the other, are the same
pub same_from_count : (f : ℕ → Bool) (m n : ℕ) → f m ≡ true → f n ≡ true → count_below f m ≡ count_below f n → m ≡ n
same_from_count f m n hm hn e = elim (cases_lt m n) [
  | inl less ↦ absurd (omega (arith, e, count_over f m n hm less))
  | inr most ↦ elim (cases_lt n m) [
    | inl more ↦ absurd (omega (arith, e, count_over f n m hn more))
    | inr least ↦ omega (arith, most, least)
  ]
]

pub count_few : (f : ℕ → Bool) (n : ℕ) → count_below f n ≤ n
unfolding count_below
count_few f zero = omega arith
count_few f (suc n) = by (f n) (count_few f n)
  where
    by : (b : Bool) → count_below f n ≤ n → cond b (1 + count_below f n) (count_below f n) ≤ suc n
    by true h = omega (arith, h)
    by false h = omega (arith, h)

-- a test that begins anew after each b numbers: whole rounds have the same count
pub count_rounds : (f : ℕ → Bool) (b c t : ℕ) → t ≤ b → count_below (λ s. f (s % b)) (c * b + t) ≡ c * count_below f b + count_below f t
count_rounds f b zero t h =
    let start : zero * b + t ≡ t = omega arith in
    let none : zero * count_below f b + count_below f t ≡ count_below f t = omega arith in
    ap (count_below (λ s. f (s % b))) start ∙ count_alike (λ s. f (s % b)) f t (λ i less. ap f (mod-eq_of_lt (omega (arith, less, h)))) ∙ sym none
count_rounds f b (suc c) t h =
    let g : ℕ → Bool = λ s. f (s % b) in
    let first : suc c * b + t ≡ b + (c * b + t) = omega arith in
    let round : count_below g b ≡ count_below f b = count_alike g f b (λ i less. ap f (mod-eq_of_lt less)) in
    let again : count_below (λ i. g (b + i)) (c * b + t) ≡ count_below g (c * b + t) = count_alike (λ i. g (b + i)) g (c * b + t) (λ i less. ap f (turned i)) in
    let sum : suc c * count_below f b + count_below f t ≡ count_below f b + (c * count_below f b + count_below f t) = omega arith in
    ap (count_below g) first ∙ count_both g b (c * b + t) ∙ ap (λ n. n + count_below (λ i. g (b + i)) (c * b + t)) round ∙ ap (λ n. count_below f b + n) (again ∙ count_rounds f b c t h) ∙ sym sum
  where
    turned : (i : ℕ) → (b + i) % b ≡ i % b
    turned i =
        let sum : b + i ≡ i + 1 * b = omega arith in
        ap (λ n. n % b) sum ∙ add-mul-mod_self_right i 1 b
