-- Counts of pairs: row by row, and column by column.
use Rattle.std.specs.Prelude.{◌≡◌, ◌<◌, ◌+◌, ◌*◌, ◌%◌, ◌&&◌, ℕ, zero, suc, Bool, true, false, not}
use Rattle.std.proofs.Common.{arith, refl, sym, ap, ◌∙◌}
use Rattle.std.proofs.Math.Nat.{mod_self, mod-eq_of_lt}
use Rattle.lay_design.specs.Counting.{count_below}
use Rattle.lay_decluster.specs.Counted.{one_if, count_none, count_more, count_alike, count_both}

-- the sum of f 0 to f (n - 1)
unfoldable pub sum_below : (ℕ → ℕ) → ℕ → ℕ
sum_below f zero = 0
sum_below f (suc n) = sum_below f n + f n

pub sum_none : (f : ℕ → ℕ) → sum_below f 0 ≡ 0
unfolding sum_below
sum_none f = refl

pub sum_more : (f : ℕ → ℕ) (n : ℕ) → sum_below f (suc n) ≡ sum_below f n + f n
unfolding sum_below
sum_more f n = refl

pub sum_alike : (f g : ℕ → ℕ) (n : ℕ) → ((i : ℕ) → i < n → f i ≡ g i) → sum_below f n ≡ sum_below g n
sum_alike f g zero h = sum_none f ∙ sym (sum_none g)
sum_alike f g (suc n) h = omega (arith, sum_more f n, sum_more g n, sum_alike f g n (λ i less. h i (omega (arith, less))), h n (omega arith))

-- m times a number that is the same for each
pub sum_same : (f : ℕ → ℕ) (n m : ℕ) → ((i : ℕ) → i < n → f i ≡ m) → sum_below f n ≡ n * m
sum_same f zero m h = sum_none f ∙ omega arith
sum_same f (suc n) m h = omega (arith, sum_more f n, sum_same f n m (λ i less. h i (omega (arith, less))), h n (omega arith))

pub sum_times : (f : ℕ → Bool) (m n : ℕ) → sum_below (λ i. one_if (f i) * m) n ≡ count_below f n * m
sum_times f m zero = sum_none (λ i. one_if (f i) * m) ∙ (let none = count_none f in let e : count_below f zero * m ≡ 0 = ap (λ c. c * m) none ∙ omega arith in sym e)
sum_times f m (suc n) =
    let next : suc n ≡ n + 1 = omega arith in
    let count : count_below f (suc n) ≡ count_below f n + one_if (f n) = ap (count_below f) next ∙ count_more f n in
    let product : count_below f (suc n) * m ≡ count_below f n * m + one_if (f n) * m = ap (λ c. c * m) count ∙ omega arith in
    omega (arith, sum_more (λ i. one_if (f i) * m) n, sum_times f m n, product)

-- n rows of b numbers
pub count_rows : (f : ℕ → Bool) (b n : ℕ) → count_below f (n * b) ≡ sum_below (λ j. count_below (λ t. f (j * b + t)) b) n
count_rows f b zero = (let nothing : zero * b ≡ 0 = omega arith in ap (count_below f) nothing) ∙ (count_none f ∙ sym (sum_none (λ j. count_below (λ t. f (j * b + t)) b)))
count_rows f b (suc n) =
    let more : suc n * b ≡ n * b + b = omega arith in
    ap (count_below f) more ∙ (let both = count_both f (n * b) b in omega (arith, both, count_rows f b n, sum_more (λ j. count_below (λ t. f (j * b + t)) b) n))

sum_both : (f g h : ℕ → ℕ) (n : ℕ) → ((i : ℕ) → h i ≡ f i + g i) → sum_below h n ≡ sum_below f n + sum_below g n
sum_both f g h zero e = omega (arith, sum_none f, sum_none g, sum_none h)
sum_both f g h (suc n) e = omega (arith, sum_more f n, sum_more g n, sum_more h n, sum_both f g h n e, e n)

sum_zero : (n : ℕ) (f : ℕ → ℕ) → ((i : ℕ) → f i ≡ 0) → sum_below f n ≡ 0
sum_zero n f h = sum_same f n 0 (λ i less. h i) ∙ omega arith

pub sum_ones : (f : ℕ → Bool) (n : ℕ) → sum_below (λ i. one_if (f i)) n ≡ count_below f n
sum_ones f zero = sum_none (λ i. one_if (f i)) ∙ sym (count_none f)
sum_ones f (suc n) =
    let next : suc n ≡ n + 1 = omega arith in
    let count : count_below f (suc n) ≡ count_below f n + one_if (f n) = ap (count_below f) next ∙ count_more f n in
    omega (arith, sum_more (λ i. one_if (f i)) n, sum_ones f n, count)

-- what is counted row by row is counted column by column
pub count_turned : (f : ℕ → ℕ → Bool) (m n : ℕ) → sum_below (λ j. count_below (f j) n) m ≡ sum_below (λ t. count_below (λ j. f j t) m) n
count_turned f m zero = sum_zero m (λ j. count_below (f j) zero) (λ j. count_none (f j)) ∙ sym (sum_none (λ t. count_below (λ j. f j t) m))
count_turned f m (suc n) =
    let next : suc n ≡ n + 1 = omega arith in
    let rows : sum_below (λ j. count_below (f j) (suc n)) m ≡ sum_below (λ j. count_below (f j) n) m + sum_below (λ j. one_if (f j n)) m =
    sum_both (λ j. count_below (f j) n) (λ j. one_if (f j n)) (λ j. count_below (f j) (suc n)) m (λ j. ap (count_below (f j)) next ∙ count_more (f j) n) in
    omega (arith, rows, sum_ones (λ j. f j n) m, count_turned f m n, sum_more (λ t. count_below (λ j. f j t) m) n)

-- around the end: the same numbers
pub count_around : (f : ℕ → Bool) (k : ℕ) → count_below (λ j. f ((j + 1) % k)) k ≡ count_below f k
count_around f zero = count_none (λ j. f ((j + 1) % 0)) ∙ sym (count_none f)
count_around f (suc n) =
    let next : suc n ≡ n + 1 = omega arith in
    let turned : suc n ≡ 1 + n = omega arith in
    let g : ℕ → Bool = λ j. f ((j + 1) % suc n) in
    let last : one_if (g n) ≡ one_if (f 0) = ap (λ x. one_if (f x)) ((let e : n + 1 ≡ suc n = omega arith in ap (λ x. x % suc n) e) ∙ mod_self (suc n)) in
    let rest : count_below g n ≡ count_below (λ i. f (1 + i)) n = count_alike g (λ i. f (1 + i)) n (λ i less. ap f ((let e : i + 1 ≡ 1 + i = omega arith in ap (λ x. x % suc n) e) ∙ mod-eq_of_lt (omega (arith, less)))) in
    let left : count_below g (suc n) ≡ count_below g n + one_if (g n) = ap (count_below g) next ∙ count_more g n in
    let right : count_below f (suc n) ≡ count_below f 1 + count_below (λ i. f (1 + i)) n = ap (count_below f) turned ∙ count_both f 1 n in
    let first : count_below f 1 ≡ count_below f 0 + one_if (f 0) = count_more f 0 in
    omega (arith, last, rest, left, right, first, count_none f)

-- two tests that nothing passes both: what passes neither
pub count_neither : (a b : ℕ → Bool) (n : ℕ) → ((i : ℕ) → i < n → (a i && b i) ≡ false) → count_below (λ i. not (a i) && not (b i)) n + count_below a n + count_below b n ≡ n
count_neither a b zero h = omega (arith, count_none a, count_none b, count_none (λ i. not (a i) && not (b i)))
count_neither a b (suc n) h =
    let next : suc n ≡ n + 1 = omega arith in
    let ca : count_below a (suc n) ≡ count_below a n + one_if (a n) = ap (count_below a) next ∙ count_more a n in
    let cb : count_below b (suc n) ≡ count_below b n + one_if (b n) = ap (count_below b) next ∙ count_more b n in
    let cn : count_below (λ i. not (a i) && not (b i)) (suc n) ≡ count_below (λ i. not (a i) && not (b i)) n + one_if (not (a n) && not (b n)) = ap (count_below (λ i. not (a i) && not (b i))) next ∙ count_more (λ i. not (a i) && not (b i)) n in
    omega (arith, ca, cb, cn, count_neither a b n (λ i less. h i (omega (arith, less))), by (a n) (b n) (h n (omega arith)))
  where
    by : (x y : Bool) → (x && y) ≡ false → one_if (not x && not y) + one_if x + one_if y ≡ 1
    by true true e = cc
    by true false e = omega arith
    by false true e = omega arith
    by false false e = omega arith
