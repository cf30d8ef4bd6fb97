-- Sums of bytes, by blocks, by operations and by clients.
use Rattle.std.proofs.Common.{◌≡◌, ◌∙◌, ap, sym, refl, ℕ, zero, suc, ◌+◌, ◌*◌, ◌<◌, ◌≤◌, List, [], ◌∷◌, ◌++◌, length, take, Some, arith}
use Rattle.std.specs.Prelude.{slice_get, slice_index, sum_by}
use Rattle.std.specs.List.{range_with_len}
use Rattle.std.proofs.lemmas.List.{get_or_past}
use Rattle.std.proofs.lemmas.List.Sums.{sum_by-cons}
use Rattle.blk_plain.specs.declared.op.Op.{Op}
use Rattle.blk_plain.specs.declared.op.Op.TheVariants.{Read}
use Rattle.blk_plain.specs.declared.op.Span.{Span}
use Rattle.lay_core.specs.Layout.{Blocks}
use Rattle.eng_world.specs.Plain.{apply, replay}
use Rattle.raid_script.specs.Steps.{byte_sum}
use Rattle.top_sweep.specs.Apart.{in_turn}
use Rattle.top_run.specs.InTurn.{block_sum, reply_sum, replies_sum}

-- ## Sums of so many terms

abbrev pub upto : (ℕ → ℕ) → ℕ → ℕ
upto f n = sum_by f (range_with_len 0 n)

shift : (f : ℕ → ℕ) (a b n : ℕ) → b ≡ suc a → sum_by f (range_with_len b n) ≡ sum_by (λ i. f (suc i)) (range_with_len a n)
shift f a b zero e = refl
shift f a b (suc n) e =
    let one = sum_by-cons f b (range_with_len (b + 1) n) in
    let two = sum_by-cons (λ i. f (suc i)) a (range_with_len (a + 1) n) in
    let rest = shift f (a + 1) (b + 1) n (omega (arith, e)) in
    let same : f b ≡ f (suc a) = ap f e in
    omega (arith, one, two, rest, same)

-- the first term, and those behind it
upto-front : (f : ℕ → ℕ) (n : ℕ) → upto f (suc n) ≡ f 0 + upto (λ i. f (suc i)) n
upto-front f n = sum_by-cons f 0 (range_with_len (0 + 1) n) ∙ ap (λ (m : ℕ). f 0 + m) (shift f 0 (0 + 1) n (omega arith))

-- the last term, and those before it
pub upto-more : (f : ℕ → ℕ) (n : ℕ) → upto f (suc n) ≡ upto f n + f n
upto-more f zero = upto-front f 0 ∙ (let z : f 0 + 0 ≡ 0 + f 0 = omega arith in z)
upto-more f (suc n) =
    let one = upto-front f (suc n) in
    let two = upto-more (λ i. f (suc i)) n in
    let three = upto-front f n in
    omega (arith, one, two, three)

pub upto-same : (f h : ℕ → ℕ) (n : ℕ) → ((i : ℕ) → i < n → f i ≡ h i) → upto f n ≡ upto h n
upto-same f h zero same = refl
upto-same f h (suc n) same =
    let one = upto-more f n in
    let two = upto-more h n in
    let rest = upto-same f h n (λ i lt. same i (omega (arith, lt))) in
    let last = same n (omega arith) in
    omega (arith, one, two, rest, last)

upto-add : (f : ℕ → ℕ) (m n : ℕ) → upto f (m + n) ≡ upto f m + upto (λ k. f (m + k)) n
upto-add f m zero = ap (upto f) (let z : m + 0 ≡ m = omega arith in z) ∙ (let z : upto f m ≡ upto f m + 0 = omega arith in z)
upto-add f m (suc n) =
    let one = ap (upto f) (let z : m + suc n ≡ suc (m + n) = omega arith in z) in
    let two = upto-more f (m + n) in
    let three = upto-add f m n in
    let four = upto-more (λ k. f (m + k)) n in
    omega (arith, one, two, three, four)

-- as many terms as n blocks of m
by-blocks : (f : ℕ → ℕ) (m n : ℕ) → upto f (m * n) ≡ upto (λ j. upto (λ k. f (m * j + k)) m) n
by-blocks f m zero = ap (upto f) (let z : m * 0 ≡ 0 = omega arith in z)
by-blocks f m (suc n) =
    let one = ap (upto f) (let z : m * suc n ≡ m * n + m = omega arith in z) in
    let two = upto-add f (m * n) m in
    let three = by-blocks f m n in
    let four = upto-more (λ j. upto (λ k. f (m * j + k)) m) n in
    omega (arith, one, two, three, four)

-- ## Bytes

zeros : (n : ℕ) → upto (slice_index []) n ≡ 0
zeros zero = refl
zeros (suc n) = let one = upto-more (slice_index []) n in let two = get_or_past {X = ℕ} [] n 0 (omega arith) in let rest = zeros n in omega (arith, one, two, rest)

bytes-by-place : (l : List ℕ) (n : ℕ) → length l ≤ n → byte_sum l ≡ upto (slice_index l) n
bytes-by-place [] n h = sym (zeros n)
bytes-by-place (x ∷ l) zero h = absurd (omega (arith, h))
bytes-by-place (x ∷ l) (suc n) h =
    let one = sum_by-cons (λ (byte : ℕ). byte) x l in
    let two = upto-front (slice_index (x ∷ l)) n in
    let rest = bytes-by-place l n (omega (arith, h)) in
    omega (arith, one, two, rest)

block-sum-is : (size : ℕ) → size ≡ 512 → (blocks : Blocks) (b : ℕ) → upto (blocks b) size ≡ block_sum blocks b
unfolding block_sum
block-sum-is size e blocks b = ap (λ (n : ℕ). sum_by (λ k. blocks b k) (range_with_len 0 n)) e

read-sized : (size : ℕ) → size ≡ 512 → (l : List ℕ) (span : Span) (blocks : Blocks) → length l ≤ size * span.count
    → ((j k : ℕ) → j < span.count → k < size → slice_index l (size * j + k) ≡ blocks (span.first + j) k)
    → byte_sum l ≡ reply_sum blocks (Read span)
read-sized size e l span blocks few same =
    bytes-by-place l (size * span.count) few
    ∙ (by-blocks (slice_index l) size span.count
    ∙ upto-same (λ j. upto (λ k. slice_index l (size * j + k)) size) (λ j. block_sum blocks (span.first + j)) span.count
    (λ j jl. upto-same (λ k. slice_index l (size * j + k)) (blocks (span.first + j)) size (λ k kl. same j k jl kl) ∙ block-sum-is size e blocks (span.first + j)))

-- bytes that are those of a read's blocks have their sum
pub read-sum : (l : List ℕ) (span : Span) (blocks : Blocks) → length l ≤ 512 * span.count
    → ((j k : ℕ) → j < span.count → k < 512 → slice_index l (512 * j + k) ≡ blocks (span.first + j) k)
    → byte_sum l ≡ reply_sum blocks (Read span)
read-sum l span blocks few same = read-sized 512 refl l span blocks few same

blocks-sum-sized : (size : ℕ) → size ≡ 512 → (one other : Blocks) (span : Span) → ((j k : ℕ) → j < span.count → k < size → one (span.first + j) k ≡ other (span.first + j) k)
    → reply_sum one (Read span) ≡ reply_sum other (Read span)
blocks-sum-sized size e one other span same =
    upto-same (λ j. block_sum one (span.first + j)) (λ j. block_sum other (span.first + j)) span.count
    (λ j jl.
    sym (block-sum-is size e one (span.first + j))
    ∙ (upto-same (one (span.first + j)) (other (span.first + j)) size (λ k kl. same j k jl kl)
    ∙ block-sum-is size e other (span.first + j)))

-- the sum of a read's blocks goes by their bytes
pub blocks-sum-same : (one other : Blocks) (span : Span) → ((j k : ℕ) → j < span.count → k < 512 → one (span.first + j) k ≡ other (span.first + j) k)
    → reply_sum one (Read span) ≡ reply_sum other (Read span)
blocks-sum-same one other span same = blocks-sum-sized 512 refl one other span same

-- ## Operations

replies_sum-append : (xs ys : List Op) (blocks : Blocks) → replies_sum blocks (xs ++ ys) ≡ replies_sum blocks xs + replies_sum (replay blocks xs) ys
replies_sum-append [] ys blocks = let z : replies_sum blocks ys ≡ 0 + replies_sum blocks ys = omega arith in z
replies_sum-append (op ∷ xs) ys blocks = let rest = replies_sum-append xs ys (apply blocks op) in omega (arith, rest)

-- operation by operation
pub sum-by-place : (ops : List Op) (blocks : Blocks) (value : ℕ → ℕ) → ((i : ℕ) (o : Op) → slice_get ops i ≡ Some o → value i ≡ reply_sum (replay blocks (take i ops)) o)
    → upto value (length ops) ≡ replies_sum blocks ops
sum-by-place [] blocks value each = refl
sum-by-place (op ∷ ops) blocks value each =
    let one = upto-front value (length ops) in
    let here = each zero op refl in
    let rest = sum-by-place ops (apply blocks op) (λ i. value (suc i)) (λ i o h. each (suc i) o h) in
    omega (arith, one, here, rest)

-- client after client
pub sum-by-client : (own : ℕ → List Op) (n : ℕ) (blocks : Blocks) (value : ℕ → ℕ) → ((c : ℕ) → c < n → value c ≡ replies_sum (replay blocks (in_turn own c)) (own c))
    → upto value n ≡ replies_sum blocks (in_turn own n)
sum-by-client own zero blocks value each = refl
sum-by-client own (suc n) blocks value each =
    let one = upto-more value n in
    let last = each n (omega arith) in
    let rest = sum-by-client own n blocks value (λ c lt. each c (omega (arith, lt))) in
    let both = replies_sum-append (in_turn own n) (own n) blocks in
    omega (arith, one, last, rest, both)
