-- Words that are drawn one after another.
use Rattle.std.proofs.Common.{map, sym, ◌≡◌, ◌∙◌, ℕ, zero, suc, ◌+◌, ◌*◌, [], ◌∷◌, ◌++◌, refl, ap, arith, suc-add, zero-add}
use Rattle.std.specs.List.{range_with_len}
use Rattle.std.proofs.lemmas.List.FromFn.{map-range_with_len_more}
use Rattle.rand_pcg.specs.Lcg.{Lcg, next_state, state_after}
use Rattle.rand_pcg.specs.Pcg.{multiplier_64, pcg32}
use Rattle.raid_script.specs.Drawn.{drawn, item_at, word_at}
use Rattle.raid_script.specs.Steps.{share}
use Rattle.raid_script.specs.DrawnParts.{after, first_word, item_by, item_from, row_from, rows_from, seeded, taken, word_of}

steps_more : (w m p n k s : ℕ) → state_after w m p k (state_after w m p n s) ≡ state_after w m p (n + k) s
unfolding state_after
steps_more w m p zero k s = rw zero-add refl
steps_more w m p (suc n) k s = rw suc-add (steps_more w m p n k (next_state w m p s))

-- k words behind n words
pub after_more : (n k : ℕ) (g : Lcg) → after k (after n g) ≡ after (n + k) g
unfolding after
after_more n k g = ap (λ (s : ℕ). record g { state = s }) (steps_more 64 multiplier_64 g.increment n k g.state)

pub after_none : (g : Lcg) → after 0 g ≡ g
unfolding after state_after
after_none g = refl

-- the next word, and the generator behind it, by its one step
pub word_next : (g : Lcg) (word : ℕ) (behind : Lcg) → (word, behind) ≡ pcg32 g → (word ≡ word_of 0 g) × (behind ≡ after 1 g)
unfolding after first_word state_after
word_next g word behind h = (ap (λ (p : ℕ × Lcg). p.0) h, ap (λ (p : ℕ × Lcg). p.1) h)

-- the item that three words make one after another
pub item_next : (client wide : ℕ) (g g1 g2 : Lcg) → g1 ≡ after 1 g → g2 ≡ after 1 g1 → item_by client wide (word_of 0 g) (word_of 0 g1) (word_of 0 g2) ≡ item_from client wide g
unfolding item_from
item_next client wide g g1 g2 one two =
    let first : after 0 g1 ≡ after 1 g = after_none g1 ∙ one in
    let second : after 0 g2 ≡ after 2 g = after_none g2 ∙ (two ∙ (ap (after 1) one ∙ after_more 1 1 g)) in
    rw (first, second) refl

pub three_words : (g g1 g2 g3 : Lcg) → g1 ≡ after 1 g → g2 ≡ after 1 g1 → g3 ≡ after 1 g2 → g3 ≡ after 3 g
three_words g g1 g2 g3 one two three =
    let second : g2 ≡ after 2 g = two ∙ (ap (after 1) one ∙ after_more 1 1 g) in
    three ∙ (ap (after 1) second ∙ after_more 2 1 g)

pub row_none : (client wide : ℕ) (g : Lcg) → row_from client wide 0 g ≡ []
unfolding row_from
row_none client wide g = refl

-- a row with one item more
pub row_more : (client wide n : ℕ) (g : Lcg) → row_from client wide (n + 1) g ≡ row_from client wide n g ++ item_from client wide (after (3 * n) g) ∷ []
unfolding row_from
row_more client wide n g = map-range_with_len_more (λ i. item_from client wide (after (3 * i) g)) 0 n n (omega arith)

pub rows_none : (wide ops : ℕ) (g : Lcg) → rows_from 0 wide ops g ≡ []
unfolding rows_from
rows_none wide ops g = refl

-- one client more
pub rows_more : (n wide ops : ℕ) (g : Lcg) → rows_from (n + 1) wide ops g ≡ rows_from n wide ops g ++ row_from n wide ops (after (3 * (n * ops)) g) ∷ []
unfolding rows_from
rows_more n wide ops g = map-range_with_len_more (λ c. row_from c wide ops (after (3 * (c * ops)) g)) 0 n n (omega arith)

-- ---- the words of a seed, by their number

same_map : {X : Type 0} (f h : ℕ → X) → ((i : ℕ) → f i ≡ h i) → (a n : ℕ) → map f (range_with_len a n) ≡ map h (range_with_len a n)
same_map f h same a zero = refl
same_map f h same a (suc n) = rw (same a, same_map f h same (a + 1) n) refl

word_is : (g : Lcg) (m i k n : ℕ) → m + (3 * i + k) ≡ n → word_of n g ≡ word_of k (after (3 * i) (after m g))
word_is g m i k n is = ap (λ (w : ℕ). word_of w g) (sym is) ∙ sym (ap first_word (after_more (3 * i) k (after m g) ∙ after_more m (3 * i + k) g))

-- an item by its words
at_words : (seed client wide n : ℕ) → item_at seed client wide n ≡ item_by client wide (word_of n (seeded seed)) (word_of (n + 1) (seeded seed)) (word_of (n + 2) (seeded seed))
unfolding item_at item_by word_at first_word after seeded
at_words seed client wide n = refl

item_is : (seed client wide ops i : ℕ) → item_at seed client wide (3 * (client * ops + i)) ≡ item_from client wide (after (3 * i) (after (3 * (client * ops)) (seeded seed)))
unfolding item_from
item_is seed client wide ops i =
    let g = seeded seed in
    let n = 3 * (client * ops + i) in
    let m = 3 * (client * ops) in
    at_words seed client wide n ∙ rw (word_is g m i 0 n (omega arith), word_is g m i 1 (n + 1) (omega arith), word_is g m i 2 (n + 2) (omega arith)) refl

row_is : (seed client wide ops : ℕ) → map (λ i. item_at seed client wide (3 * (client * ops + i))) (range_with_len 0 ops) ≡ row_from client wide ops (after (3 * (client * ops)) (seeded seed))
unfolding row_from
row_is seed client wide ops =
    same_map (λ i. item_at seed client wide (3 * (client * ops + i))) (λ i. item_from client wide (after (3 * i) (after (3 * (client * ops)) (seeded seed)))) (λ i. item_is seed client wide ops i) 0 ops

pub drawn_is : (seed clients ops blocks : ℕ) → drawn seed clients ops blocks ≡ rows_from (taken clients blocks) (share clients blocks) ops (seeded seed)
unfolding drawn rows_from
drawn_is seed clients ops blocks =
    same_map (λ client. map (λ i. item_at seed client (share clients blocks) (3 * (client * ops + i))) (range_with_len 0 ops)) (λ client. row_from client (share clients blocks) ops (after (3 * (client * ops)) (seeded seed)))
    (λ client. row_is seed client (share clients blocks) ops) 0 (taken clients blocks)
