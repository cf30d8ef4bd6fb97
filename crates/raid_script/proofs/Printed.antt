-- How printed texts follow one another.
use Rattle.std.proofs.Common.{◌≡◌, ◌≢◌, ◌∙◌, ℕ, suc, ◌+◌, ◌-◌, ◌<◌, ◌≤◌, Bool, true, false, List, [], ◌++◌, length, drop, get_or, sym, ap, subst, arith}
use Rattle.std.specs.Prelude.{flat_map, sum_by}
use Rattle.std.proofs.lemmas.List.Sums.{sum_by-cons}
use Rattle.std.specs.List.{range_with_len}
use Rattle.raid_bay.specs.Sink.{Puts}
use Rattle.raid_bay.specs.SinkLaws.{puts_then, puts_cut}
use Rattle.raid_script.specs.Blocks.{run_lines, blocks_text}
use Rattle.raid_script.specs.Steps.{block_line}
use Rattle.raid_script.proofs.RunLaws.{first_run}

-- the front of a text was put, and then what is left of it
pub puts_on : (b : Bool) (old mid new text front rest : List ℕ) → text ≡ front ++ rest → Puts true old front mid → Puts b mid rest new → Puts b old text new
puts_on b old mid new text front rest is one two = subst (λ (t : List ℕ). Puts b old t new) (sym is) (puts_then b old mid new front rest one two)

-- the front of a text was cut short
pub puts_off : (old new text front rest : List ℕ) → text ≡ front ++ rest → Puts false old front new → Puts false old text new
puts_off old new text front rest is one = subst (λ (t : List ℕ). Puts false old t new) (sym is) (puts_cut old new front rest one)

-- the line of the first run, and the lines of what is behind it
pub blocks_more : (first : ℕ) (sectors : List (List ℕ)) (n : ℕ) (d : List ℕ) → 0 < n → n ≤ length sectors
    → ((k : ℕ) (e : List ℕ) → k < n → get_or sectors k e ≡ get_or sectors 0 e)
    → ((e : List ℕ) → n < length sectors → get_or sectors n e ≢ get_or sectors 0 e)
    → blocks_text first sectors ≡ block_line first n (get_or sectors 0 d) ++ blocks_text (first + n) (drop n sectors)
unfolding block_line
blocks_more first sectors n d some within equal maximal = ap (run_lines first) (first_run sectors n d some within equal maximal)

-- the texts of the places from i up to n
abbrev pub from_place : (ℕ → List ℕ) → ℕ → ℕ → List ℕ
from_place f i n = flat_map f (range_with_len i (n - i))

-- the text of a place, and of those behind it
pub place_more : (f : ℕ → List ℕ) (i n : ℕ) → i < n → from_place f i n ≡ f i ++ from_place f (i + 1) n
place_more f i n h =
    let left : n - i ≡ suc (n - (i + 1)) = omega arith in
    ap (λ (k : ℕ). flat_map f (range_with_len i k)) left

-- no place is left
pub place_none : (f : ℕ → List ℕ) (i n : ℕ) → n ≤ i → from_place f i n ≡ []
place_none f i n h = let none : n - i ≡ 0 = omega arith in ap (λ (k : ℕ). flat_map f (range_with_len i k)) none

-- the sum of the places from i up to n
abbrev pub from_sum : (ℕ → ℕ) → ℕ → ℕ → ℕ
from_sum f i n = sum_by f (range_with_len i (n - i))

-- what a place adds, and what those behind it do
pub sum_more : (f : ℕ → ℕ) (i n : ℕ) → i < n → from_sum f i n ≡ f i + from_sum f (i + 1) n
sum_more f i n h =
    let left : n - i ≡ suc (n - (i + 1)) = omega arith in
    ap (λ (k : ℕ). sum_by f (range_with_len i k)) left ∙ sum_by-cons f i (range_with_len (i + 1) (n - (i + 1)))

-- no place is left
pub sum_none : (f : ℕ → ℕ) (i n : ℕ) → n ≤ i → from_sum f i n ≡ 0
sum_none f i n h = let none : n - i ≡ 0 = omega arith in ap (λ (k : ℕ). sum_by f (range_with_len i k)) none
