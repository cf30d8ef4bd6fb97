-- How printed texts follow one another.
use Rattle.std.proofs.Common.{◌≡◌, ◌∙◌, ℕ, zero, suc, ◌+◌, ◌-◌, ◌<◌, ◌≤◌, Bool, true, false, List, [], ◌++◌, append-nil, sym, ap, subst, arith}
use Rattle.std.specs.Prelude.{flat_map}
use Rattle.std.specs.List.{range_with_len}
use Rattle.raid_bay.specs.Sink.{Puts}
use Rattle.raid_bay.specs.SinkLaws.{puts_then, puts_cut}

-- ## A text that is known by its front

-- the front of a text was put, and then what is left of it
pub puts_on : (b : Bool) (old mid new text front rest : List ℕ) → text ≡ front ++ rest
    → Puts true old front mid → Puts b mid rest new → Puts b old text new
puts_on b old mid new text front rest is one two =
    subst (λ (t : List ℕ). Puts b old t new) (sym is) (puts_then b old mid new front rest one two)

-- the front of a text was cut short
pub puts_off : (old new text front rest : List ℕ) → text ≡ front ++ rest
    → Puts false old front new → Puts false old text new
puts_off old new text front rest is one =
    subst (λ (t : List ℕ). Puts false old t new) (sym is) (puts_cut old new front rest one)

-- nothing was put of a text that is empty
pub puts_nothing : (old text : List ℕ) → text ≡ [] → Puts true old text old
puts_nothing old text is = subst (λ (t : List ℕ). Puts true old t old) (sym is) (sym (append-nil old))

-- ## The texts of places

-- those from i up to n
abbrev pub from_place : (ℕ → List ℕ) → ℕ → ℕ → List ℕ
from_place f i n = flat_map f (range_with_len i (n - i))

-- the text of a place, and of those behind it
pub place_more : (f : ℕ → List ℕ) (i n : ℕ) → i < n → from_place f i n ≡ f i ++ from_place f (i + 1) n
place_more f i n h =
    let left : n - i ≡ suc (n - (i + 1)) = omega arith in
    ap (λ (k : ℕ). flat_map f (range_with_len i k)) left

-- no place is left
pub place_none : (f : ℕ → List ℕ) (i n : ℕ) → n ≤ i → from_place f i n ≡ []
place_none f i n h =
    let none : n - i ≡ 0 = omega arith in
    ap (λ (k : ℕ). flat_map f (range_with_len i k)) none

-- places without a text
pub places_skip : (f : ℕ → List ℕ) (gap i n : ℕ) → i + gap ≤ n
    → ((k : ℕ) → i ≤ k → k < i + gap → f k ≡ []) → from_place f i n ≡ from_place f (i + gap) n
places_skip f zero i n h empty =
    let same : i ≡ i + 0 = omega arith in ap (λ (k : ℕ). from_place f k n) same
places_skip f (suc gap) i n h empty =
    let first : f i ≡ [] = empty i (omega arith) (omega arith) in
    let next : i + 1 + gap ≡ i + suc gap = omega arith in
    let rest = places_skip f gap (i + 1) n (omega (arith, h)) (λ k low high. empty k (omega (arith, low)) (omega (arith, high))) in
    place_more f i n (omega (arith, h))
    ∙ (ap (λ (t : List ℕ). t ++ from_place f (i + 1) n) first ∙ (rest ∙ ap (λ (k : ℕ). from_place f k n) next))

-- ## What is put of them

-- those from the first on are all
pub put_first : (f : ℕ → List ℕ) (n : ℕ) (b : Bool) (old new : List ℕ) → Puts b old (from_place f 0 n) new
    → Puts b old (flat_map f (range_with_len 0 n)) new
put_first f n b old new h =
    let all : n - 0 ≡ n = omega arith in
    subst (λ (k : ℕ). Puts b old (flat_map f (range_with_len 0 k)) new) all h

-- one was put, and then what is left
pub put_more : (f : ℕ → List ℕ) (i n : ℕ) (b : Bool) (old mid new : List ℕ) → i < n → Puts true old (f i) mid
    → Puts b mid (from_place f (i + 1) n) new → Puts b old (from_place f i n) new
put_more f i n b old mid new h one rest =
    puts_on b old mid new (from_place f i n) (f i) (from_place f (i + 1) n) (place_more f i n h) one rest

-- it was cut short
pub put_short : (f : ℕ → List ℕ) (i n : ℕ) (old new : List ℕ) → i < n → Puts false old (f i) new
    → Puts false old (from_place f i n) new
put_short f i n old new h one =
    puts_off old new (from_place f i n) (f i) (from_place f (i + 1) n) (place_more f i n h) one

-- none is left
pub put_none : (f : ℕ → List ℕ) (i n : ℕ) (old : List ℕ) → n ≤ i → Puts true old (from_place f i n) old
put_none f i n old h = puts_nothing old (from_place f i n) (place_none f i n h)
