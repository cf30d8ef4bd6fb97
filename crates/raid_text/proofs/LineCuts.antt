use Rattle.std.proofs.Common.{◌≡◌, ◌∙◌, ℕ, ◌<◌, ◌≤◌, ◌+◌, ◌-◌, Bool, true, false, cond, not, ltb, List, [], ◌∷◌, length, refl, ap, arith, take, drop, suc, Option, Some, None, eqb}
use Rattle.std.specs.Prelude.{unwrap_or}
use Rattle.std.specs.List.{before_first, after_first, position_or_len, slice_split}
use Rattle.std.proofs.lemmas.List.Splits.{slice_split_first, length-slice_split}
use Rattle.std.proofs.lemmas.List.{take_rest}
use Rattle.std.proofs.Math.Seq.{drop-length}
use Rattle.std.proofs.lemmas.Bool.{cond_both, eqb-true, ltb-false}
use Rattle.raid_text.specs.Text.{Text, lines_of_parts, raw_lines}

pub le_length : {X : Type 0} (p : X → Bool) (xs : List X) → position_or_len p xs ≤ length xs
le_length p [] = omega arith
le_length p (x ∷ xs) = cond_both (not (p x)) (1 + position_or_len p xs) 0 (λ k. k ≤ suc (length xs)) (λ _. let h = le_length p xs in omega arith) (λ _. omega arith)

pub unwrap_first : {X : Type 0} (p : X → Bool) (xs : List X) (r : Option ℕ) → r ≡ cond (ltb (position_or_len p xs) (length xs)) (Some (position_or_len p xs)) None → unwrap_or r (length xs) ≡ position_or_len p xs
unwrap_first p xs r h = ap (λ o. unwrap_or o (length xs)) h ∙ go (position_or_len p xs) (length xs) (le_length p xs)
  where
    go : (k n : ℕ) → k ≤ n → unwrap_or (cond (ltb k n) (Some k) None) n ≡ k
    go k n le = cond_both (ltb k n) (Some k) None (λ o. unwrap_or o n ≡ k) (λ _. refl) (λ e. omega (arith, ltb-false k n e))

pub one_more : (part : Text) (parts : List Text) → 0 < length parts → lines_of_parts (part ∷ parts) ≡ part ∷ lines_of_parts parts
one_more part [] h = absurd (omega arith)
one_more part (q ∷ more) h = refl

-- a line ends at the first byte 10
pub cut_at : (text : Text) → position_or_len (λ b. eqb b 10) text < length text → raw_lines text ≡ before_first (λ b. eqb b 10) text ∷ raw_lines (after_first (λ b. eqb b 10) text)
unfolding raw_lines
cut_at text h =
    let rest = slice_split (λ (b : ℕ). eqb b 10) (after_first (λ b. eqb b 10) text) in
    let some : 0 < length rest = omega (arith, length-slice_split (λ (b : ℕ). eqb b 10) (after_first (λ b. eqb b 10) text)) in
    ap lines_of_parts (slice_split_first (λ b. eqb b 10) text 0 h) ∙ one_more (before_first (λ b. eqb b 10) text) rest some

pub whole : (p : ℕ → Bool) (xs : Text) → length xs ≤ position_or_len p xs → slice_split p xs ≡ xs ∷ []
whole p [] h = refl
whole p (x ∷ xs) h = go (p x) refl (whole p xs)
  where
    go : (b : Bool) → p x ≡ b → (length xs ≤ position_or_len p xs → slice_split p xs ≡ xs ∷ []) → slice_split p (x ∷ xs) ≡ (x ∷ xs) ∷ []
    go true e more = let bad : suc (length xs) ≤ 0 = rw e at h in absurd (omega arith)
    go false e more = let less : suc (length xs) ≤ 1 + position_or_len p xs = rw e at h in rw (e, more (omega arith)) refl

-- a text without byte 10 that isn't empty is one line
pub last_line : (text : Text) → 0 < length text → length text ≤ position_or_len (λ b. eqb b 10) text → raw_lines text ≡ text ∷ raw_lines []
unfolding raw_lines
last_line text some h = ap lines_of_parts (whole (λ b. eqb b 10) text h) ∙ go text some
  where
    go : (t : Text) → 0 < length t → lines_of_parts (t ∷ []) ≡ t ∷ []
    go [] some = absurd (omega arith)
    go (b ∷ bs) some = cond_both (eqb (suc (length bs)) 0) [] ((b ∷ bs) ∷ []) (λ ls. ls ≡ (b ∷ bs) ∷ []) (λ e. let bad = eqb-true _ _ e in absurd (omega arith)) (λ _. refl)

-- the same, as the code cuts
pub behind : (text : Text) (i : ℕ) → raw_lines text ≡ before_first (λ b. eqb b 10) text ∷ raw_lines (after_first (λ b. eqb b 10) text) → i ≡ position_or_len (λ b. eqb b 10) text
    → raw_lines text ≡ take i text ∷ raw_lines (take (length text - (i + 1)) (drop (i + 1) text))
behind text i h e = rw (take_rest text (i + 1), e) h

pub at_end : (text : Text) → raw_lines text ≡ text ∷ raw_lines [] → raw_lines text ≡ text ∷ raw_lines (take (length text - length text) (drop (length text) text))
at_end text h = rw (take_rest text (length text), drop-length text) h
