-- What is printed is read again.
use Rattle.std.proofs.Common.{◌≡◌, ◌∙◌, ℕ, ◌+◌, ◌-◌, ◌*◌, ◌<◌, ◌^◌, Bool, true, false, eqb, List, [], ◌∷◌, ◌++◌, length, refl, sym, ap, arith, rules, take, zero, suc, Option, Some, filter, map}
use Rattle.std.specs.Prelude.{decimal, nat_lt, slice_index}
use Rattle.std.specs.Str.{all_ascii_digits}
use Rattle.std.specs.List.{All, slice_split, position_or_len, join_with_byte, list_all}
use Rattle.std.proofs.lemmas.Bool.{and_from, and_parts}
use Rattle.std.proofs.lemmas.Bool.Decides.{nat_tests}
use Rattle.std.proofs.lemmas.Fmt.{decimal_is_IsNumeral, decimal_nonempty, digits_decimal, length-decimal-le}
use Rattle.std.proofs.lemmas.Str.Parse.{IsNumeralModel, numerals_by_fold}
use Rattle.std.proofs.lemmas.List.Elements.{All-nil, All-cons, All-head, All-tail}
use Rattle.std.proofs.lemmas.List.Folds.{list_all-append}
use Rattle.std.proofs.lemmas.List.Splits.{slice_split_at, slice_split_none, length-slice_split}
use Rattle.hex.proofs.HexLemmas.{decode_of-encode_lower}
use Rattle.raid_text.specs.Text.{Text, body_of, has_word, is_blank, is_sound, is_word, is_word_byte, lines_of_parts, numbered, raw_lines, sound_words, words_of}
use Rattle.raid_text.specs.Steps.{may_stand}
use Rattle.raid_text.specs.Pattern.{pattern_of}
use Rattle.raid_text.specs.Printed.{IsLine, LinesAreReadAgain, NumbersAreReadAgain, PatternsAreReadAgain, text_of}
use Rattle.raid_text.proofs.Digits.{in_range}
use Rattle.raid_text.proofs.LineCuts as cuts

-- ---- numbers and patterns

abbrev read_on : ℕ → List ℕ → ℕ
read_on n [] = n
read_on n (c ∷ cs) = read_on (10 * n + (c - 48)) cs

own : IsNumeralModel (λ ds. all_ascii_digits ds ≡ true) (read_on 0)
own = numerals_by_fold _ (search rules) read_on (search rules)

pub numbers_again : NumbersAreReadAgain
numbers_again n small =
    let wide : n < 2 ^ 64 = omega arith in
    let short = length-decimal-le 10 n (omega arith) (omega arith) wide in
    sym (in_range (decimal n) n (decimal_nonempty n wide) short (digits_decimal own n wide) (sym (decimal_is_IsNumeral n wide).1) small)

pub patterns_again : PatternsAreReadAgain
unfolding pattern_of
patterns_again bytes are count = rw (count, decode_of-encode_lower bytes are) refl

-- ---- bytes

not_blank : (b : ℕ) → is_word_byte b ≡ true → is_blank b ≡ false
not_blank b h = grind (arith, nat_tests)

not_end : (b : ℕ) → may_stand b ≡ true → eqb b 10 ≡ false
not_end b h = grind (arith, nat_tests)

not_comment : (b : ℕ) → may_stand b ≡ true → eqb b 35 ≡ false
not_comment b h = grind (arith, nat_tests)

not_return : (b : ℕ) → may_stand b ≡ true → eqb b 13 ≡ false
not_return b h = grind (arith, nat_tests)

may_stand_in_word : (b : ℕ) → is_word_byte b ≡ true → may_stand b ≡ true
may_stand_in_word b h = grind (arith, nat_tests)

-- what follows of each byte by itself
each_byte : (p q : ℕ → Bool) → ((b : ℕ) → p b ≡ true → q b ≡ false) → (text : Text) → list_all p text ≡ true → All (λ b. q b ≡ false) text
each_byte p q one [] h = All-nil (λ b. q b ≡ false)
each_byte p q one (b ∷ bs) h = let both = and_parts (p b) (list_all p bs) h in All-cons (λ c. q c ≡ false) b bs (one b both.0) (each_byte p q one bs both.1)

stand_in_word : (w : Text) → list_all is_word_byte w ≡ true → list_all may_stand w ≡ true
stand_in_word [] h = refl
stand_in_word (b ∷ bs) h = let both = and_parts (is_word_byte b) (list_all is_word_byte bs) h in and_from (may_stand b) (list_all may_stand bs) (may_stand_in_word b both.0) (stand_in_word bs both.1)

bytes_of_word : (w : Text) → is_word w ≡ true → list_all is_word_byte w ≡ true
bytes_of_word w h = (and_parts (nat_lt 0 (length w)) (list_all is_word_byte w) h).1

-- ---- the words of a printed line

-- a line that is printed has no other bytes
printed_sound : (words : List Text) → list_all is_word words ≡ true → list_all may_stand (join_with_byte 32 words) ≡ true
printed_sound [] h = refl
printed_sound (w ∷ []) h = stand_in_word w (bytes_of_word w (and_parts (is_word w) true h).0)
printed_sound (w ∷ v ∷ words) h =
    let both = and_parts (is_word w) (list_all is_word (v ∷ words)) h in
    list_all-append may_stand w (32 ∷ join_with_byte 32 (v ∷ words)) ∙ and_from (list_all may_stand w) (list_all may_stand (join_with_byte 32 (v ∷ words))) (stand_in_word w (bytes_of_word w both.0)) (printed_sound (v ∷ words) both.1)

plain_word : (w : Text) → is_word w ≡ true → All (λ b. is_blank b ≡ false) w
plain_word w h = each_byte is_word_byte is_blank not_blank w (bytes_of_word w h)

-- the parts between its blanks are the words
printed_parts : (w : Text) (words : List Text) → list_all is_word (w ∷ words) ≡ true → slice_split is_blank (join_with_byte 32 (w ∷ words)) ≡ w ∷ words
printed_parts w [] h = slice_split_none is_blank w (plain_word w (and_parts (is_word w) true h).0)
printed_parts w (v ∷ words) h =
    let both = and_parts (is_word w) (list_all is_word (v ∷ words)) h in
    slice_split_at is_blank w 32 (join_with_byte 32 (v ∷ words)) (plain_word w both.0) refl ∙ ap (λ (ws : List Text). w ∷ ws) (printed_parts v words both.1)

-- none of which is empty
some_words : (words : List Text) → list_all is_word words ≡ true → filter (λ w. nat_lt 0 (length w)) words ≡ words
some_words [] h = refl
some_words (w ∷ words) h =
    let both = and_parts (is_word w) (list_all is_word words) h in
    let some : nat_lt 0 (length w) ≡ true = (and_parts (nat_lt 0 (length w)) (list_all is_word_byte w) both.0).0 in
    rw some (ap (λ (ws : List Text). w ∷ ws) (some_words words both.1))

printed_words : (words : List Text) → IsLine words → words_of (join_with_byte 32 words) ≡ words
unfolding words_of
printed_words [] (some, are) = absurd (omega arith)
printed_words (w ∷ words) (some, are) = ap (filter (λ v. nat_lt 0 (length v))) (printed_parts w words are) ∙ some_words (w ∷ words) are

-- ---- a printed line

-- no byte ends the line in front of its end
last_byte : (line : Text) (i : ℕ) → list_all may_stand line ≡ true → eqb (slice_index line i) 13 ≡ false
last_byte [] i h = refl
last_byte (b ∷ bs) zero h = not_return b (and_parts (may_stand b) (list_all may_stand bs) h).0
last_byte (b ∷ bs) (suc i) h = last_byte bs i (and_parts (may_stand b) (list_all may_stand bs) h).1

-- no byte begins a comment
no_comment : (line : Text) → list_all may_stand line ≡ true → take (position_or_len (λ b. eqb b 35) line) line ≡ line
no_comment [] h = refl
no_comment (b ∷ bs) h =
    let both = and_parts (may_stand b) (list_all may_stand bs) h in
    let more : 1 + position_or_len (λ b. eqb b 35) bs ≡ suc (position_or_len (λ b. eqb b 35) bs) = omega arith in
    rw (not_comment b both.0, more) (ap (λ (rest : Text). b ∷ rest) (no_comment bs both.1))

pub whole_body : (line : Text) → list_all may_stand line ≡ true → body_of line ≡ line
unfolding body_of
whole_body line h = rw (last_byte line (length line - 1) h) (no_comment line h)

first_byte : (b : ℕ) (bs : Text) → is_word (b ∷ bs) ≡ true → is_word_byte b ≡ true
first_byte b bs h = (and_parts (is_word_byte b) (list_all is_word_byte bs) (bytes_of_word (b ∷ bs) h)).0

-- it begins with a word
begins : (words : List Text) → IsLine words → has_word (join_with_byte 32 words) ≡ true
unfolding has_word
begins [] (some, are) = absurd (omega arith)
begins ([] ∷ words) (some, are) = absurd (cc)
begins ((b ∷ bs) ∷ []) (some, are) = rw (not_blank b (first_byte b bs (and_parts (is_word (b ∷ bs)) true are).0)) refl
begins ((b ∷ bs) ∷ v ∷ words) (some, are) = rw (not_blank b (first_byte b bs (and_parts (is_word (b ∷ bs)) (list_all is_word (v ∷ words)) are).0)) refl

-- a line before byte 10 is the first line
pub first_line : (line rest : Text) → list_all may_stand line ≡ true → raw_lines (line ++ 10 ∷ rest) ≡ line ∷ raw_lines rest
unfolding raw_lines
first_line line rest h =
    let some : 0 < length (slice_split (λ (b : ℕ). eqb b 10) rest) = omega (arith, length-slice_split (λ (b : ℕ). eqb b 10) rest) in
    ap lines_of_parts (slice_split_at (λ (b : ℕ). eqb b 10) line 10 rest (each_byte may_stand (λ b. eqb b 10) not_end line h) refl) ∙ cuts.one_more line (slice_split (λ b. eqb b 10) rest) some

-- the lines that were printed, where the first has this number
from_line : (n : ℕ) (lines : List (List Text)) → All IsLine lines → map sound_words (numbered n (raw_lines (text_of lines))) ≡ map Some lines
unfolding text_of numbered raw_lines sound_words is_sound
from_line n [] are = refl
from_line n (words ∷ lines) are =
    let line : IsLine words = All-head IsLine words lines are in
    let sound = printed_sound words line.1 in
    let body = whole_body (join_with_byte 32 words) sound in
    rw (first_line (join_with_byte 32 words) (text_of lines) sound, body, begins words line, sound, printed_words words line)
    (ap (λ (ws : List (Option (List Text))). Some words ∷ ws) (from_line (n + 1) lines (All-tail IsLine words lines are)))

pub lines_again : LinesAreReadAgain
lines_again lines are = from_line 1 lines are
