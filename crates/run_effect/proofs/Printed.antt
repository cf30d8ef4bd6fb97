-- That a printed script is of the form of its items, and so is read.
use Rattle.std.proofs.Common.{◌≡◌, ◌∙◌, ℕ, zero, suc, ◌+◌, ◌-◌, ◌*◌, ◌/◌, ◌%◌, ◌<◌, ◌≤◌, ◌^◌, Bool, true, false, List, [], ◌∷◌, ◌++◌, Option, Some, None, Ok, length, refl, sym, ap, subst, arith, rules, map, All}
use Rattle.std.specs.Prelude.{◌&&◌, nat_lt, nat_eq, decimal, IsTrue, codes, sum_by, slice_index}
use Rattle.std.specs.List.{list_all}
use Rattle.std.specs.Str.{all_ascii_digits}
use Rattle.std.specs.Char.{is_ascii_digit}
use Rattle.std.proofs.lemmas.Bool.{and_from, and_parts}
use Rattle.std.proofs.lemmas.Bool.Decides.{nat_tests}
use Rattle.std.proofs.lemmas.Fmt.{decimal_nonempty, digits_decimal}
use Rattle.std.proofs.lemmas.List.Elements.{All-cons, All-head, All-nil, All-tail}
use Rattle.std.proofs.lemmas.Str.Parse.{IsNumeralModel, numerals_by_fold}
use Rattle.hex.specs.Hex.{encode_lower, encode_with, lower_digits, IsBytes}
use Rattle.hex.proofs.HexLemmas.{length-encode_with}
use Rattle.raid_text.specs.Text.{Text, Numbered, is_word, is_word_byte, lines_in, sound_words}
use Rattle.raid_text.specs.Printed.{IsLine, text_of}
use Rattle.raid_text.proofs.Again.{lines_again, numbers_again, patterns_again}
use Rattle.raid_script.specs.Asked.{Asked, AskedPatch, Writes, WritesAll, Reads, Syncs, Fails, Other, IsAsked, Request, scripted}
use Rattle.raid_script.specs.Form.{AreLinesOf, AreRequests, FillsAll, IsLineOf, IsSaid, Number, asked_places, patch_places, places, said_places}
use Rattle.raid_script.specs.Steps.{joined_in}
use Rattle.raid_script.specs.declared.join.Join.{Join}
use Rattle.raid_script.specs.Laws.{IsScriptOf}
use Rattle.raid_script.proofs.ScriptRead.{script_read}
use Rattle.run_effect.specs.Printed.{IsPattern, IsPlain, IsPlainRequest, PrintedScriptIsRead, item_words, patch_words, request_words, script_text}

-- a span of blocks with a pattern, as it can be printed
abbrev IsPlainPatch : AskedPatch → Type 0
IsPlainPatch p = (p.span.first < 2 ^ 32) × (p.span.count < 2 ^ 32) × IsPattern p.bytes

-- ## Words

abbrev read_on : ℕ → List ℕ → ℕ
read_on n [] = n
read_on n (c ∷ cs) = read_on (10 * n + (c - 48)) cs

own : IsNumeralModel (λ ds. all_ascii_digits ds ≡ true) (read_on 0)
own = numerals_by_fold _ (search rules) read_on (search rules)

digit_in_word : (b : ℕ) → is_ascii_digit b ≡ true → is_word_byte b ≡ true
digit_in_word b h = grind (arith, nat_tests)

digits_in_word : (w : Text) → all_ascii_digits w ≡ true → list_all is_word_byte w ≡ true
digits_in_word [] h = refl
digits_in_word (b ∷ bs) h = let both = and_parts (is_ascii_digit b) (all_ascii_digits bs) h in and_from (is_word_byte b) (list_all is_word_byte bs) (digit_in_word b both.0) (digits_in_word bs both.1)

positive : (n : ℕ) → 0 < n → nat_lt 0 n ≡ true
positive n h = grind (arith, nat_tests)

some_bytes : (w : Text) → 0 < length w → list_all is_word_byte w ≡ true → is_word w ≡ true
some_bytes w some are = and_from (nat_lt 0 (length w)) (list_all is_word_byte w) (positive (length w) some) are

number_word : (n : ℕ) → n < 2 ^ 32 → is_word (decimal n) ≡ true
number_word n small =
    let wide : n < 2 ^ 64 = omega arith in
    some_bytes (decimal n) (decimal_nonempty n wide) (digits_in_word (decimal n) (digits_decimal own n wide))

-- each of the sixteen digits is a word's byte
at-place : (digits : Text) (n : ℕ) → list_all is_word_byte digits ≡ true → n < length digits → is_word_byte (slice_index digits n) ≡ true
at-place [] n all h = absurd (omega (arith, h))
at-place (b ∷ digits) zero all h = (and_parts (is_word_byte b) (list_all is_word_byte digits) all).0
at-place (b ∷ digits) (suc n) all h = at-place digits n (and_parts (is_word_byte b) (list_all is_word_byte digits) all).1 (omega (arith, h))

sixteen : (n : ℕ) → n < 16 → is_word_byte (slice_index lower_digits n) ≡ true
sixteen n h = at-place lower_digits n refl h

hex_bytes : (bytes : List ℕ) → IsBytes bytes → list_all is_word_byte (encode_lower bytes) ≡ true
unfolding encode_with
hex_bytes [] are = refl
hex_bytes (b ∷ bytes) are =
    let small : b < 256 = are 0 in
    let high : b / 16 < 16 = omega (arith, small) in
    let low : b % 16 < 16 = omega arith in
    and_from (is_word_byte (slice_index lower_digits (b / 16))) (is_word_byte (slice_index lower_digits (b % 16)) && list_all is_word_byte (encode_lower bytes)) (sixteen (b / 16) high)
    (and_from (is_word_byte (slice_index lower_digits (b % 16))) (list_all is_word_byte (encode_lower bytes)) (sixteen (b % 16) low) (hex_bytes bytes (λ i. are (suc i))))

pattern_word : (bytes : List ℕ) → IsPattern bytes → is_word (encode_lower bytes) ≡ true
pattern_word bytes (some, are, count) =
    let long = length-encode_with lower_digits bytes in
    some_bytes (encode_lower bytes) (omega (arith, some, long)) (hex_bytes bytes are)

both : (w : Text) (words : List Text) → is_word w ≡ true → list_all is_word words ≡ true → list_all is_word (w ∷ words) ≡ true
both w words one more = and_from (is_word w) (list_all is_word words) one more

patch-words : (patches : List AskedPatch) → All IsPlainPatch patches → list_all is_word (patch_words patches) ≡ true
patch-words [] are = refl
patch-words (p ∷ patches) are =
    let one = All-head IsPlainPatch p patches are in
    both (decimal p.span.first) (decimal p.span.count ∷ encode_lower p.bytes ∷ patch_words patches) (number_word p.span.first one.0)
    (both (decimal p.span.count) (encode_lower p.bytes ∷ patch_words patches) (number_word p.span.count one.1)
    (both (encode_lower p.bytes) (patch_words patches) (pattern_word p.bytes one.2) (patch-words patches (All-tail IsPlainPatch p patches are))))

item-words : (columns : ℕ) (asked : Asked) → IsPlain columns asked → list_all is_word (item_words asked) ≡ true
item-words columns (Writes first count bytes None) (f, s, c, p) =
    both (codes "write") (decimal first ∷ decimal count ∷ encode_lower bytes ∷ []) refl
    (both (decimal first) (decimal count ∷ encode_lower bytes ∷ []) (number_word first f)
    (both (decimal count) (encode_lower bytes ∷ []) (number_word count c) (both (encode_lower bytes) [] (pattern_word bytes p) refl)))
item-words columns (Writes first count bytes (Some g)) h = absurd h
item-words columns (WritesAll patches None) (are, each) = both (codes "writes") (patch_words patches) refl (patch-words patches each)
item-words columns (WritesAll patches (Some g)) h = absurd h
item-words columns (Reads first count None) (f, s, c) =
    both (codes "read") (decimal first ∷ decimal count ∷ []) refl
    (both (decimal first) (decimal count ∷ []) (number_word first f) (both (decimal count) [] (number_word count c) refl))
item-words columns (Reads first count (Some g)) h = absurd h
item-words columns (Syncs stripe) h = both (codes "sync") (decimal stripe ∷ []) refl (both (decimal stripe) [] (number_word stripe h) refl)
item-words columns (Fails column) h = both (codes "fail") (decimal column ∷ []) refl (both (decimal column) [] (number_word column h.1) refl)
item-words columns Other h = absurd h

is-line : (columns : ℕ) (r : Request) → IsPlainRequest columns r → IsLine (request_words r)
is-line columns r is =
    let c = is.client in
    (omega arith, both (decimal r.client) (item_words r.asked) (number_word r.client (omega (arith, c))) (item-words columns r.asked is.item))

are-lines : (columns : ℕ) (requests : List Request) → All (IsPlainRequest columns) requests → All IsLine (map request_words requests)
are-lines columns [] are = All-nil IsLine
are-lines columns (r ∷ requests) are = All-cons IsLine (request_words r) (map request_words requests) (is-line columns r (All-head (IsPlainRequest columns) r requests are)) (are-lines columns requests (All-tail (IsPlainRequest columns) r requests are))

-- ## Places

fill-patches : (patches : List AskedPatch) → All IsPlainPatch patches → FillsAll [] (patch_places patches) (patch_words patches)
fill-patches [] are = tt
fill-patches (p ∷ patches) are =
    let one = All-head IsPlainPatch p patches are in
    (numbers_again p.span.first one.0, (numbers_again p.span.count one.1, (patterns_again p.bytes one.2.1 one.2.2, fill-patches patches (All-tail IsPlainPatch p patches are))))

fill-item : (columns : ℕ) (asked : Asked) → IsPlain columns asked → FillsAll [] (asked_places asked) (item_words asked)
fill-item columns (Writes first count bytes None) (f, s, c, p) = (refl, (numbers_again first f, (numbers_again count c, (patterns_again bytes p.1 p.2, tt))))
fill-item columns (Writes first count bytes (Some g)) h = absurd h
fill-item columns (WritesAll patches None) (are, each) = (refl, fill-patches patches each)
fill-item columns (WritesAll patches (Some g)) h = absurd h
fill-item columns (Reads first count None) (f, s, c) = (refl, (numbers_again first f, (numbers_again count c, tt)))
fill-item columns (Reads first count (Some g)) h = absurd h
fill-item columns (Syncs stripe) h = (refl, (numbers_again stripe h, tt))
fill-item columns (Fails column) h = (refl, (numbers_again column h.1, tt))
fill-item columns Other h = absurd h

may-stand : (columns : ℕ) (asked : Asked) → IsPlain columns asked → IsAsked columns 0 asked
may-stand columns (Writes first count bytes None) h = (h.0, h.1, λ x e. absurd (cc))
may-stand columns (Writes first count bytes (Some g)) h = absurd h
may-stand columns (WritesAll patches None) (are, each) = (are, λ x e. absurd (cc))
may-stand columns (WritesAll patches (Some g)) h = absurd h
may-stand columns (Reads first count None) h = (h.0, h.1, λ x e. absurd (cc))
may-stand columns (Reads first count (Some g)) h = absurd h
may-stand columns (Syncs stripe) h = tt
may-stand columns (Fails column) h = h.0
may-stand columns Other h = absurd h

-- ## Lines

line-in : (columns : ℕ) (r : Request) (requests : List Request) (line : Numbered) (lines : List Numbered) → IsPlainRequest columns r → sound_words line ≡ Some (request_words r)
    → AreLinesOf [] columns 0 requests lines → AreLinesOf [] columns 0 (r ∷ requests) (line ∷ lines)
line-in columns r requests line lines one first rest =
    let c = one.client in
    let fills : FillsAll [] (Number r.client ∷ said_places r.asked None) (request_words r) = (numbers_again r.client (omega (arith, c)), fill-item columns r.asked one.item) in
    let form : IsLineOf [] (places r) line =
    (request_words r, first, subst (λ (j : Option Join). FillsAll [] (Number r.client ∷ said_places r.asked j) (request_words r)) (sym one.alone) fills) in
    let said : IsSaid columns 0 0 line.at r.asked r.joined = subst (λ (j : Option Join). IsSaid columns 0 0 line.at r.asked j) (sym one.alone) (may-stand columns r.asked one.item) in
    let behind : AreLinesOf [] columns (0 + length (joined_in r.joined)) requests lines = subst (λ (j : Option Join). AreLinesOf [] columns (0 + length (joined_in j)) requests lines) (sym one.alone) rest in
    ((one.client, said), form, behind)

in-form : (columns : ℕ) (requests : List Request) (lines : List Numbered) → All (IsPlainRequest columns) requests → map sound_words lines ≡ map Some (map request_words requests) → AreLinesOf [] columns 0 requests lines
in-form columns [] [] are same = tt
in-form columns [] (line ∷ lines) are same = absurd (let u : ⊥ = cc in u)
in-form columns (r ∷ requests) [] are same = absurd (let u : ⊥ = cc in u)
in-form columns (r ∷ requests) (line ∷ lines) are same =
    let one = All-head (IsPlainRequest columns) r requests are in
    let first : sound_words line ≡ Some (request_words r) = cc in
    let more : map sound_words lines ≡ map Some (map request_words requests) = cc in
    line-in columns r requests line lines one first (in-form columns requests lines (All-tail (IsPlainRequest columns) r requests are) more)

pub printed_read : PrintedScriptIsRead
printed_read columns requests are few =
    script_read [] columns (script_text requests) (scripted requests) requests
    (record {
      are = few;
      form = in-form columns requests (lines_in (script_text requests)) are (lines_again (map request_words requests) (are-lines columns requests are));
      sorted = refl;
    })
