-- How printed lines follow one another.
use Rattle.std.proofs.Common.{◌≡◌, ◌∙◌, ℕ, suc, ◌+◌, ◌<◌, ◌≤◌, false, List, [], ◌∷◌, ◌++◌, length, take, drop, get_or, map, Some, refl, sym, ap, append_assoc, append-nil}
use Rattle.std.specs.Prelude.{codes, nat_eq, not}
use Rattle.std.specs.List.{between, join_with_byte, slice_get}
use Rattle.std.proofs.lemmas.List.{drop_all, drop_more}
use Rattle.std.proofs.lemmas.Option.{get_or_from_slice_get, slice_get_within}
use Rattle.std.proofs.lemmas.Grind.{flat_map-append}
use Rattle.std.proofs.lemmas.Slice.{first_rest}
use Rattle.raid_text.specs.Text.{Text}
use Rattle.raid_text.specs.Printed.{text_of}
use Rattle.raid_conf.specs.declared.conf.Conf.{Conf}
use Rattle.raid_conf.specs.Form.{Number, Place, array_places, canonical, conf_places, conf_text, design_places, layout_places, name_places, printed, queue_places, spare_places, start_places, tuple_places}
use Rattle.raid_conf.proofs.Direct.{text_is}
use Rattle.raid_conf.specs.Printing.{device_places, level_places, line_text, lines_text, spaced}

-- ---- a line

-- a word, and those behind it
joined : (word : Text) (places : List Place) → join_with_byte 32 (word ∷ map printed places) ≡ word ++ spaced places
joined word [] = sym (append-nil word)
joined word (place ∷ places) = ap (λ (t : Text). word ++ 32 ∷ t) (joined (printed place) places)

-- the line that begins with this place
pub line_of : (place : Place) (places : List Place) → line_text (place ∷ places) ≡ (printed place ++ spaced places) ++ 10 ∷ []
unfolding line_text
line_of place places = ap (λ (t : Text). t ++ 10 ∷ []) (joined (printed place) places)

-- words, and those behind them
pub words_then : (old mid new : Text) (front back : List Place) → mid ≡ old ++ spaced front → new ≡ mid ++ spaced back → new ≡ old ++ spaced (front ++ back)
words_then old mid new front back one two =
    two ∙ ap (λ (t : Text). t ++ spaced back) one ∙ append_assoc old (spaced front) (spaced back) ∙ ap (λ (t : Text). old ++ t) (sym (flat_map-append (λ place. 32 ∷ printed place) front back))

-- a first word, the words behind it, and the line's end
pub line_then : (old first words new : Text) (place : Place) (places : List Place) → first ≡ old ++ printed place → words ≡ first ++ spaced places → new ≡ words ++ 10 ∷ [] → new ≡ old ++ line_text (place ∷ places)
line_then old first words new place places one two three =
    three
    ∙ ap (λ (t : Text). t ++ 10 ∷ []) (two ∙ ap (λ (t : Text). t ++ spaced places) one ∙ append_assoc old (printed place) (spaced places))
    ∙ append_assoc old (printed place ++ spaced places) (10 ∷ [])
    ∙ ap (λ (t : Text). old ++ t) (sym (line_of place places))

-- a line of one word
pub word_then : (old first new : Text) (place : Place) → first ≡ old ++ printed place → new ≡ first ++ 10 ∷ [] → new ≡ old ++ line_text (place ∷ [])
word_then old first new place one two = line_then old first first new place [] one (sym (append-nil first)) two

-- ---- lines

-- a text is its lines
pub canonical_is : (lines : List (List Place)) → canonical lines ≡ lines_text lines
unfolding text_of line_text
canonical_is [] = refl
canonical_is (places ∷ lines) =
    ap (λ (t : Text). join_with_byte 32 (map printed places) ++ 10 ∷ t) (canonical_is lines)
    ∙ sym (append_assoc (join_with_byte 32 (map printed places)) (10 ∷ []) (lines_text lines))

-- lines, and those behind them
pub lines_then : (old mid new : Text) (front back : List (List Place)) → mid ≡ old ++ lines_text front → new ≡ mid ++ lines_text back → new ≡ old ++ lines_text (front ++ back)
lines_then old mid new front back one two =
    two ∙ ap (λ (t : Text). t ++ lines_text back) one ∙ append_assoc old (lines_text front) (lines_text back) ∙ ap (λ (t : Text). old ++ t) (sym (flat_map-append line_text front back))

-- one line
pub one_line : (old new : Text) (places : List Place) → new ≡ old ++ line_text places → new ≡ old ++ lines_text (places ∷ [])
one_line old new places h = h ∙ ap (λ (t : Text). old ++ t) (sym (append-nil (line_text places)))

-- ---- names

-- the name at place i, and those behind it
pub names_more : (old new all : Text) (names : List Text) (i : ℕ) (name : Text) → slice_get names i ≡ Some name → new ≡ old ++ line_text (name_places name) → old ++ lines_text (map name_places (drop i names)) ≡ all
    → new ++ lines_text (map name_places (drop (i + 1) names)) ≡ all
names_more old new all names i name at is so_far =
    let more : drop i names ≡ name ∷ drop (i + 1) names = drop_more names i name (slice_get_within names i name at) ∙ ap (λ (n : Text). n ∷ drop (i + 1) names) (get_or_from_slice_get names i name name at) in
    ap (λ (t : Text). t ++ lines_text (map name_places (drop (i + 1) names))) is
    ∙ append_assoc old (line_text (name_places name)) (lines_text (map name_places (drop (i + 1) names)))
    ∙ (ap (λ (ns : List Text). old ++ lines_text (map name_places ns)) (sym more) ∙ so_far)

-- no name is left
pub names_all : (new all : Text) (names : List Text) (i : ℕ) → length names ≤ i → new ++ lines_text (map name_places (drop i names)) ≡ all → new ≡ all
names_all new all names i h so_far =
    let none : drop i names ≡ [] = drop_all i names h in
    sym (append-nil new) ∙ ap (λ (ns : List Text). new ++ lines_text (map name_places ns)) (sym none) ∙ so_far

-- ---- tuples

-- a tuple's first number, and the others
pub tuple_is : (tuple : List ℕ) → 0 < length tuple → (Number (get_or tuple 0 0) ∷ map Number (between 1 (length tuple) tuple)) ≡ map Number tuple
tuple_is tuple some = ap (map Number) (sym (first_rest tuple 0 some))

-- the next of the tuples that are left, and those behind it
pub tuples_more : (old new all : Text) (m n k : ℕ) (rest tuple more : List ℕ) → m ≡ suc n → tuple ≡ take k rest → more ≡ drop k rest → new ≡ old ++ line_text (map Number tuple)
    → old ++ lines_text (tuple_places m k rest) ≡ all → new ++ lines_text (tuple_places n k more) ≡ all
unfolding tuple_places
tuples_more old new all m n k rest tuple more left front back is so_far =
    let step : tuple_places m k rest ≡ (map Number tuple ∷ tuple_places n k more) = rw (left, front, back) refl in
    ap (λ (t : Text). t ++ lines_text (tuple_places n k more)) is
    ∙ append_assoc old (line_text (map Number tuple)) (lines_text (tuple_places n k more))
    ∙ (ap (λ (lines : List (List Place)). old ++ lines_text lines) (sym step) ∙ so_far)

-- no tuple is left
pub tuples_all : (new all : Text) (n k : ℕ) (rest : List ℕ) → n ≡ 0 → new ++ lines_text (tuple_places n k rest) ≡ all → new ≡ all
unfolding tuple_places
tuples_all new all n k rest none so_far =
    let is : tuple_places n k rest ≡ [] = rw none refl in
    sym (append-nil new) ∙ ap (λ (lines : List (List Place)). new ++ lines_text lines) (sym is) ∙ so_far

-- ---- a configuration

-- its sections in two parts
conf_lines : (conf : Conf) → length conf.spare_names ≡ conf.spares → device_places conf ++ level_places conf ≡ conf_places false (not (nat_eq conf.spares 0)) conf
conf_lines conf count =
    let disks = start_places (codes "disks") ∷ map name_places conf.disks in
    let layout = start_places (codes "layout") ∷ layout_places conf.unit conf.level ∷ [] in
    let tail = layout ++ (design_places conf.design ++ queue_places conf.queue) in
    let head : List (List Place) → List (List Place) = λ lines. start_places (codes "array") ∷ array_places false conf.columns conf.spares ∷ lines in
    ap head (append_assoc disks (spare_places (not (nat_eq (length conf.spare_names) 0)) conf.spare_names) tail)
    ∙ ap (λ (n : ℕ). head (disks ++ (spare_places (not (nat_eq n 0)) conf.spare_names ++ tail))) count

-- the parts that were printed one after the other
pub conf_then : (conf : Conf) (none front whole : Text) → length conf.spare_names ≡ conf.spares → none ≡ [] → front ≡ none ++ lines_text (device_places conf) → whole ≡ front ++ lines_text (level_places conf)
    → whole ≡ conf_text conf
conf_then conf none front whole count empty one two =
    lines_then none front whole (device_places conf) (level_places conf) one two
    ∙ ap (λ (t : Text). t ++ lines_text (device_places conf ++ level_places conf)) empty
    ∙ ap lines_text (conf_lines conf count)
    ∙ sym (canonical_is (conf_places false (not (nat_eq conf.spares 0)) conf))
    ∙ sym (text_is conf)

-- the section of the spares, of which there are some
pub spares_then : (old mid new : Text) (names : List Text) → nat_eq (length names) 0 ≡ false → mid ≡ old ++ line_text (start_places (codes "spare")) → new ≡ mid ++ lines_text (map name_places names)
    → new ≡ old ++ lines_text (spare_places (not (nat_eq (length names) 0)) names)
spares_then old mid new names some one two =
    let start = start_places (codes "spare") in
    rw some (lines_then old mid new (start ∷ []) (map name_places names) (one_line old mid start one) two)
