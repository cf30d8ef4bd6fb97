-- The canonical text line by line is that of the places of the form.
use Rattle.std.proofs.Common.{arith, ◌≡◌, ◌∙◌, ℕ, zero, suc, Bool, true, false, List, [], ◌∷◌, ◌++◌, Option, Some, None, map, take, drop, refl, sym, ap}
use Rattle.std.proofs.lemmas.Fmt.{decimal_digit}
use Rattle.std.specs.Prelude.{codes, decimal, if◌then◌else◌, nat_eq, not}
use Rattle.std.specs.Option.{option_map_or}
use Rattle.raid_text.specs.Text.{Text}
use Rattle.raid_text.specs.Printed.{text_of}
use Rattle.raid_conf.specs.declared.conf.Conf.{Conf}
use Rattle.raid_conf.specs.declared.given.Given.{Given}
use Rattle.raid_conf.specs.declared.given.Given.TheVariants.{Listed, Cyclic, Complete}
use Rattle.raid_conf.specs.Form.{Number, Place, conf_text, design_lines, design_places, disk_word, layout_places, name_places, printed, queue_places, spare_places, start_places, tuple_lines, tuple_places}
use Rattle.raid_conf.specs.Printing.{placed_text}

-- the words that are printed on a line
abbrev words_on : List Place → List Text
words_on places = map printed places

-- a line with the name of a disk
abbrev name_line : Text → List Text
name_line name = disk_word name ∷ []

-- the section of the queue
abbrev queue_lines : Option ℕ → List (List Text)
queue_lines queue =
    option_map_or (λ number. (codes "START" ∷ codes "queue" ∷ []) ∷ (codes "fifo" ∷ decimal number ∷ []) ∷ []) queue []

numbers_are : (numbers : List ℕ) → words_on (map Number numbers) ≡ map decimal numbers
numbers_are [] = refl
numbers_are (n ∷ numbers) = ap (λ (words : List Text). decimal n ∷ words) (numbers_are numbers)

names_are : (names : List Text) (rest : List (List Place))
    → map words_on (map name_places names ++ rest) ≡ map name_line names ++ map words_on rest
names_are [] rest = refl
names_are (name ∷ names) rest = ap (λ (lines : List (List Text)). name_line name ∷ lines) (names_are names rest)

spares_are : (none : Bool) (names : List Text) (rest : List (List Place))
    → map words_on (spare_places (not none) names ++ rest)
    ≡ (if none then [] else (codes "START" ∷ codes "spare" ∷ []) ∷ map name_line names) ++ map words_on rest
spares_are true names rest = refl
spares_are false names rest =
    ap (λ (lines : List (List Text)). (codes "START" ∷ codes "spare" ∷ []) ∷ lines) (names_are names rest)

tuples_are : (b k : ℕ) (tuples : List ℕ) (rest : List (List Place))
    → map words_on (tuple_places b k tuples ++ rest) ≡ tuple_lines b k tuples ++ map words_on rest
unfolding tuple_places tuple_lines
tuples_are zero k tuples rest = refl
tuples_are (suc b) k tuples rest =
    ap (λ (line : List Text). line ∷ map words_on (tuple_places b k (drop k tuples) ++ rest)) (numbers_are (take k tuples))
    ∙ ap (λ (lines : List (List Text)). map decimal (take k tuples) ∷ lines) (tuples_are b k (drop k tuples) rest)

design_is : (design : Option Given) (rest : List (List Place))
    → map words_on (design_places design ++ rest) ≡ design_lines design ++ map words_on rest
design_is None rest = refl
design_is (Some (Listed b v k r lambda tuples)) rest =
    ap (λ (lines : List (List Text)). (codes "design" ∷ decimal b ∷ decimal v ∷ decimal k ∷ decimal r ∷ decimal lambda ∷ []) ∷ lines) (tuples_are b k tuples rest)
design_is (Some (Cyclic v base)) rest =
    ap (λ (words : List Text). (codes "cyclic" ∷ decimal v ∷ codes ":" ∷ words) ∷ map words_on rest) (numbers_are base)
design_is (Some (Complete v k)) rest = refl

queue_is : (queue : Option ℕ) → map words_on (queue_places queue) ≡ queue_lines queue
queue_is None = refl
queue_is (Some number) = refl

-- a number of one digit is printed as that digit
one_is : decimal 1 ≡ codes "1"
one_is = decimal_digit 1 (omega arith)

pub text_is : (conf : Conf) → conf_text conf ≡ placed_text conf
text_is conf =
    let tail = design_places conf.design ++ queue_places conf.queue in
    let layout = start_places (codes "layout") ∷ layout_places conf.unit conf.level ∷ [] in
    let spares = spare_places (not (nat_eq conf.spares 0)) conf.spare_names in
    let layout_words : Text → List (List Text) → List (List Text) = λ one lines. (codes "START" ∷ codes "layout" ∷ [])
    ∷ (decimal conf.unit ∷ one ∷ one ∷ (conf.level ∷ []) ∷ []) ∷ lines in
    let spare_words : List (List Text) → List (List Text) = λ lines.
    (if nat_eq conf.spares 0 then [] else (codes "START" ∷ codes "spare" ∷ []) ∷ map name_line conf.spare_names) ++ lines in
    let disk_words : List (List Text) → List (List Text) = λ lines. map name_line conf.disks ++ lines in
    let whole : Text → List (List Text) → Text = λ one lines. text_of ((codes "START" ∷ codes "array" ∷ [])
    ∷ (one ∷ decimal conf.columns ∷ decimal conf.spares ∷ []) ∷ (codes "START" ∷ codes "disks" ∷ []) ∷ lines) in
    let last : map words_on tail ≡ design_lines conf.design ++ queue_lines conf.queue =
    design_is conf.design (queue_places conf.queue)
    ∙ ap (λ (lines : List (List Text)). design_lines conf.design ++ lines) (queue_is conf.queue) in
    let disks_are = ap (whole (decimal 1)) (names_are conf.disks (spares ++ (layout ++ tail))) in
    let spares_then = ap (λ (lines : List (List Text)). whole (decimal 1) (disk_words lines)) (spares_are (nat_eq conf.spares 0) conf.spare_names (layout ++ tail)) in
    let layout_then = ap (λ (lines : List (List Text)). whole (decimal 1) (disk_words (spare_words (layout_words (decimal 1) lines)))) last in
    let ones = ap (λ (one : Text). whole one (disk_words (spare_words (layout_words one (design_lines conf.design ++ queue_lines conf.queue))))) one_is in
    sym (disks_are ∙ spares_then ∙ layout_then ∙ ones)
