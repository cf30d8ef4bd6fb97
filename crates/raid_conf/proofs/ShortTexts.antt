-- How long a configuration's canonical text can be.
use Rattle.std.proofs.Common.{◌≡◌, ℕ, zero, suc, ◌+◌, ◌*◌, ◌<◌, ◌≤◌, ◌^◌, Bool, true, false, List, [], ◌∷◌, ◌++◌, Option, Some, None, length, map, take, drop, refl, ap, arith, All, length-append}
use Rattle.std.specs.Prelude.{codes, decimal, nat_eq, not}
use Rattle.std.specs.Option.{ForSome}
use Rattle.std.proofs.lemmas.Bool.{and_parts}
use Rattle.std.proofs.lemmas.Fmt.{length-decimal-le}
use Rattle.std.proofs.lemmas.List.Elements.{All-append, All-cons, All-head, All-nil, All-tail}
use Rattle.raid_text.specs.Text.{Text}
use Rattle.raid_conf.specs.declared.conf.Conf.{Conf}
use Rattle.raid_conf.specs.declared.given.Given.{Given}
use Rattle.raid_conf.specs.declared.given.Given.TheVariants.{Listed, Cyclic, Complete}
use Rattle.raid_conf.specs.Designs.{blocks_of, is_design, serves}
use Rattle.raid_conf.specs.Steps.{is_wide}
use Rattle.raid_conf.specs.Form.{IsConf, IsDesignOf, IsDiskName, IsGiven, IsName, Literal, Number, Place, array_places, conf_places, conf_text, design_places, given_places, layout_places, name_places, printed, queue_places, spare_places, start_places, tuple_places}
use Rattle.raid_conf.specs.Printing.{line_text, lines_text, spaced}
use Rattle.raid_conf.proofs.Judged.{design_is}
use Rattle.raid_conf.proofs.Direct.{text_is}
use Rattle.raid_conf.proofs.PrintedLines.{canonical_is, line_of}

-- ---- numbers and designs

pub take_small : (k : ℕ) (ns : List ℕ) → All (λ n. n < 2 ^ 32) ns → All (λ n. n < 2 ^ 32) (take k ns)
take_small zero ns are = All-nil (λ (n : ℕ). n < 2 ^ 32)
take_small (suc k) [] are = All-nil (λ (n : ℕ). n < 2 ^ 32)
take_small (suc k) (n ∷ ns) are = All-cons (λ (m : ℕ). m < 2 ^ 32) n (take k ns) (All-head (λ (m : ℕ). m < 2 ^ 32) n ns are) (take_small k ns (All-tail (λ (m : ℕ). m < 2 ^ 32) n ns are))

pub drop_small : (k : ℕ) (ns : List ℕ) → All (λ n. n < 2 ^ 32) ns → All (λ n. n < 2 ^ 32) (drop k ns)
drop_small zero ns are = are
drop_small (suc k) [] are = All-nil (λ (n : ℕ). n < 2 ^ 32)
drop_small (suc k) (n ∷ ns) are = drop_small k ns (All-tail (λ (m : ℕ). m < 2 ^ 32) n ns are)

pub serves_design : (level : ℕ) (given : Given) → serves level given ≡ true → is_design (blocks_of given) ≡ true
unfolding serves is_wide
serves_design level given h = (and_parts _ _ h).1

-- ---- a line

-- words of at most 399 bytes together, each behind a space
abbrev IsShort : List Place → Type 0
IsShort places = length (spaced places) ≤ 399

number_length : (n : ℕ) → n < 2 ^ 32 → length (decimal n) ≤ 10
number_length n small = length-decimal-le 10 n (omega arith) (omega arith) (omega arith)

-- a place, and those behind it
place_more : (place : Place) (places : List Place) → length (spaced (place ∷ places)) ≡ 1 + length (printed place) + length (spaced places)
place_more place places = omega (arith, length-append (32 ∷ printed place) (spaced places))

number_more : (n : ℕ) (places : List Place) (k : ℕ) → n < 2 ^ 32 → length (spaced places) ≤ k → length (spaced (Number n ∷ places)) ≤ 11 + k
number_more n places k small few = omega (arith, place_more (Number n) places, number_length n small)

word_more : (text : Text) (places : List Place) (k : ℕ) → length (spaced places) ≤ k → length (spaced (Literal text ∷ places)) ≤ 1 + length text + k
word_more text places k few = omega (arith, place_more (Literal text) places)

numbers_length : (ns : List ℕ) → All (λ n. n < 2 ^ 32) ns → length (spaced (map Number ns)) ≤ 11 * length ns
numbers_length [] are = omega arith
numbers_length (n ∷ ns) are =
    let more = number_more n (map Number ns) (11 * length ns) (All-head (λ (m : ℕ). m < 2 ^ 32) n ns are) (numbers_length ns (All-tail (λ (m : ℕ). m < 2 ^ 32) n ns are)) in
    omega arith

line_length : (places : List Place) → IsShort places → length (line_text places) ≤ 400
unfolding line_text
line_length [] short = omega arith
line_length (place ∷ places) short = omega (arith, ap length (line_of place places), length-append (printed place ++ spaced places) (10 ∷ []), length-append (printed place) (spaced places), place_more place places)

-- as many bytes as so many short lines have at most
lines_length : (lines : List (List Place)) → All IsShort lines → length (lines_text lines) ≤ 400 * length lines
lines_length [] are = omega arith
lines_length (places ∷ lines) are =
    let one = line_length places (All-head IsShort places lines are) in
    let others = lines_length lines (All-tail IsShort places lines are) in
    omega (arith, length-append (line_text places) (lines_text lines))

-- ---- the lines of a configuration

start_short : (name : Text) → length name ≤ 6 → IsShort (start_places name)
start_short name short =
    let more = word_more (codes "START") (Literal name ∷ []) (1 + length name + 0) (word_more name [] 0 (omega arith)) in
    omega arith

disk_short : (name : Text) → IsDiskName name → IsShort (name_places name)
disk_short [] is = let more = word_more (codes "absent") [] 0 (omega arith) in omega arith
disk_short (b ∷ name) is = let more = word_more (b ∷ name) [] 0 (omega arith) in omega (arith, is.short)

spare_short : (name : Text) → IsName name → IsShort (name_places name)
spare_short [] is = let more = word_more (codes "absent") [] 0 (omega arith) in omega arith
spare_short (b ∷ name) is = let more = word_more (b ∷ name) [] 0 (omega arith) in omega (arith, is.short)

disks_short : (names : List Text) → All IsDiskName names → All IsShort (map name_places names)
disks_short [] are = All-nil IsShort
disks_short (name ∷ names) are = All-cons IsShort (name_places name) (map name_places names) (disk_short name (All-head IsDiskName name names are)) (disks_short names (All-tail IsDiskName name names are))

names_short : (names : List Text) → All IsName names → All IsShort (map name_places names)
names_short [] are = All-nil IsShort
names_short (name ∷ names) are = All-cons IsShort (name_places name) (map name_places names) (spare_short name (All-head IsName name names are)) (names_short names (All-tail IsName name names are))

spares_short : (present : Bool) (names : List Text) → All IsName names → All IsShort (spare_places present names)
spares_short false names are = All-nil IsShort
spares_short true names are = All-cons IsShort (start_places (codes "spare")) (map name_places names) (start_short (codes "spare") (omega arith)) (names_short names are)

array_short : (columns spares : ℕ) → columns < 2 ^ 32 → spares < 2 ^ 32 → IsShort (array_places false columns spares)
array_short columns spares few less =
    let more = number_more 1 (Number columns ∷ Number spares ∷ []) 22 (omega arith) (number_more columns (Number spares ∷ []) 11 few (number_more spares [] 0 less (omega arith))) in
    omega arith

layout_short : (unit level : ℕ) → unit < 2 ^ 32 → IsShort (layout_places unit level)
layout_short unit level small =
    let letter = word_more (level ∷ []) [] 0 (omega arith) in
    let rest = number_more 1 (Number 1 ∷ Literal (level ∷ []) ∷ []) 13 (omega arith) (number_more 1 (Literal (level ∷ []) ∷ []) 2 (omega arith) letter) in
    let more = number_more unit (Number 1 ∷ Number 1 ∷ Literal (level ∷ []) ∷ []) 24 small rest in
    omega arith

-- a line of at most 32 numbers
numbers_short : (ns : List ℕ) → length ns ≤ 32 → All (λ n. n < 2 ^ 32) ns → IsShort (map Number ns)
numbers_short ns few are = let short = numbers_length ns are in omega arith

tuples_short : (b k : ℕ) (tuples : List ℕ) → k ≤ 32 → All (λ n. n < 2 ^ 32) tuples → All IsShort (tuple_places b k tuples)
unfolding tuple_places
tuples_short zero k tuples few are = All-nil IsShort
tuples_short (suc b) k tuples few are =
    All-cons IsShort (map Number (take k tuples)) (tuple_places b k (drop k tuples)) (numbers_short (take k tuples) (taken_few k tuples few) (take_small k tuples are)) (tuples_short b k (drop k tuples) few (drop_small k tuples are))
  where
    taken : (k : ℕ) (ns : List ℕ) → length (take k ns) ≤ k
    taken zero ns = omega arith
    taken (suc k) [] = omega arith
    taken (suc k) (n ∷ ns) = let h = taken k ns in omega arith

    taken_few : (k : ℕ) (ns : List ℕ) → k ≤ 32 → length (take k ns) ≤ 32
    taken_few k ns few = let h = taken k ns in omega arith

tuples_count : (b k : ℕ) (tuples : List ℕ) → length (tuple_places b k tuples) ≡ b
unfolding tuple_places
tuples_count zero k tuples = refl
tuples_count (suc b) k tuples = ap (λ (n : ℕ). suc n) (tuples_count b k (drop k tuples))

-- the lines of a design, of which there are at most 4,097
record AreFew (lines : List (List Place)) : Type 0 where
  short : All IsShort lines
  few : length lines ≤ 4097

one_line_few : (places : List Place) → IsShort places → AreFew (places ∷ [])
one_line_few places short = record { short = All-cons IsShort places [] short (All-nil IsShort); few = omega arith }

given_few : (level columns : ℕ) (given : Given) → columns ≤ 32 → IsGiven level columns given → AreFew (given_places given)
given_few level columns (Listed b v k r lambda tuples) few is =
    let design = design_is (blocks_of (Listed b v k r lambda tuples)) (serves_design level (Listed b v k r lambda tuples) is.serves) in
    let width : k ≤ v = design.numbers.width_most in
    let count : b ≤ 4096 = design.numbers.tuples_most in
    let objects : v ≡ columns = is.objects in
    let small : v < 2 ^ 32 = omega (arith, objects, few) in
    let w = is.words in
    let degree = number_more r (Number lambda ∷ []) 11 w.2 (number_more lambda [] 0 w.3 (omega arith)) in
    let counts = number_more b (Number v ∷ Number k ∷ Number r ∷ Number lambda ∷ []) 44 w.0 (number_more v (Number k ∷ Number r ∷ Number lambda ∷ []) 33 small (number_more k (Number r ∷ Number lambda ∷ []) 22 w.1 degree)) in
    let head = word_more (codes "design") (Number b ∷ Number v ∷ Number k ∷ Number r ∷ Number lambda ∷ []) 55 counts in
    record {
      short = All-cons IsShort (Literal (codes "design") ∷ Number b ∷ Number v ∷ Number k ∷ Number r ∷ Number lambda ∷ []) (tuple_places b k tuples) (omega arith) (tuples_short b k tuples (omega (arith, width, objects, few)) w.4);
      few = omega (arith, tuples_count b k tuples, count);
    }
given_few level columns (Cyclic v base) few is =
    let design = design_is (blocks_of (Cyclic v base)) (serves_design level (Cyclic v base) is.serves) in
    let width : length base ≤ v = design.numbers.width_most in
    let objects : v ≡ columns = is.objects in
    let small : v < 2 ^ 32 = omega (arith, objects, few) in
    let colon = word_more (codes ":") (map Number base) (11 * length base) (numbers_length base is.words.1) in
    let more = word_more (codes "cyclic") (Number v ∷ Literal (codes ":") ∷ map Number base) (11 + (2 + 11 * length base)) (number_more v (Literal (codes ":") ∷ map Number base) (2 + 11 * length base) small (omega (arith, colon))) in
    one_line_few (Literal (codes "cyclic") ∷ Number v ∷ Literal (codes ":") ∷ map Number base) (omega (arith, more, width, objects, few))
given_few level columns (Complete v k) few is =
    let objects : v ≡ columns = is.objects in
    let small : v < 2 ^ 32 = omega (arith, objects, few) in
    let more = word_more (codes "complete") (Number v ∷ Number k ∷ []) 22 (number_more v (Number k ∷ []) 11 small (number_more k [] 0 is.words (omega arith))) in
    one_line_few (Literal (codes "complete") ∷ Number v ∷ Number k ∷ []) (omega arith)

design_few : (level columns : ℕ) (design : Option Given) → columns ≤ 32 → IsDesignOf level columns design → AreFew (design_places design)
design_few level columns None few is = record { short = All-nil IsShort; few = omega arith }
design_few level columns (Some given) few is = given_few level columns given few is.1

queue_short : (queue : Option ℕ) → ForSome queue (λ n. n < 2 ^ 32) → All IsShort (queue_places queue)
queue_short None small = All-nil IsShort
queue_short (Some number) small =
    let more = word_more (codes "fifo") (Number number ∷ []) 11 (number_more number [] 0 (small number refl) (omega arith)) in
    All-cons IsShort (start_places (codes "queue")) ((Literal (codes "fifo") ∷ Number number ∷ []) ∷ []) (start_short (codes "queue") (omega arith))
    (All-cons IsShort (Literal (codes "fifo") ∷ Number number ∷ []) [] (omega arith) (All-nil IsShort))

-- ---- a configuration

conf_short : (present : Bool) (conf : Conf) → IsConf conf → All IsShort (conf_places false present conf)
conf_short present conf is =
    let columns = is.columns_most in
    let spares = is.spares_most in
    let unit = is.unit_most in
    let tail = design_places conf.design ++ queue_places conf.queue in
    let layout = start_places (codes "layout") ∷ layout_places conf.unit conf.level ∷ [] in
    let middle = spare_places present conf.spare_names ++ (layout ++ tail) in
    All-cons IsShort (start_places (codes "array")) (array_places false conf.columns conf.spares ∷ (start_places (codes "disks") ∷ (map name_places conf.disks ++ middle))) (start_short (codes "array") (omega arith))
    (All-cons IsShort (array_places false conf.columns conf.spares) (start_places (codes "disks") ∷ (map name_places conf.disks ++ middle)) (array_short conf.columns conf.spares (omega (arith, columns)) (omega (arith, spares)))
    (All-cons IsShort (start_places (codes "disks")) (map name_places conf.disks ++ middle) (start_short (codes "disks") (omega arith))
    (All-append IsShort (map name_places conf.disks) middle (disks_short conf.disks is.disks)
    (All-append IsShort (spare_places present conf.spare_names) (layout ++ tail) (spares_short present conf.spare_names is.spare_names)
    (All-cons IsShort (start_places (codes "layout")) (layout_places conf.unit conf.level ∷ tail) (start_short (codes "layout") (omega arith))
    (All-cons IsShort (layout_places conf.unit conf.level) tail (layout_short conf.unit conf.level (omega (arith, unit)))
    (All-append IsShort (design_places conf.design) (queue_places conf.queue) (design_few conf.level conf.columns conf.design columns is.design).short (queue_short conf.queue is.queue))))))))

names_count : (names : List Text) → length (map name_places names) ≡ length names
names_count [] = refl
names_count (name ∷ names) = ap (λ (n : ℕ). suc n) (names_count names)

spares_count : (present : Bool) (names : List Text) → length (spare_places present names) ≤ 1 + length names
spares_count false names = omega arith
spares_count true names = omega (arith, names_count names)

queue_count : (queue : Option ℕ) → length (queue_places queue) ≤ 2
queue_count None = omega arith
queue_count (Some number) = omega arith

conf_count : (present : Bool) (conf : Conf) → IsConf conf → length (conf_places false present conf) ≤ 4200
conf_count present conf is =
    let tail = design_places conf.design ++ queue_places conf.queue in
    let layout = start_places (codes "layout") ∷ layout_places conf.unit conf.level ∷ [] in
    let middle = spare_places present conf.spare_names ++ (layout ++ tail) in
    let a : length tail ≤ 4099 = omega (arith, length-append (design_places conf.design) (queue_places conf.queue), (design_few conf.level conf.columns conf.design is.columns_most is.design).few, queue_count conf.queue) in
    let b : length middle ≤ 4110 = omega (arith, length-append (spare_places present conf.spare_names) (layout ++ tail), spares_count present conf.spare_names, is.spare_count, is.spares_most) in
    omega (arith, length-append (map name_places conf.disks) middle, names_count conf.disks, is.disk_count, is.columns_most)

pub text_short : (conf : Conf) → IsConf conf → length (conf_text conf) ≤ 16777216
text_short conf is =
    let present = not (nat_eq conf.spares 0) in
    let lines = conf_places false present conf in
    let short = lines_length lines (conf_short present conf is) in
    let few = conf_count present conf is in
    omega (arith, ap length (text_is conf), ap length (canonical_is lines), short, few)
