-- That canonical texts are of the form, and so are read.
use Rattle.std.proofs.Common.{◌≡◌, ◌∙◌, ℕ, zero, suc, ◌+◌, ◌-◌, ◌*◌, ◌<◌, ◌≤◌, ◌^◌, Bool, true, false, List, [], ◌∷◌, ◌++◌, Option, Some, None, Ok, length, refl, sym, ap, subst, arith, rules, map, take, drop, All}
use Rattle.std.specs.Prelude.{codes, not, nat_eq, nat_lt, decimal, IsTrue}
use Rattle.std.specs.List.{list_all}
use Rattle.std.specs.Option.{ForSome}
use Rattle.std.specs.Str.{all_ascii_digits}
use Rattle.std.specs.Char.{is_ascii_digit}
use Rattle.std.proofs.Math.Nat.{suc-mul}
use Rattle.std.proofs.lemmas.Bool.{and_from, and_parts, eqb-true}
use Rattle.std.proofs.lemmas.Bool.Decides.{nat_tests}
use Rattle.std.proofs.lemmas.Fmt.{decimal_nonempty, digits_decimal}
use Rattle.std.proofs.lemmas.List.{length-drop, length-take-le}
use Rattle.std.proofs.lemmas.List.Elements.{All-append, All-cons, All-head, All-nil, All-tail}
use Rattle.std.proofs.lemmas.Str.Parse.{IsNumeralModel, numerals_by_fold}
use Rattle.raid_text.specs.Text.{Text, Numbered, is_word, is_word_byte, lines_in, sound_words}
use Rattle.raid_text.specs.Printed.{IsLine}
use Rattle.raid_text.proofs.Again.{lines_again, numbers_again}
use Rattle.raid_conf.specs.declared.conf.Conf.{Conf}
use Rattle.raid_conf.specs.declared.given.Given.{Given}
use Rattle.raid_conf.specs.declared.given.Given.TheVariants.{Listed, Cyclic, Complete}
use Rattle.raid_conf.specs.Designs.{blocks_of}
use Rattle.raid_conf.specs.Levels.{is_level}
use Rattle.raid_conf.specs.Form.{FillsAll, HasForm, IsConf, IsDesignOf, IsDiskName, IsGiven, IsName, Literal, Number, Place, array_places, canonical, conf_places, conf_text, design_places, given_places, layout_places, name_places, printed, queue_places, spare_places, start_places, tuple_places}
use Rattle.raid_conf.specs.Texts.{conf_of}
use Rattle.raid_conf.specs.Printing.{IsPrintable, placed_text}
use Rattle.raid_conf.specs.Laws.{ConfTextIsPrintedAgain, ConfTextIsRead}
use Rattle.raid_conf.proofs.Direct.{text_is}
use Rattle.raid_conf.proofs.Judged.{design_is}
use Rattle.raid_conf.proofs.OneStep.{ok_same}
use Rattle.raid_conf.proofs.ReadConf.{conf_read}
use Rattle.raid_conf.proofs.ShortTexts.{drop_small, serves_design, take_small, text_short}

-- ---- any form

-- words and numbers that can be printed
abbrev pub ArePlaces : List Place → Type 0
ArePlaces [] = Unit {0}
ArePlaces (Literal text ∷ places) = IsTrue (is_word text) × ArePlaces places
ArePlaces (Number n ∷ places) = (n < 2 ^ 32) × ArePlaces places

-- a line of such places
abbrev pub IsPlaced : List Place → Type 0
IsPlaced places = (0 < length places) × ArePlaces places

abbrev read_on : ℕ → List ℕ → ℕ
read_on n [] = n
read_on n (c ∷ cs) = read_on (10 * n + (c - 48)) cs

own : IsNumeralModel (λ ds. all_ascii_digits ds ≡ true) (read_on 0)
own = numerals_by_fold _ (search rules) read_on (search rules)

digit_in_word : (b : ℕ) → is_ascii_digit b ≡ true → is_word_byte b ≡ true
digit_in_word b h = grind (arith, nat_tests)

digits_in_word : (w : Text) → all_ascii_digits w ≡ true → list_all is_word_byte w ≡ true
digits_in_word [] h = refl
digits_in_word (b ∷ bs) h = let both = and_parts (is_ascii_digit b) (all_ascii_digits bs) h in and_from (is_word_byte b) (list_all is_word_byte bs) (digit_in_word b both.0) (digits_in_word bs both.1)

some_bytes : (w : Text) → 0 < length w → list_all is_word_byte w ≡ true → is_word w ≡ true
some_bytes w some are = and_from (nat_lt 0 (length w)) (list_all is_word_byte w) (positive (length w) some) are
  where
    positive : (n : ℕ) → 0 < n → nat_lt 0 n ≡ true
    positive n h = grind (arith, nat_tests)

number_word : (n : ℕ) → n < 2 ^ 32 → is_word (decimal n) ≡ true
number_word n small =
    let wide : n < 2 ^ 64 = omega arith in
    some_bytes (decimal n) (decimal_nonempty n wide) (digits_in_word (decimal n) (digits_decimal own n wide))

printed_words : (places : List Place) → ArePlaces places → list_all is_word (map printed places) ≡ true
printed_words [] are = refl
printed_words (Literal text ∷ places) (word, are) = and_from (is_word text) (list_all is_word (map printed places)) word (printed_words places are)
printed_words (Number n ∷ places) (small, are) = and_from (is_word (decimal n)) (list_all is_word (map printed places)) (number_word n small) (printed_words places are)

printed_fill : (places : List Place) → ArePlaces places → FillsAll places (map printed places)
printed_fill [] are = tt
printed_fill (Literal text ∷ places) (word, are) = (refl, printed_fill places are)
printed_fill (Number n ∷ places) (small, are) = (numbers_again n small, printed_fill places are)

printed_line : (places : List Place) → IsPlaced places → IsLine (map printed places)
printed_line [] (some, are) = absurd (omega arith)
printed_line (place ∷ places) (some, are) = (omega arith, printed_words (place ∷ places) are)

printed_lines : (form : List (List Place)) → All IsPlaced form → All IsLine (map (λ line. map printed line) form)
printed_lines [] are = All-nil IsLine
printed_lines (places ∷ form) are = All-cons IsLine (map printed places) (map (λ l. map printed l) form) (printed_line places (All-head IsPlaced places form are)) (printed_lines form (All-tail IsPlaced places form are))

-- lines that are read as the printed words are of the form
has_form : (form : List (List Place)) (lines : List Numbered) → All IsPlaced form → map sound_words lines ≡ map (λ words. Some words) (map (λ line. map printed line) form) → HasForm form lines []
has_form [] [] are same = refl
has_form [] (line ∷ lines) are same = absurd (cc)
has_form (places ∷ form) [] are same = absurd (cc)
has_form (places ∷ form) (line ∷ lines) are same =
    let first : sound_words line ≡ Some (map printed places) = cc in
    let rest : map sound_words lines ≡ map (λ words. Some words) (map (λ l. map printed l) form) = cc in
    ((map printed places, first, printed_fill places (All-head IsPlaced places form are).1), has_form form lines (All-tail IsPlaced places form are) rest)

canonical_form : (form : List (List Place)) → All IsPlaced form → HasForm form (lines_in (canonical form)) []
canonical_form form are = has_form form (lines_in (canonical form)) are (lines_again (map (λ line. map printed line) form) (printed_lines form are))

-- ---- the lines of a configuration

numbers_placed : (ns : List ℕ) → All (λ n. n < 2 ^ 32) ns → ArePlaces (map Number ns)
numbers_placed [] are = tt
numbers_placed (n ∷ ns) are = (All-head (λ (m : ℕ). m < 2 ^ 32) n ns are, numbers_placed ns (All-tail (λ (m : ℕ). m < 2 ^ 32) n ns are))

disk_placed : (name : Text) → IsDiskName name → IsPlaced (name_places name)
disk_placed [] is = (omega arith, (refl, tt))
disk_placed (b ∷ name) is = (omega arith, (is.word, tt))

spare_placed : (name : Text) → IsName name → IsPlaced (name_places name)
spare_placed [] is = absurd (none is.word)
  where
    none : is_word [] ≡ true → ⊥
    none h = cc
spare_placed (b ∷ name) is = (omega arith, (is.word, tt))

disks_placed : (names : List Text) → All IsDiskName names → All IsPlaced (map name_places names)
disks_placed [] are = All-nil IsPlaced
disks_placed (name ∷ names) are = All-cons IsPlaced (name_places name) (map name_places names) (disk_placed name (All-head IsDiskName name names are)) (disks_placed names (All-tail IsDiskName name names are))

names_placed : (names : List Text) → All IsName names → All IsPlaced (map name_places names)
names_placed [] are = All-nil IsPlaced
names_placed (name ∷ names) are = All-cons IsPlaced (name_places name) (map name_places names) (spare_placed name (All-head IsName name names are)) (names_placed names (All-tail IsName name names are))

spares_placed : (present : Bool) (names : List Text) → All IsName names → All IsPlaced (spare_places present names)
spares_placed false names are = All-nil IsPlaced
spares_placed true names are = All-cons IsPlaced (start_places (codes "spare")) (map name_places names) (omega arith, (refl, (refl, tt))) (names_placed names are)

level_word : (level : ℕ) → is_level level ≡ true → is_word (level ∷ []) ≡ true
unfolding is_level
level_word level h = grind (arith, nat_tests)

length_numbers : (ns : List ℕ) → length (map Number ns) ≡ length ns
length_numbers [] = refl
length_numbers (n ∷ ns) = ap (λ (k : ℕ). suc k) (length_numbers ns)

tuples_placed : (b k : ℕ) (tuples : List ℕ) → 0 < k → length tuples ≡ b * k → All (λ n. n < 2 ^ 32) tuples → All IsPlaced (tuple_places b k tuples)
unfolding tuple_places
tuples_placed zero k tuples some count are = All-nil IsPlaced
tuples_placed (suc b) k tuples some count are =
    let total : length tuples ≡ b * k + k = count ∙ suc-mul b k in
    let long : k ≤ length tuples = omega (arith, total) in
    let wide : length (map Number (take k tuples)) ≡ k = length_numbers (take k tuples) ∙ length-take-le k tuples long in
    let others : length (drop k tuples) ≡ b * k = length-drop k tuples ∙ left_over (length tuples) (b * k) k total in
    All-cons IsPlaced (map Number (take k tuples)) (tuple_places b k (drop k tuples)) (rw wide some, numbers_placed (take k tuples) (take_small k tuples are)) (tuples_placed b k (drop k tuples) some others (drop_small k tuples are))
  where
    left_over : (n m k : ℕ) → n ≡ m + k → n - k ≡ m
    left_over n m k e = omega (arith, e)

given_placed : (level columns : ℕ) (given : Given) → columns ≤ 32 → IsGiven level columns given → All IsPlaced (given_places given)
given_placed level columns (Listed b v k r lambda tuples) few is =
    let design = design_is (blocks_of (Listed b v k r lambda tuples)) (serves_design level (Listed b v k r lambda tuples) is.serves) in
    let wide = design.numbers.width_least in
    let objects : v ≡ columns = is.objects in
    let small : v < 2 ^ 32 = omega (arith, objects, few) in
    let w = is.words in
    All-cons IsPlaced (Literal (codes "design") ∷ Number b ∷ Number v ∷ Number k ∷ Number r ∷ Number lambda ∷ []) (tuple_places b k tuples)
    (omega arith, (refl, (w.0, (small, (w.1, (w.2, (w.3, tt)))))))
    (tuples_placed b k tuples (omega (arith, wide)) design.numbers.length w.4)
given_placed level columns (Cyclic v base) few is =
    let objects : v ≡ columns = is.objects in
    let small : v < 2 ^ 32 = omega (arith, objects, few) in
    All-cons IsPlaced (Literal (codes "cyclic") ∷ Number v ∷ Literal (codes ":") ∷ map Number base) [] (omega arith, (refl, (small, (refl, numbers_placed base is.words.1)))) (All-nil IsPlaced)
given_placed level columns (Complete v k) few is =
    let objects : v ≡ columns = is.objects in
    let small : v < 2 ^ 32 = omega (arith, objects, few) in
    All-cons IsPlaced (Literal (codes "complete") ∷ Number v ∷ Number k ∷ []) [] (omega arith, (refl, (small, (is.words, tt)))) (All-nil IsPlaced)

design_placed : (level columns : ℕ) (design : Option Given) → columns ≤ 32 → IsDesignOf level columns design → All IsPlaced (design_places design)
design_placed level columns None few is = All-nil IsPlaced
design_placed level columns (Some given) few is = given_placed level columns given few is.1

queue_placed : (queue : Option ℕ) → ForSome queue (λ n. n < 2 ^ 32) → All IsPlaced (queue_places queue)
queue_placed None small = All-nil IsPlaced
queue_placed (Some number) small =
    All-cons IsPlaced (start_places (codes "queue")) ((Literal (codes "fifo") ∷ Number number ∷ []) ∷ []) (omega arith, (refl, (refl, tt)))
    (All-cons IsPlaced (Literal (codes "fifo") ∷ Number number ∷ []) [] (omega arith, (refl, (small number refl, tt))) (All-nil IsPlaced))

pub conf_placed : (present : Bool) (conf : Conf) → IsConf conf → All IsPlaced (conf_places false present conf)
conf_placed present conf is =
    let columns = is.columns_most in
    let spares = is.spares_most in
    let unit = is.unit_most in
    let tail = design_places conf.design ++ queue_places conf.queue in
    let layout = start_places (codes "layout") ∷ layout_places conf.unit conf.level ∷ [] in
    let middle = spare_places present conf.spare_names ++ (layout ++ tail) in
    All-cons IsPlaced (start_places (codes "array")) (array_places false conf.columns conf.spares ∷ (start_places (codes "disks") ∷ (map name_places conf.disks ++ middle))) (start_placed (codes "array") refl)
    (All-cons IsPlaced (array_places false conf.columns conf.spares) (start_places (codes "disks") ∷ (map name_places conf.disks ++ middle)) (omega arith, (omega arith, (omega (arith, columns), (omega (arith, spares), tt))))
    (All-cons IsPlaced (start_places (codes "disks")) (map name_places conf.disks ++ middle) (start_placed (codes "disks") refl)
    (All-append IsPlaced (map name_places conf.disks) middle (disks_placed conf.disks is.disks)
    (All-append IsPlaced (spare_places present conf.spare_names) (layout ++ tail) (spares_placed present conf.spare_names is.spare_names)
    (All-cons IsPlaced (start_places (codes "layout")) (layout_places conf.unit conf.level ∷ tail) (start_placed (codes "layout") refl)
    (All-cons IsPlaced (layout_places conf.unit conf.level) tail (omega arith, (omega (arith, unit), (omega arith, (omega arith, (level_word conf.level is.level, tt)))))
    (All-append IsPlaced (design_places conf.design) (queue_places conf.queue) (design_placed conf.level conf.columns conf.design columns is.design) (queue_placed conf.queue is.queue))))))))
  where
    start_placed : (name : Text) → is_word name ≡ true → IsPlaced (start_places name)
    start_placed name word = (omega arith, (refl, (word, tt)))

-- the canonical text is read as what was printed
placed_read : (conf : Conf) → IsConf conf → conf_of (placed_text conf) ≡ Ok conf
placed_read conf is =
    let present = not (nat_eq conf.spares 0) in
    conf_read (placed_text conf) conf is (record {
      short = false;
      present = present;
      behind = [];
      spares = λ e. eqb-true conf.spares 0 (not_false (nat_eq conf.spares 0) e);
      form = canonical_form (conf_places false present conf) (conf_placed present conf is);
      tail = tt;
    })
  where
    not_false : (b : Bool) → not b ≡ false → b ≡ true
    not_false true h = refl
    not_false false h = cc

pub text_read : (conf : Conf) → IsConf conf → conf_of (conf_text conf) ≡ Ok conf
text_read conf is = ap conf_of (text_is conf) ∙ placed_read conf is

pub conf_text_read : ConfTextIsRead
conf_text_read conf is = record { short = text_short conf is; read = text_read conf is }

-- and printed again it is the same text
pub printed_again : ConfTextIsPrintedAgain
printed_again text conf read is same h =
    let one : conf_of text ≡ Ok conf = ap (λ (t : Text). conf_of t) same ∙ text_read conf is in
    let both : read ≡ conf = ok_same read conf (sym h ∙ one) in
    ap (λ (c : Conf). conf_text c) both ∙ sym same

-- the tuples of a design stand one after the other, none of them empty
pub printable : (level columns : ℕ) (design : Option Given) → IsDesignOf level columns design → ForSome design IsPrintable
printable level columns design is given here = one given (subst (IsDesignOf level columns) here is).1
  where
    one : (given : Given) → IsGiven level columns given → IsPrintable given
    one (Listed b v k r lambda tuples) is =
        let numbers = (design_is (blocks_of (Listed b v k r lambda tuples)) (serves_design level (Listed b v k r lambda tuples) is.serves)).numbers in
        let wide : 2 ≤ k = numbers.width_least in
        (omega (arith, wide), numbers.length)
    one (Cyclic v base) is = tt
    one (Complete v k) is = tt
