-- That a line whose words fill the places of the form is read as what it says.
use Rattle.std.proofs.Common.{◌≡◌, ◌∙◌, ℕ, zero, suc, ◌+◌, ◌<◌, ◌≤◌, ◌^◌, Bool, true, false, cond, List, [], ◌∷◌, ◌++◌, length, map, Option, Some, None, Result, Ok, Err, refl, sym, ap, subst, append_assoc, append-nil, arith, All}
use Rattle.std.specs.Prelude.{◌≢◌, ◌&&◌, IsTrue, not, codes, nat_eq, nat_le, nat_lt}
use Rattle.std.specs.Str.{bytes_eq}
use Rattle.std.proofs.lemmas.Bool.Decides.{nat_tests}
use Rattle.std.proofs.lemmas.Slice.Eq.{bytes_eq-Decides}
use Rattle.raid_text.specs.Text.{Text, is_word, number_of}
use Rattle.raid_conf.specs.declared.given.Given.{Given}
use Rattle.raid_conf.specs.declared.given.Given.TheVariants.{Listed, Cyclic, Complete}
use Rattle.raid_conf.specs.declared.role.Role.{Role}
use Rattle.raid_conf.specs.declared.role.Role.TheVariants.{Disk, Spare}
use Rattle.raid_conf.specs.Levels.{allows, is_level}
use Rattle.raid_conf.specs.Sections.{array_of, complete_of, counts_of, cyclic_of, first_of, layout_of, level_in, listed_of, name_in, name_of, numbers_behind, pass_start, queue_begins, queue_of, spares_begin, start_of, tuple_behind, tuple_of, with_number}
use Rattle.raid_conf.specs.Steps.{after_objects, begins, has_name, may_be_columns, new_name, queue_or_debug, spare_or_layout}
use Rattle.text_steps.specs.Steps.{next_word}
use Rattle.raid_conf.specs.Form.{Place, Literal, Number, FillsAll, array_places, disk_word, IsName, layout_places, name_places, start_places}
use Rattle.raid_conf.proofs.FormLines.{IsNameFor}
use Rattle.raid_conf.proofs.OneStep.{bytes_same, end_back, is_number, literal_back, number_back, same_bytes, wanted_back, word_back}

no_words : (words : List Text) → FillsAll [] words → words ≡ []
no_words [] fills = refl
no_words (w ∷ ws) fills = absurd fills

within : (low n high : ℕ) → low ≤ n → n ≤ high → (nat_le low n && nat_le n high) ≡ true
within low n high h k = grind (arith, nat_tests)

at_most : (n high : ℕ) → n ≤ high → nat_le n high ≡ true
at_most n high h = grind (arith, nat_tests)

-- ---- lines that begin sections

pub start_back : (code : ℕ) (name : Text) (words : List Text) → FillsAll (start_places name) words → pass_start code name words ≡ Ok tt
unfolding pass_start start_of next_word
start_back code name words fills =
    let first = literal_back (codes "START") code (Literal name ∷ []) words fills in
    let second = word_back (Literal name) [] first.0 first.2 in
    let named : second.0 ≡ name = second.3 in
    rw (first.1, second.2, named, same_bytes name, end_back second.1 second.4) refl

pub spare_back : (spares : ℕ) (words : List Text) → FillsAll (start_places (codes "spare")) words → spares_begin spares words ≡ Ok true
unfolding spares_begin spare_or_layout start_of next_word
spare_back spares words fills =
    let first = literal_back (codes "START") 5 (Literal (codes "spare") ∷ []) words fills in
    let second = word_back (Literal (codes "spare")) [] first.0 first.2 in
    let named : second.0 ≡ codes "spare" = second.3 in
    rw (first.1, second.2, named, end_back second.1 second.4) refl

pub no_spare_back : (words : List Text) → FillsAll (start_places (codes "layout")) words → spares_begin 0 words ≡ Ok false
unfolding spares_begin spare_or_layout start_of next_word
no_spare_back words fills =
    let first = literal_back (codes "START") 5 (Literal (codes "layout") ∷ []) words fills in
    let second = word_back (Literal (codes "layout")) [] first.0 first.2 in
    let named : second.0 ≡ codes "layout" = second.3 in
    rw (first.1, second.2, named, end_back second.1 second.4) refl

pub queue_begins_back : (words : List Text) → FillsAll (start_places (codes "queue")) words → queue_begins words ≡ Ok true
unfolding queue_begins queue_or_debug start_of next_word
queue_begins_back words fills =
    let first = literal_back (codes "START") 1 (Literal (codes "queue") ∷ []) words fills in
    let second = word_back (Literal (codes "queue")) [] first.0 first.2 in
    let named : second.0 ≡ codes "queue" = second.3 in
    rw (first.1, second.2, named, end_back second.1 second.4) refl

pub debug_begins_back : (words : List Text) → FillsAll (start_places (codes "debug")) words → queue_begins words ≡ Ok false
unfolding queue_begins queue_or_debug start_of next_word
debug_begins_back words fills =
    let first = literal_back (codes "START") 1 (Literal (codes "debug") ∷ []) words fills in
    let second = word_back (Literal (codes "debug")) [] first.0 first.2 in
    let named : second.0 ≡ codes "debug" = second.3 in
    rw (first.1, second.2, named, end_back second.1 second.4) refl

-- ---- the lines of the array, the layout and the queue

pub array_back : (short : Bool) (columns spares : ℕ) (words : List Text) → 1 ≤ columns → columns ≤ 32 → spares ≤ 8 → FillsAll (array_places short columns spares) words → array_of words ≡ Ok (columns, spares)
unfolding array_of counts_of
array_back true columns spares words least most few fills =
    let first = number_back columns (Number spares ∷ []) words fills in
    let second = number_back spares [] first.0 first.2 in
    rw (first.1, within 1 columns 32 least most, second.1, no_words second.0 second.2, at_most spares 8 few) refl
array_back false columns spares words least most few fills =
    let row = number_back 1 (Number columns ∷ Number spares ∷ []) words fills in
    let second = number_back columns (Number spares ∷ []) row.0 row.2 in
    let third = word_back (Number spares) [] second.0 second.2 in
    rw (row.1, second.1, third.2, within 1 columns 32 least most, is_number third.0 spares third.3, at_most spares 8 few, end_back third.1 third.4) refl

pub layout_back : (columns unit level : ℕ) (words : List Text) → 1 ≤ unit → unit ≤ 128 → is_level level ≡ true → allows level columns ≡ true → FillsAll (layout_places unit level) words → layout_of columns words ≡ Ok (unit, level)
unfolding layout_of level_in next_word
layout_back columns unit level words least most known allowed fills =
    let first = number_back unit (Number 1 ∷ Number 1 ∷ Literal (level ∷ []) ∷ []) words fills in
    let second = wanted_back 1 9 (Number 1 ∷ Literal (level ∷ []) ∷ []) first.0 first.2 in
    let third = wanted_back 1 9 (Literal (level ∷ []) ∷ []) second.0 second.2 in
    let letter = word_back (Literal (level ∷ [])) [] third.0 third.2 in
    let named : letter.0 ≡ level ∷ [] = letter.3 in
    rw (first.1, within 1 unit 128 least most, second.1, third.1, letter.2, named, known, allowed, end_back letter.1 letter.4) refl

pub queue_back : (number : ℕ) (words : List Text) → FillsAll (Literal (codes "fifo") ∷ Number number ∷ []) words → queue_of words ≡ Ok number
unfolding queue_of
queue_back number words fills =
    let fifo = literal_back (codes "fifo") 10 (Number number ∷ []) words fills in
    let n = number_back number [] fifo.0 fifo.2 in
    rw (fifo.1, n.1, end_back n.0 n.2) refl

-- ---- names

other_eq : (a b : Text) → a ≢ b → bytes_eq a b ≡ false
other_eq a b other = go (bytes_eq a b) refl
  where
    go : (t : Bool) → bytes_eq a b ≡ t → t ≡ false
    go true e = absurd (other (bytes_same a b e))
    go false e = refl

named_back : (role : Role) (names : List Text) (name : Text) (words : List Text) → IsName name → has_name names name ≡ false → FillsAll (Literal name ∷ []) words → name_of role names words ≡ Ok name
unfolding name_of name_in new_name has_name next_word
named_back role names name words is none fills =
    let word = word_back (Literal name) [] words fills in
    let named : word.0 ≡ name = word.3 in
    rw (word.2, named, other_eq name (codes "START") is.no_start, other_eq name (codes "absent") is.present, at_most (length name) 255 is.short, none, end_back word.1 word.4) refl

absent_back : (names words : List Text) → FillsAll (Literal (codes "absent") ∷ []) words → name_of Disk names words ≡ Ok []
unfolding name_of name_in new_name has_name next_word
absent_back names words fills =
    let word = word_back (Literal (codes "absent")) [] words fills in
    let named : word.0 ≡ codes "absent" = word.3 in
    rw (word.2, named, end_back word.1 word.4) refl

pub name_back : (role : Role) (names : List Text) (name : Text) (words : List Text) → IsNameFor role name → (name ≢ [] → has_name names name ≡ false) → FillsAll (name_places name) words → name_of role names words ≡ Ok name
name_back Disk names [] words is other fills = absent_back names words fills
name_back Disk names (b ∷ bs) words is other fills = named_back Disk names (b ∷ bs) words is (other (λ e. cc)) fills
name_back Spare names [] words is other fills = absurd (no_word is.word)
  where
    no_word : is_word [] ≡ true → ⊥
    no_word h = cc
name_back Spare names (b ∷ bs) words is other fills = named_back Spare names (b ∷ bs) words is (other (λ e. cc)) fills

-- ---- the lines of designs

pub listed_back : (columns b k r lambda : ℕ) (words : List Text) → FillsAll (Number b ∷ Number columns ∷ Number k ∷ Number r ∷ Number lambda ∷ []) words → listed_of columns words ≡ Ok (record { b = b; k = k; r = r; lambda = lambda })
unfolding listed_of after_objects
listed_back columns b k r lambda words fills =
    let one = number_back b (Number columns ∷ Number k ∷ Number r ∷ Number lambda ∷ []) words fills in
    let two = wanted_back columns 4 (Number k ∷ Number r ∷ Number lambda ∷ []) one.0 one.2 in
    let three = number_back k (Number r ∷ Number lambda ∷ []) two.0 two.2 in
    let four = number_back r (Number lambda ∷ []) three.0 three.2 in
    let five = number_back lambda [] four.0 four.2 in
    rw (one.1, two.1, three.1, four.1, five.1, end_back five.0 five.2) refl

pub numbers_back : (front numbers : List ℕ) (words : List Text) → FillsAll (map Number numbers) words → numbers_behind front words ≡ Ok (front ++ numbers)
unfolding numbers_behind with_number
numbers_back front [] [] fills = rw (append-nil front) refl
numbers_back front [] (w ∷ ws) fills = absurd fills
numbers_back front (n ∷ ns) [] fills = absurd fills
numbers_back front (n ∷ ns) (w ∷ ws) (fill, fills) =
    let others = numbers_back (front ++ n ∷ []) ns ws fills in
    rw (is_number w n fill, others) (ap (λ (xs : List ℕ). Ok xs) (append_assoc front (n ∷ []) ns))

tuple_numbers_back : (front numbers : List ℕ) (words : List Text) → FillsAll (map Number numbers) words → tuple_behind (length numbers) front words ≡ Ok (front ++ numbers)
unfolding tuple_behind with_number
tuple_numbers_back front [] [] fills = rw (append-nil front) refl
tuple_numbers_back front [] (w ∷ ws) fills = absurd fills
tuple_numbers_back front (n ∷ ns) [] fills = absurd fills
tuple_numbers_back front (n ∷ ns) (w ∷ ws) (fill, fills) =
    let others = tuple_numbers_back (front ++ n ∷ []) ns ws fills in
    rw (is_number w n fill, others) (ap (λ (xs : List ℕ). Ok xs) (append_assoc front (n ∷ []) ns))

start_is_none : number_of (codes "START") ≡ None
unfolding number_of
start_is_none = refl

-- a number begins no section
not_start : (w : Text) (n : ℕ) → number_of w ≡ Some n → begins w ≡ false
not_start w n h = go (begins w) refl
  where
    go : (b : Bool) → begins w ≡ b → b ≡ false
    go true e = let bad : number_of (codes "START") ≡ Some n = rw (bytes_same w (codes "START") e) at h in absurd (cc (bad, start_is_none))
    go false e = refl

pub tuple_back : (k : ℕ) (front numbers : List ℕ) (words : List Text) → 0 < k → length numbers ≡ k → FillsAll (map Number numbers) words → tuple_of k front words ≡ Ok (front ++ numbers)
unfolding tuple_of first_of next_word
tuple_back k front [] words some count fills = absurd (none k some count)
  where
    none : (k : ℕ) → 0 < k → 0 ≡ k → ⊥
    none k h e = omega (arith, h, e)
tuple_back k front (n ∷ ns) [] some count fills = absurd fills
tuple_back k front (n ∷ ns) (w ∷ ws) some count (fill, fills) =
    let read = tuple_numbers_back front (n ∷ ns) (w ∷ ws) (fill, fills) in
    let all : tuple_behind k front (w ∷ ws) ≡ Ok (front ++ n ∷ ns) = subst (λ (c : ℕ). tuple_behind c front (w ∷ ws) ≡ Ok (front ++ n ∷ ns)) count read in
    rw (not_start w n fill) all

pub cyclic_back : (columns : ℕ) (base : List ℕ) (words : List Text) → 0 < length base → FillsAll (Number columns ∷ Literal (codes ":") ∷ map Number base) words → cyclic_of columns words ≡ Ok (Cyclic columns base)
unfolding cyclic_of after_objects
cyclic_back columns base words some fills =
    let v = wanted_back columns 4 (Literal (codes ":") ∷ map Number base) words fills in
    let colon = literal_back (codes ":") 1 (map Number base) v.0 v.2 in
    rw (v.1, colon.1, numbers_back [] base colon.0 colon.2, there (length base) some) refl
  where
    there : (n : ℕ) → 0 < n → nat_lt 0 n ≡ true
    there n h = grind (arith, nat_tests)

pub complete_back : (columns k : ℕ) (words : List Text) → FillsAll (Number columns ∷ Number k ∷ []) words → complete_of columns words ≡ Ok (Complete columns k)
unfolding complete_of after_objects
complete_back columns k words fills =
    let v = wanted_back columns 4 (Number k ∷ []) words fills in
    let n = number_back k [] v.0 v.2 in
    rw (v.1, n.1, end_back n.0 n.2) refl
