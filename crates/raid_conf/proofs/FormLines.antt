-- A line that was read, and which places its words fill.
use Rattle.std.proofs.Common.{◌≡◌, ◌∙◌, ℕ, zero, suc, ◌+◌, ◌<◌, ◌≤◌, ◌^◌, Bool, true, false, cond, List, [], ◌∷◌, ◌++◌, length, map, Option, Some, None, Result, Ok, Err, refl, sym, ap, subst, append_assoc, append-nil, arith, All, ◌⊎◌, inl, inr}
use Rattle.std.specs.Prelude.{◌≢◌, ◌&&◌, IsTrue, not, codes, nat_eq, nat_le, nat_lt}
use Rattle.std.specs.List.{list_all}
use Rattle.std.specs.Str.{bytes_eq}
use Rattle.std.proofs.lemmas.Bool.{and_parts, eqb-true, leb-true, ltb-true}
use Rattle.std.proofs.lemmas.List.Elements.{All-cons, All-nil}
use Rattle.raid_text.specs.Text.{Text, is_word, number_of}
use Rattle.raid_conf.specs.declared.given.Given.{Given}
use Rattle.raid_conf.specs.declared.given.Given.TheVariants.{Listed, Cyclic, Complete}
use Rattle.raid_conf.specs.declared.role.Role.{Role}
use Rattle.raid_conf.specs.declared.role.Role.TheVariants.{Disk, Spare}
use Rattle.raid_conf.specs.Levels.{allows, is_level}
use Rattle.raid_conf.specs.Sections.{absent_as, array_of, complete_of, count_code, counts_of, Counts, cyclic_of, first_of, layout_of, level_in, listed_of, name_in, name_of, numbers_behind, pass_start, queue_begins, queue_of, spares_begin, start_of, tuple_behind, tuple_of, with_number}
use Rattle.raid_conf.specs.Steps.{after_objects, begins, has_name, may_be_columns, new_name, queue_or_debug, spare_or_layout}
use Rattle.text_steps.specs.Steps.{◌>>=◌, after_number, after_word, at_end, next_number, next_word, number_in, only_if}
use Rattle.raid_conf.specs.Form.{Place, Literal, Number, Fills, FillsAll, array_places, disk_word, IsDiskName, IsName, IsWordGiven, layout_places, name_places, start_places}
use Rattle.raid_conf.proofs.OneStep.{between, bind_ok, bytes_same, end_fills, end_is, literal_fills, literal_is, NumberRead, number_fills, number_is, number_read, number_small, ok_pair, ok_same, only_ok, same_bytes, wanted_read, words_are}

-- ---- lines that begin sections

start_is : (code : ℕ) (words : List Text) (name : Text) (behind : List Text) → start_of code words ≡ Ok (name, behind) → words ≡ codes "START" ∷ name ∷ behind
unfolding start_of
start_is code words name behind h =
    let first = bind_ok (after_word (codes "START") code words) next_word (name, behind) h in
    literal_is (codes "START") code words first.0 first.1 ∙ ap (λ (ws : List Text). codes "START" ∷ ws) (words_are first.0 name behind first.2)

pub start_fills : (code : ℕ) (name : Text) (words : List Text) (x : Unit {0}) → pass_start code name words ≡ Ok x → FillsAll (start_places name) words
unfolding pass_start
start_fills code name words x h =
    let start = bind_ok (start_of code words) _ x h in
    let named = bind_ok (only_if (bytes_eq start.0.0 name) 3) _ x start.2 in
    let same = bytes_same start.0.0 name (only_ok (bytes_eq start.0.0 name) 3 named.0 named.1) in
    rw (start_is code words start.0.0 start.0.1 start.1) (refl, (same, end_fills start.0.1 x named.2))

-- the end of a line that begins a section, with the answer that it gives
named_end : (name text : Text) (words : List Text) (b answer : Bool) → bytes_eq name text ≡ true → (at_end words >>= λ end. Ok b) ≡ Ok answer → (b ≡ answer) × FillsAll (Literal text ∷ []) (name ∷ words)
named_end name text words b answer same h =
    let end = bind_ok (at_end words) _ answer h in
    (ok_same b answer end.2, (bytes_same name text same, end_fills words end.0 end.1))

-- behind the disks the section of the spares begins, or that of the layout, where there are no spares
abbrev pub SparesBegin : Bool → ℕ → List Text → Type 0
SparesBegin true spares words = FillsAll (start_places (codes "spare")) words
SparesBegin false spares words = FillsAll (start_places (codes "layout")) words × (spares ≡ 0)

pub spares_begun : (spares : ℕ) (words : List Text) (present : Bool) → spares_begin spares words ≡ Ok present → SparesBegin present spares words
unfolding spares_begin spare_or_layout
spares_begun spares words present h =
    let start = bind_ok (start_of 5 words) _ present h in
    let split = start_is 5 words start.0.0 start.0.1 start.1 in
    spare start.0.0 start.0.1 split (bytes_eq start.0.0 (codes "spare")) refl start.2
  where
    none_text : (spares : ℕ) (name : Text) (behind : List Text) → Result Bool ℕ
    none_text spares name behind = cond (bytes_eq name (codes "layout")) (only_if (nat_eq spares 0) 6 >>= λ none. at_end behind >>= λ end. Ok false) (Err 3)

    layout : (name : Text) (behind : List Text) → words ≡ codes "START" ∷ name ∷ behind → (b : Bool) → bytes_eq name (codes "layout") ≡ b
        → cond b (only_if (nat_eq spares 0) 6 >>= λ none. at_end behind >>= λ end. Ok false) (Err 3) ≡ Ok present → SparesBegin present spares words
    layout name behind split true e r =
        let none = bind_ok (only_if (nat_eq spares 0) 6) _ present r in
        let end = named_end name (codes "layout") behind false present e none.2 in
        subst (λ (b : Bool). SparesBegin b spares words) end.0 (rw split (refl, end.1), eqb-true spares 0 (only_ok (nat_eq spares 0) 6 none.0 none.1))
    layout name behind split false e r = absurd (cc)

    spare : (name : Text) (behind : List Text) → words ≡ codes "START" ∷ name ∷ behind → (b : Bool) → bytes_eq name (codes "spare") ≡ b
        → cond b (at_end behind >>= λ end. Ok true) (none_text spares name behind) ≡ Ok present → SparesBegin present spares words
    spare name behind split true e r =
        let end = named_end name (codes "spare") behind true present e r in
        subst (λ (b : Bool). SparesBegin b spares words) end.0 (rw split (refl, end.1))
    spare name behind split false e r = layout name behind split (bytes_eq name (codes "layout")) refl r

-- behind the layout the section of the queue begins, or that of the debug lines
abbrev pub QueueBegins : Bool → List Text → Type 0
QueueBegins true words = FillsAll (start_places (codes "queue")) words
QueueBegins false words = FillsAll (start_places (codes "debug")) words

pub queue_begun : (words : List Text) (present : Bool) → queue_begins words ≡ Ok present → QueueBegins present words
unfolding queue_begins queue_or_debug
queue_begun words present h =
    let start = bind_ok (start_of 1 words) _ present h in
    queue start.0.0 start.0.1 (start_is 1 words start.0.0 start.0.1 start.1) (bytes_eq start.0.0 (codes "queue")) refl start.2
  where
    debug : (name : Text) (behind : List Text) → words ≡ codes "START" ∷ name ∷ behind → (b : Bool) → bytes_eq name (codes "debug") ≡ b
        → cond b (at_end behind >>= λ end. Ok false) (Err 3) ≡ Ok present → QueueBegins present words
    debug name behind split true e r =
        let end = named_end name (codes "debug") behind false present e r in
        subst (λ (b : Bool). QueueBegins b words) end.0 (rw split (refl, end.1))
    debug name behind split false e r = absurd (cc)

    queue : (name : Text) (behind : List Text) → words ≡ codes "START" ∷ name ∷ behind → (b : Bool) → bytes_eq name (codes "queue") ≡ b
        → cond b (at_end behind >>= λ end. Ok true) (cond (bytes_eq name (codes "debug")) (at_end behind >>= λ end. Ok false) (Err 3)) ≡ Ok present → QueueBegins present words
    queue name behind split true e r =
        let end = named_end name (codes "queue") behind true present e r in
        subst (λ (b : Bool). QueueBegins b words) end.0 (rw split (refl, end.1))
    queue name behind split false e r = debug name behind split (bytes_eq name (codes "debug")) refl r

-- ---- the array's line

-- the columns and spares that a line's numbers are, the first two of which fill the front
record CountsRead (first second : ℕ) (words : List Text) (columns spares : ℕ) : Type 0 where
  short : Bool
  least : 1 ≤ columns
  most : columns ≤ 32
  few : spares ≤ 8
  fills : (one two : Text) → number_of one ≡ Some first → number_of two ≡ Some second → FillsAll (array_places short columns spares) (one ∷ two ∷ words)

counts_fill : (first second : ℕ) (words : List Text) (columns spares : ℕ) → may_be_columns first ≡ true → counts_of first second words ≡ Ok (columns, spares) → CountsRead first second words columns spares
unfolding counts_of
counts_fill first second [] columns spares may h =
    let few = bind_ok (only_if (nat_le second 8) 2) _ (columns, spares) h in
    let both = ok_pair first columns second spares few.2 in
    let range = between 1 first 32 may in
    record {
      short = true;
      least = rw both.0 at range.0;
      most = rw both.0 at range.1;
      few = rw both.1 at (leb-true second 8 (only_ok (nat_le second 8) 2 few.0 few.1));
      fills = λ one two first_is second_is. (rw both.0 at first_is, (rw both.1 at second_is, tt));
    }
counts_fill first second (word ∷ words) columns spares may h =
    let row = bind_ok (only_if (nat_eq first 1) 2) _ (columns, spares) h in
    let range = bind_ok (only_if (may_be_columns second) 2) _ (columns, spares) row.2 in
    let third = bind_ok (number_in word) _ (columns, spares) range.2 in
    let few = bind_ok (only_if (nat_le third.0 8) 2) _ (columns, spares) third.2 in
    let end = bind_ok (at_end words) _ (columns, spares) few.2 in
    let both = ok_pair second columns third.0 spares end.2 in
    let one_row : first ≡ 1 = eqb-true first 1 (only_ok (nat_eq first 1) 2 row.0 row.1) in
    let within = between 1 second 32 (only_ok (may_be_columns second) 2 range.0 range.1) in
    record {
      short = false;
      least = rw both.0 at within.0;
      most = rw both.0 at within.1;
      few = rw both.1 at (leb-true third.0 8 (only_ok (nat_le third.0 8) 2 few.0 few.1));
      fills = λ one two first_is second_is. (rw one_row at first_is, (rw both.0 at second_is, (rw both.1 at (number_is word third.0 third.1), end_fills words end.0 end.1)));
    }

pub record ArrayRead (words : List Text) (columns spares : ℕ) : Type 0 where
  pub short : Bool
  pub least : 1 ≤ columns
  pub most : columns ≤ 32
  pub few : spares ≤ 8
  pub fills : FillsAll (array_places short columns spares) words

pub array_fills : (words : List Text) (columns spares : ℕ) → array_of words ≡ Ok (columns, spares) → ArrayRead words columns spares
unfolding array_of
array_fills words columns spares h =
    let first = bind_ok (next_number words) _ (columns, spares) h in
    let may = bind_ok (only_if (may_be_columns first.0.0) 2) _ (columns, spares) first.2 in
    let second = bind_ok (next_number first.0.1) _ (columns, spares) may.2 in
    let one = number_read words first.0.0 first.0.1 first.1 in
    let two = number_read first.0.1 second.0.0 second.0.1 second.1 in
    let counts = counts_fill first.0.0 second.0.0 second.0.1 columns spares (only_ok (may_be_columns first.0.0) 2 may.0 may.1) second.2 in
    let split : words ≡ one.word ∷ two.word ∷ second.0.1 = one.split ∙ ap (λ (ws : List Text). one.word ∷ ws) two.split in
    record {
      short = counts.short;
      least = counts.least;
      most = counts.most;
      few = counts.few;
      fills = subst (λ (ws : List Text). FillsAll (array_places counts.short columns spares) ws) (sym split) (counts.fills one.word two.word one.number two.number);
    }

-- ---- names

-- a name for a disk or a spare
abbrev pub IsNameFor : Role → Text → Type 0
IsNameFor Disk name = IsDiskName name
IsNameFor Spare name = IsName name

pub record NameRead (role : Role) (names words : List Text) (name : Text) : Type 0 where
  pub is : IsNameFor role name
  pub other : (has_name names name ≡ false) ⊎ (name ≡ [])
  pub fills : FillsAll (name_places name) words

not_true : (b : Bool) → not b ≡ true → b ≡ false
not_true true h = cc
not_true false h = refl

other_bytes : (a b : Text) → bytes_eq a b ≡ false → a ≢ b
other_bytes a b h = λ e. cc (h, same_bytes b, e)

-- a word that isn't empty is the word of the disk that it names
disk_word_is : (word : Text) → is_word word ≡ true → disk_word word ≡ word
disk_word_is [] h = absurd (cc)
disk_word_is (b ∷ bs) h = refl

for_role : (role : Role) (word : Text) → is_word word ≡ true → IsName word → IsNameFor role word
for_role Disk [] some is = absurd (cc)
for_role Disk (b ∷ bs) some is = is
for_role Spare word some is = is

-- what a word names
record WordRead (role : Role) (names : List Text) (word name : Text) : Type 0 where
  is : IsNameFor role name
  other : (has_name names name ≡ false) ⊎ (name ≡ [])
  same : word ≡ disk_word name

absent_read : (role : Role) (names : List Text) (word name : Text) → bytes_eq word (codes "absent") ≡ true → absent_as role ≡ Ok name → WordRead role names word name
absent_read Disk names word name same h =
    let none : [] ≡ name = ok_same [] name h in
    subst (λ (n : Text). WordRead Disk names word n) none (record { is = tt; other = inr refl; same = bytes_same word (codes "absent") same })
absent_read Spare names word name same h = absurd (cc)

name_read : (role : Role) (names : List Text) (word name : Text) → is_word word ≡ true → begins word ≡ false → name_in role names word ≡ Ok name → WordRead role names word name
unfolding name_in new_name has_name
name_read role names word name some goes_on h = go (bytes_eq word (codes "absent")) refl h
  where
    go : (b : Bool) → bytes_eq word (codes "absent") ≡ b → cond b (absent_as role) (only_if (nat_le (length word) 255 && not (has_name names word)) 7 >>= λ fits. Ok word) ≡ Ok name → WordRead role names word name
    go true e r = absent_read role names word name e r
    go false e r =
        let fits = bind_ok (only_if (nat_le (length word) 255 && not (has_name names word)) 7) _ name r in
        let both = and_parts (nat_le (length word) 255) (not (has_name names word)) (only_ok _ 7 fits.0 fits.1) in
        let is : IsName word = record { word = some; short = leb-true (length word) 255 both.0; present = other_bytes word (codes "absent") e; no_start = other_bytes word (codes "START") goes_on } in
        subst (λ (n : Text). WordRead role names word n) (ok_same word name fits.2) (record { is = for_role role word some is; other = inl (not_true (has_name names word) both.1); same = sym (disk_word_is word some) })

first_is_word : (word : Text) (words : List Text) → list_all is_word (word ∷ words) ≡ true → is_word word ≡ true
first_is_word word words h = (and_parts (is_word word) (list_all is_word words) h).0

pub name_fills : (role : Role) (names words : List Text) (name : Text) → list_all is_word words ≡ true → name_of role names words ≡ Ok name → NameRead role names words name
unfolding name_of
name_fills role names words name sound h =
    let word = bind_ok (next_word words) _ name h in
    let goes_on = bind_ok (only_if (not (begins word.0.0)) (count_code role)) _ name word.2 in
    let named = bind_ok (name_in role names word.0.0) _ name goes_on.2 in
    let end = bind_ok (at_end word.0.1) _ name named.2 in
    let split = words_are words word.0.0 word.0.1 word.1 in
    let some = first_is_word word.0.0 word.0.1 (rw split at sound) in
    let same : named.0 ≡ name = ok_same named.0 name end.2 in
    let read = name_read role names word.0.0 name some (not_true (begins word.0.0) (only_ok (not (begins word.0.0)) (count_code role) goes_on.0 goes_on.1)) (named.1 ∙ ap (λ (n : Text). Ok n) same) in
    record { is = read.is; other = read.other; fills = rw split (read.same, end_fills word.0.1 end.0 end.1) }
