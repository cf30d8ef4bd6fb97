-- What is written is read again.
use Rattle.std.proofs.Common.{◌≡◌, ◌⊎◌, inl, inr, ◌∙◌, ap, ap₂, ℕ, zero, suc, ◌==◌, ◌&&◌, ◌++◌, Bool, true, false, List, [], ◌∷◌, take, drop, length, replicate, refl, sym, nat_le, Some, None, le-leb, arith}
use Rattle.std.specs.Prelude.{if◌then◌else◌, ◌||◌, not}
use Rattle.std.specs.Int.{w32, from_le_bytes}
use Rattle.std.specs.List.{list_all}
use Rattle.std.proofs.lemmas.Bool.{ne_eqb}
use Rattle.std.proofs.lemmas.List.{take_at, drop_at, drop-drop}
use Rattle.std.proofs.lemmas.Nat.{from_le_bytes-to_le_bytes_4}
use Rattle.raid_label.specs.declared.label.Label.{Label}
use Rattle.raid_label.specs.Bytes.{bytes_of, label_in, fields_of, word_at, has_magic, is_well_formed, IsHeld, IsInRange}
use Rattle.raid_label.specs.Steps.{filling_of, is_first, is_second, bytes_of_words, names_filling}
use Rattle.raid_label.proofs.WordLaws.{same_label, all_zero}

seats_of : (l : Label) → length l.seats ≡ 32 → take 32 (drop 60 (bytes_of l)) ≡ l.seats
unfolding bytes_of
seats_of l long = take_at l.seats (bytes_of_words (filling_of l) ++ replicate 412 0) 32 long

behind : (l : Label) → length l.seats ≡ 32 → drop 92 (bytes_of l) ≡ bytes_of_words (filling_of l) ++ replicate 412 0
unfolding bytes_of
behind l long = drop_at l.seats (bytes_of_words (filling_of l) ++ replicate 412 0) 32 long

filling_is : (l : Label) → IsInRange l → word_at (bytes_of l) 92 ≡ l.filling
unfolding word_at
filling_is l in_range = ap (λ t. from_le_bytes w32 (take 4 t)) (behind l in_range.seats) ∙ from_le_bytes-to_le_bytes_4 l.filling in_range.filling

done_is : (l : Label) → IsInRange l → word_at (bytes_of l) 96 ≡ l.done
unfolding word_at
done_is l in_range =
    ap (λ t. from_le_bytes w32 (take 4 t)) (sym (drop-drop 4 92 (bytes_of l)) ∙ ap (drop 4) (behind l in_range.seats)) ∙ from_le_bytes-to_le_bytes_4 l.done in_range.done

zeros_of : (l : Label) → IsInRange l → drop 100 (bytes_of l) ≡ replicate 412 0
zeros_of l in_range = sym (drop-drop 8 92 (bytes_of l)) ∙ ap (drop 8) (behind l in_range.seats)

fields_are_read : (l : Label) → IsInRange l → fields_of (bytes_of l) ≡ l
unfolding fields_of word_at bytes_of
fields_are_read l in_range = same_label (from_le_bytes-to_le_bytes_4 l.version in_range.version) (from_le_bytes-to_le_bytes_4 l.serial in_range.serial) (from_le_bytes-to_le_bytes_4 l.counter in_range.counter) (from_le_bytes-to_le_bytes_4 l.column in_range.column) (from_le_bytes-to_le_bytes_4 l.columns in_range.columns) (from_le_bytes-to_le_bytes_4 l.unit in_range.unit) (from_le_bytes-to_le_bytes_4 l.rows in_range.rows) (from_le_bytes-to_le_bytes_4 l.level in_range.level) (from_le_bytes-to_le_bytes_4 l.clean in_range.clean) (from_le_bytes-to_le_bytes_4 l.b in_range.b) (from_le_bytes-to_le_bytes_4 l.k in_range.k) (from_le_bytes-to_le_bytes_4 l.r in_range.r) (from_le_bytes-to_le_bytes_4 l.lambda in_range.lambda) (seats_of l in_range.seats) (filling_is l in_range) (done_is l in_range)

magic_is : (l : Label) → has_magic (bytes_of l) ≡ true
unfolding has_magic bytes_of
magic_is l = refl

version_is : (l : Label) → IsInRange l → word_at (bytes_of l) 8 ≡ l.version
unfolding word_at bytes_of
version_is l in_range = from_le_bytes-to_le_bytes_4 l.version in_range.version

columns_is : (l : Label) → IsInRange l → word_at (bytes_of l) 24 ≡ l.columns
unfolding word_at bytes_of
columns_is l in_range = from_le_bytes-to_le_bytes_4 l.columns in_range.columns

clean_is : (l : Label) → IsInRange l → IsHeld l → nat_le (word_at (bytes_of l) 40) 1 ≡ true
unfolding word_at bytes_of
clean_is l in_range held = ap (λ (n : ℕ). nat_le n 1) (from_le_bytes-to_le_bytes_4 l.clean in_range.clean) ∙ le-leb l.clean 1 held.clean

and_true : (a b : Bool) → a ≡ true → b ≡ true → (a && b) ≡ true
and_true true b p q = q
and_true false b p q = p

or_left : (a b : Bool) → a ≡ true → (a || b) ≡ true
or_left true b p = refl
or_left false b p = cc

or_right : (a b : Bool) → b ≡ true → (a || b) ≡ true
or_right true b p = refl
or_right false b p = p

-- in version 1 both numbers are 0
first_is : (l : Label) → IsInRange l → IsHeld l → l.version ≡ 1 → is_first (bytes_of l) ≡ true
first_is l in_range held one =
    let filling : l.filling ≡ 0 = held.first one in
    let none : filling_of l ≡ 0 ∷ 0 ∷ [] = ap₂ (λ (a b : ℕ). a ∷ b ∷ []) filling (held.done filling) in
    and_true (word_at (bytes_of l) 8 == 1) _ (ap (λ (n : ℕ). n == 1) (version_is l in_range ∙ one))
    (ap (list_all (λ b. b == 0)) (behind l in_range.seats ∙ ap (λ (ws : List ℕ). bytes_of_words ws ++ replicate 412 0) none) ∙ all_zero 412)

no_done : (f d : ℕ) → (f ≡ 0 → d ≡ 0) → (not (f == 0) || d == 0) ≡ true
no_done zero d none = ap (λ (n : ℕ). n == 0) (none refl)
no_done (suc f) d none = ap (λ (b : Bool). not b || d == 0) (ne_eqb (suc f) 0 (λ e. absurd (omega (arith, e))))

names : (l : Label) → IsInRange l → IsHeld l → names_filling (bytes_of l) ≡ true
unfolding names_filling
names l in_range held =
    and_true _ _ (ap₂ nat_le (filling_is l in_range) (columns_is l in_range) ∙ le-leb l.filling l.columns held.filling)
    (ap₂ (λ (f d : ℕ). not (f == 0) || d == 0) (filling_is l in_range) (done_is l in_range) ∙ no_done l.filling l.done held.done)

second_is : (l : Label) → IsInRange l → IsHeld l → l.version ≡ 2 → is_second (bytes_of l) ≡ true
second_is l in_range held two =
    and_true _ _ (and_true (word_at (bytes_of l) 8 == 2) _ (ap (λ (n : ℕ). n == 2) (version_is l in_range ∙ two)) (names l in_range held))
    (ap (list_all (λ b. b == 0)) (zeros_of l in_range) ∙ all_zero 412)

by_version : (l : Label) → IsInRange l → IsHeld l → (l.version ≡ 1) ⊎ (l.version ≡ 2) → (is_first (bytes_of l) || is_second (bytes_of l)) ≡ true
by_version l in_range held (inl one) = or_left (is_first (bytes_of l)) _ (first_is l in_range held one)
by_version l in_range held (inr two) = or_right (is_first (bytes_of l)) _ (second_is l in_range held two)

is_formed : (l : Label) → IsInRange l → IsHeld l → is_well_formed (bytes_of l) ≡ true
unfolding is_well_formed names_filling
is_formed l in_range held = and_true _ _ (and_true _ _ (magic_is l) (clean_is l in_range held)) (by_version l in_range held held.version)

pub label_is_read : (l : Label) → IsInRange l → IsHeld l → label_in (bytes_of l) ≡ Some l
unfolding label_in
label_is_read l in_range held =
    ap (λ (b : Bool). if b then Some (fields_of (bytes_of l)) else None) (is_formed l in_range held) ∙ ap Some (fields_are_read l in_range)
