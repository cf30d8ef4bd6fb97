-- A sector that holds a label is the bytes of that label.
use Rattle.std.proofs.Common.{◌≡◌, ◌⊎◌, inl, inr, ◌∙◌, ap, ap₂, subst, ℕ, zero, suc, ◌+◌, ◌*◌, ◌<◌, ◌≤◌, ◌==◌, ◌&&◌, Bool, true, false, List, [], ◌∷◌, ◌++◌, take, drop, length, get_or, replicate, refl, sym, arith, append_assoc, nat_le, Some, None, length-drop}
use Rattle.std.specs.Prelude.{if◌then◌else◌, ◌||◌, not}
use Rattle.std.specs.List.{list_all}
use Rattle.std.specs.Int.{w32, from_le_bytes, to_le_bytes}
use Rattle.std.proofs.lemmas.Bool.{eqb-true, leb-true}
use Rattle.std.proofs.lemmas.List.{get_or-drop, take-append-drop, drop-drop, length-take}
use Rattle.std.proofs.lemmas.Nat.{le_bytes_4}
use Rattle.std.proofs.lemmas.Slice.Eq.{bytes_eq-Decides}
use Rattle.raid_label.specs.declared.label.Label.{Label}
use Rattle.raid_label.specs.Bytes.{bytes_of, label_in, fields_of, word_at, has_magic, is_well_formed, IsHeld, IsSector}
use Rattle.raid_label.specs.Steps.{magic, is_first, is_second, bytes_of_words, has_zeros, names_filling}

-- the numbers that stand one behind the other
abbrev words_from : List ℕ → ℕ → ℕ → List ℕ
words_from s at zero = []
words_from s at (suc n) = word_at s at ∷ words_from s (at + 4) n

cut : (s : List ℕ) (at n : ℕ) → drop at s ≡ take n (drop at s) ++ drop (at + n) s
cut s at n = sym (take-append-drop n (drop at s)) ∙ ap (λ (l : List ℕ). take n (drop at s) ++ l) (drop-drop n at s)

small_part : (s : List ℕ) (n i : ℕ) → ((k : ℕ) → get_or s k 0 < 256) → get_or (take n s) i 0 < 256
small_part [] zero i small = omega arith
small_part [] (suc n) i small = omega arith
small_part (x ∷ s) zero i small = omega arith
small_part (x ∷ s) (suc n) zero small = small 0
small_part (x ∷ s) (suc n) (suc i) small = small_part s n i (λ k. small (suc k))

word_bytes : (s : List ℕ) (at : ℕ) → IsSector s → at + 4 ≤ 512 → to_le_bytes w32 (word_at s at) ≡ take 4 (drop at s)
unfolding word_at
word_bytes s at sector fits =
    le_bytes_4 (take 4 (drop at s)) _ (omega (arith, length-take 4 (drop at s), length-drop at s, sector.long)) (λ i. small_part (drop at s) 4 i (λ k. omega (arith, get_or-drop at s k 0, sector.bytes (at + k)))) refl

words_cut : (s : List ℕ) (n at : ℕ) → IsSector s → at + 4 * n ≤ 512 → drop at s ≡ bytes_of_words (words_from s at n) ++ drop (at + 4 * n) s
words_cut s zero at sector fits = let none : at + 4 * 0 ≡ at = omega arith in rw none refl
words_cut s (suc n) at sector fits =
    let next : at + 4 + 4 * n ≡ at + 4 * suc n = omega arith in
    let rest = words_cut s n (at + 4) sector (omega arith) in
    let word = word_bytes s at sector (omega arith) in
    cut s at 4 ∙ (ap₂ (λ (a b : List ℕ). a ++ b) (sym word) (rest ∙ ap (λ (k : ℕ). bytes_of_words (words_from s (at + 4) n) ++ drop k s) next)
    ∙ sym (append_assoc (to_le_bytes w32 (word_at s at)) (bytes_of_words (words_from s (at + 4) n)) (drop (at + 4 * suc n) s)))

and_both : (a b : Bool) → (a && b) ≡ true → (a ≡ true) × (b ≡ true)
and_both true b h = (refl, h)
and_both false b h = cc

zeros_are : (xs : List ℕ) (n : ℕ) → length xs ≡ n → list_all (λ b. b == 0) xs ≡ true → xs ≡ replicate n 0
zeros_are [] zero long h = refl
zeros_are [] (suc n) long h = absurd (omega arith)
zeros_are (x ∷ xs) zero long h = absurd (omega arith)
zeros_are (x ∷ xs) (suc n) long h =
    let two = and_both (x == 0) (list_all (λ b. b == 0) xs) h in
    ap₂ (λ (y : ℕ) (ys : List ℕ). y ∷ ys) (eqb-true x 0 two.0) (zeros_are xs n (omega arith) two.1)

-- the whole of a sector, by its parts
whole : (s : List ℕ) → IsSector s → take 8 s ≡ magic → drop 100 s ≡ replicate 412 0 → s ≡ bytes_of (fields_of s)
unfolding bytes_of fields_of
whole s sector front back =
    sym (take-append-drop 8 s) ∙ ap₂ (λ (a b : List ℕ). a ++ b) front
    (words_cut s 13 8 sector (omega arith) ∙ ap (λ (t : List ℕ). bytes_of_words (words_from s 8 13) ++ t)
    (cut s 60 32 ∙ ap (λ (t : List ℕ). take 32 (drop 60 s) ++ t)
    (words_cut s 2 92 sector (omega arith) ∙ ap (λ (t : List ℕ). bytes_of_words (words_from s 92 2) ++ t) back)))

magic_is : (s : List ℕ) → has_magic s ≡ true → take 8 s ≡ magic
unfolding has_magic
magic_is s h = (bytes_eq-Decides (take 8 s) magic).0 h

or_either : (a b : Bool) → (a || b) ≡ true → (a ≡ true) ⊎ (b ≡ true)
or_either true b h = inl refl
or_either false b h = inr h

-- what is so of the numbers of a sector is so of the fields
held_is : (s : List ℕ) → (word_at s 8 ≡ 1) ⊎ (word_at s 8 ≡ 2) → word_at s 40 ≤ 1 → word_at s 92 ≤ word_at s 24 → (word_at s 92 ≡ 0 → word_at s 96 ≡ 0) → (word_at s 8 ≡ 1 → word_at s 92 ≡ 0) → IsHeld (fields_of s)
unfolding fields_of
held_is s version clean filling done first = record { version = version; clean = clean; filling = filling; done = done; first = first }

-- zeros stand for the number 0
zero_number : (n : ℕ) → from_le_bytes w32 (take 4 (replicate n 0)) ≡ 0
zero_number zero = refl
zero_number (suc zero) = refl
zero_number (suc (suc zero)) = refl
zero_number (suc (suc (suc zero))) = refl
zero_number (suc (suc (suc (suc n)))) = refl

zero_word : (s : List ℕ) (at : ℕ) → has_zeros s at ≡ true → word_at s at ≡ 0
unfolding word_at
zero_word s at h = ap (λ t. from_le_bytes w32 (take 4 t)) (zeros_are (drop at s) (length (drop at s)) refl h) ∙ zero_number (length (drop at s))

all_behind : (xs : List ℕ) (k : ℕ) → list_all (λ b. b == 0) xs ≡ true → list_all (λ b. b == 0) (drop k xs) ≡ true
all_behind xs zero h = h
all_behind [] (suc k) h = refl
all_behind (x ∷ xs) (suc k) h = all_behind xs k (and_both (x == 0) (list_all (λ b. b == 0) xs) h).1

module _ (s : List ℕ) where
  -- so they do further on
  zeros_behind : (at k : ℕ) → has_zeros s at ≡ true → has_zeros s (at + k) ≡ true
  zeros_behind at k h = ap (list_all (λ b. b == 0)) (sym (drop-drop k at s)) ∙ all_behind (drop at s) k h

  -- version 1
  first : word_at s 40 ≤ 1 → is_first s ≡ true → IsHeld (fields_of s) × (has_zeros s 100 ≡ true)
  first clean h =
      let both = and_both (word_at s 8 == 1) (has_zeros s 92) h in
      let filling : word_at s 92 ≡ 0 = zero_word s 92 both.1 in
      let done : word_at s 96 ≡ 0 = zero_word s 96 (zeros_behind 92 4 both.1) in (
        held_is s (inl (eqb-true (word_at s 8) 1 both.0)) clean (omega (arith, filling)) (λ z. done) (λ v. filling),
        zeros_behind 92 8 both.1,
      )

  none_done : (f d : ℕ) → (not (f == 0) || d == 0) ≡ true → f ≡ 0 → d ≡ 0
  none_done zero d h z = eqb-true d 0 h
  none_done (suc f) d h z = absurd (omega (arith, z))

  names : names_filling s ≡ true → (word_at s 92 ≤ word_at s 24) × (word_at s 92 ≡ 0 → word_at s 96 ≡ 0)
  unfolding names_filling
  names h =
      let both = and_both (nat_le (word_at s 92) (word_at s 24)) (not (word_at s 92 == 0) || word_at s 96 == 0) h in
      (leb-true (word_at s 92) (word_at s 24) both.0, λ none. none_done (word_at s 92) (word_at s 96) both.1 none)

  -- version 2
  second : word_at s 40 ≤ 1 → is_second s ≡ true → IsHeld (fields_of s) × (has_zeros s 100 ≡ true)
  second clean h =
      let outer = and_both (word_at s 8 == 2 && names_filling s) (has_zeros s 100) h in
      let inner = and_both (word_at s 8 == 2) (names_filling s) outer.0 in
      let two : word_at s 8 ≡ 2 = eqb-true (word_at s 8) 2 inner.0 in
      let named = names inner.1 in
      (held_is s (inr two) clean named.0 named.1 (λ one. absurd (omega (arith, one, two))), outer.1)

  by_version : word_at s 40 ≤ 1 → (is_first s ≡ true) ⊎ (is_second s ≡ true) → IsHeld (fields_of s) × (has_zeros s 100 ≡ true)
  by_version clean (inl h) = first clean h
  by_version clean (inr h) = second clean h

  formed : is_well_formed s ≡ true → (has_magic s ≡ true) × IsHeld (fields_of s) × (has_zeros s 100 ≡ true)
  unfolding is_well_formed names_filling
  formed h =
      let outer = and_both (has_magic s && nat_le (word_at s 40) 1) (is_first s || is_second s) h in
      let inner = and_both (has_magic s) (nat_le (word_at s 40) 1) outer.0 in
      let held = by_version (leb-true (word_at s 40) 1 inner.1) (or_either (is_first s) (is_second s) outer.1) in
      (inner.0, held.0, held.1)

label_formed : (s : List ℕ) (l : Label) → label_in s ≡ Some l → (is_well_formed s ≡ true) × (fields_of s ≡ l)
unfolding label_in
label_formed s l h = go (is_well_formed s) refl h
  where
    go : (b : Bool) → is_well_formed s ≡ b → (if b then Some (fields_of s) else None) ≡ Some l → (is_well_formed s ≡ true) × (fields_of s ≡ l)
    go true e h = (e, let same : fields_of s ≡ l = cc in same)
    go false e h = cc

pub label_is_held : (s : List ℕ) (l : Label) → label_in s ≡ Some l → IsHeld l
label_is_held s l h = let f = label_formed s l h in subst IsHeld f.1 (formed s f.0).1

pub sector_is_written : (s : List ℕ) (l : Label) → IsSector s → label_in s ≡ Some l → s ≡ bytes_of l
sector_is_written s l sector h =
    let f = label_formed s l h in
    let w = formed s f.0 in
    whole s sector (magic_is s w.0) (zeros_are (drop 100 s) 412 (omega (arith, length-drop 100 s, sector.long)) w.2) ∙ ap bytes_of f.1
