use Rattle.std.proofs.Common.{◌≡◌, ◌∙◌, ℕ, ◌<◌, ◌≤◌, ◌+◌, ◌-◌, Bool, true, false, not, ltb, List, [], ◌∷◌, length, refl, sym, ap, arith, take, drop, zero, suc, filter, eqb, ◌&&◌}
use Rattle.std.specs.Prelude.{nat_le, nat_lt, slice_get, Option, None}
use Rattle.std.proofs.lemmas.Option.{slice_get_past}
use Rattle.std.specs.List.{before_first, after_first, position_or_len, slice_split, list_all, onto_first}
use Rattle.std.proofs.lemmas.Bool.{and_parts, cond_both, eqb-true, leb-false, leb-true, le-leb, lt-leb, ltb-false}
use Rattle.std.proofs.lemmas.List.{length-take, take_rest}
use Rattle.std.proofs.lemmas.List.Splits.{slice_split_first}
use Rattle.std.proofs.Math.Seq.{drop-length}
use Rattle.raid_text.specs.Text.{Text, is_blank, is_sound, is_word, is_word_byte, words_of}
use Rattle.raid_text.specs.Steps.{may_stand}
use Rattle.raid_text.proofs.LineCuts.{whole}

abbrev other : ℕ → Bool
other b = not (is_blank b)

-- blanks before the first word make no word, and it begins where they end
pub skip : (body : Text) → (words_of (drop (position_or_len (λ b. not (is_blank b)) body) body) ≡ words_of body)
    × (0 < length (drop (position_or_len (λ b. not (is_blank b)) body) body) → 0 < position_or_len is_blank (drop (position_or_len (λ b. not (is_blank b)) body) body))
unfolding words_of
skip [] = (refl, λ h. absurd (omega arith))
skip (b ∷ bs) = go (is_blank b) refl (skip bs)
  where
    go : (v : Bool) → is_blank b ≡ v → (words_of (drop (position_or_len (λ b. not (is_blank b)) bs) bs) ≡ words_of bs)
        × (0 < length (drop (position_or_len (λ b. not (is_blank b)) bs) bs) → 0 < position_or_len is_blank (drop (position_or_len (λ b. not (is_blank b)) bs) bs))
        → (words_of (drop (position_or_len (λ b. not (is_blank b)) (b ∷ bs)) (b ∷ bs)) ≡ words_of (b ∷ bs))
        × (0 < length (drop (position_or_len (λ b. not (is_blank b)) (b ∷ bs)) (b ∷ bs)) → 0 < position_or_len is_blank (drop (position_or_len (λ b. not (is_blank b)) (b ∷ bs)) (b ∷ bs)))
    go true e more = let one : 1 + position_or_len (λ b. not (is_blank b)) bs ≡ suc (position_or_len (λ b. not (is_blank b)) bs) = omega arith in rw (e, one) more
    go false e more = rw (e, e) (refl, λ h. omega arith)

pub one_more : (w : Text) (ws : List Text) → 0 < length w → filter (λ v. ltb 0 (length v)) (w ∷ ws) ≡ w ∷ filter (λ v. ltb 0 (length v)) ws
one_more [] ws h = absurd (omega arith)
one_more (b ∷ bs) ws h = cond_both (ltb 0 (suc (length bs))) ((b ∷ bs) ∷ filter (λ v. ltb 0 (length v)) ws) (filter (λ v. ltb 0 (length v)) ws) (λ o. o ≡ (b ∷ bs) ∷ filter (λ v. ltb 0 (length v)) ws) (λ _. refl) (λ e. let bad = ltb-false 0 (suc (length bs)) e in absurd (omega arith))

-- a word ends at the first blank behind its start
pub cut_word : (body : Text) (i : ℕ) → i ≡ position_or_len is_blank body → 0 < i → i < length body → words_of body ≡ take i body ∷ words_of (take (length body - (i + 1)) (drop (i + 1) body))
unfolding words_of
cut_word body i e some h =
    let within : position_or_len is_blank body < length body = omega arith in
    let cut = slice_split_first is_blank body 0 within in
    let long : 0 < length (before_first is_blank body) = omega (arith, length-take (position_or_len is_blank body) body) in
    rw (take_rest body (i + 1), e) (ap (filter (λ v. ltb 0 (length v))) cut ∙ one_more (before_first is_blank body) (slice_split is_blank (after_first is_blank body)) long)

pub last_word : (body : Text) → 0 < length body → length body ≤ position_or_len is_blank body → words_of body ≡ body ∷ words_of (take (length body - length body) (drop (length body) body))
unfolding words_of
last_word body some h =
    rw (take_rest body (length body), drop-length body) (ap (filter (λ v. ltb 0 (length v))) (whole is_blank body h) ∙ one_more body [] some)

pub no_words : (body rest : Text) → words_of rest ≡ words_of body → length rest ≡ 0 → words_of body ≡ []
unfolding words_of
no_words body [] same none = sym same
no_words body (b ∷ bs) same none = absurd (omega arith)

-- with b in front of the first part
front_part : (b : ℕ) (parts : List Text) → is_word_byte b ≡ true → list_all (list_all is_word_byte) parts ≡ true → list_all (list_all is_word_byte) (onto_first b parts) ≡ true
front_part b [] good all = rw good refl
front_part b (part ∷ parts) good all = rw good all

-- the parts between the blanks of a sound line have bytes of words alone
sound_parts : (body : Text) → list_all may_stand body ≡ true → list_all (list_all is_word_byte) (slice_split is_blank body) ≡ true
sound_parts [] h = refl
sound_parts (b ∷ bs) h = let both = and_parts (may_stand b) (list_all may_stand bs) h in go (is_blank b) refl both.0 (sound_parts bs both.1)
  where
    go : (v : Bool) → is_blank b ≡ v → may_stand b ≡ true → list_all (list_all is_word_byte) (slice_split is_blank bs) ≡ true → list_all (list_all is_word_byte) (slice_split is_blank (b ∷ bs)) ≡ true
    go true e here rest = rw e rest
    go false e here rest = rw e (front_part b (slice_split is_blank bs) (rw e at here) rest)

-- those that aren't empty are words
some_parts : (parts : List Text) → list_all (list_all is_word_byte) parts ≡ true → list_all is_word (filter (λ w. nat_lt 0 (length w)) parts) ≡ true
some_parts [] h = refl
some_parts (part ∷ parts) h = let both = and_parts (list_all is_word_byte part) (list_all (list_all is_word_byte) parts) h in go (nat_lt 0 (length part)) refl both.0 (some_parts parts both.1)
  where
    go : (v : Bool) → nat_lt 0 (length part) ≡ v → list_all is_word_byte part ≡ true → list_all is_word (filter (λ w. nat_lt 0 (length w)) parts) ≡ true → list_all is_word (filter (λ w. nat_lt 0 (length w)) (part ∷ parts)) ≡ true
    go true e here rest = rw (e, e, here) rest
    go false e here rest = rw e rest

-- a sound line's words are words
pub sound_are_words : (body : Text) → is_sound body ≡ true → list_all is_word (words_of body) ≡ true
unfolding words_of is_sound
sound_are_words body h = some_parts (slice_split is_blank body) (sound_parts body h)

-- what is behind a place of a sound text is sound
pub sound_behind : (k : ℕ) (body : Text) → is_sound body ≡ true → is_sound (drop k body) ≡ true
unfolding is_sound
sound_behind zero body h = h
sound_behind (suc k) [] h = refl
sound_behind (suc k) (b ∷ bs) h = sound_behind k bs (and_parts (may_stand b) (list_all may_stand bs) h).1

-- of the bytes of a sound text those up to a space are blanks
low_blank : (b : ℕ) → may_stand b ≡ true → nat_le b 32 ≡ is_blank b
low_blank b h = go (eqb b 32) refl (eqb b 9) refl h
  where
    go : (v : Bool) → eqb b 32 ≡ v → (w : Bool) → eqb b 9 ≡ w → may_stand b ≡ true → nat_le b 32 ≡ is_blank b
    go true e w f h = rw e (le-leb b 32 (let is = eqb-true b 32 e in omega arith))
    go false e true f h = rw (e, f) (le-leb b 32 (let is = eqb-true b 9 f in omega arith))
    go false e false f h =
        let word : is_word_byte b ≡ true = rw (e, f) at h in
        let above = leb-true 33 b (and_parts (nat_le 33 b) (nat_le b 126) (and_parts (nat_le 33 b && nat_le b 126) (not (eqb b 35)) word).0).0 in
        rw (e, f) (lt-leb b 32 (omega arith))

pub low_place : (body : Text) → is_sound body ≡ true → position_or_len (λ b. nat_le b 32) body ≡ position_or_len is_blank body
unfolding is_sound
low_place [] h = refl
low_place (b ∷ bs) h =
    let both = and_parts (may_stand b) (list_all may_stand bs) h in
    rw (low_blank b both.0, low_place bs both.1) refl

-- and those above it are none
high_other : (b : ℕ) → may_stand b ≡ true → nat_lt 32 b ≡ not (is_blank b)
high_other b h = go (nat_le b 32) refl
  where
    go : (v : Bool) → nat_le b 32 ≡ v → nat_lt 32 b ≡ not (is_blank b)
    go true e = rw (sym (low_blank b h), e) (let low = leb-true b 32 e in lt-leb 33 b (omega arith))
    go false e = rw (sym (low_blank b h), e) (le-leb 33 b (let above = leb-false b 32 e in omega arith))

pub high_place : (body : Text) → is_sound body ≡ true → position_or_len (λ b. nat_lt 32 b) body ≡ position_or_len (λ b. not (is_blank b)) body
unfolding is_sound
high_place [] h = refl
high_place (b ∷ bs) h =
    let both = and_parts (may_stand b) (list_all may_stand bs) h in
    rw (high_other b both.0, high_place bs both.1) refl

-- one word less to pass
pub one_less : (words more : List Text) (w : Text) (i k : ℕ) (found : Option Text) → words ≡ w ∷ more → k < i → slice_get words (i - k) ≡ found → slice_get more (i - (k + 1)) ≡ found
one_less words more w i k found cut lt so_far =
    let at : i - k ≡ suc (i - (k + 1)) = omega arith in
    rw (cut, at) at so_far

-- no word is left to pass
pub none_left : (words : List Text) (n : ℕ) (found : Option Text) → words ≡ [] → slice_get words n ≡ found → None ≡ found
none_left words n found none so_far = sym (slice_get_past [] n (omega arith)) ∙ (rw none at so_far)

-- the word that comes next is the one at place 0
pub first_left : (words : List Text) (i k : ℕ) (next found : Option Text) → next ≡ slice_get words 0 → i ≤ k → slice_get words (i - k) ≡ found → next ≡ found
first_left words i k next found is le so_far =
    let at : i - k ≡ 0 = omega arith in
    is ∙ (rw at at so_far)
