-- Names that differ.
use Rattle.std.proofs.Common.{◌≡◌, ◌∙◌, ℕ, ◌+◌, ◌<◌, ◌≤◌, zero, suc, Bool, true, false, List, [], ◌∷◌, ◌++◌, length, refl, sym, ap, arith, get_or, ⊎_elim, ◌⊎◌, inl, inr, length-append}
use Rattle.std.specs.Prelude.{◌≢◌, ◌||◌}
use Rattle.std.specs.Str.{bytes_eq}
use Rattle.std.proofs.lemmas.Slice.Eq.{bytes_eq-Decides}
use Rattle.std.proofs.lemmas.Bool.{cases_lt}
use Rattle.std.proofs.lemmas.List.{get_or_append_left, length_push}
use Rattle.raid_text.specs.Text.{Text}
use Rattle.raid_conf.specs.Steps.{has_name}
use Rattle.raid_conf.specs.Form.{Differ}

-- a name that isn't among these is none of them
other_than : (names : List Text) (name : Text) (i : ℕ) (m : Text) → has_name names name ≡ false → i < length names → get_or names i m ≢ name
unfolding has_name
other_than [] name i m h lt = absurd (omega (arith, lt))
other_than (x ∷ names) name zero m h lt = λ e. cc ((bytes_eq-Decides x name).1 e, (or_false_parts (bytes_eq x name) (has_name names name) h).0)
  where
    or_false_parts : (a b : Bool) → (a || b) ≡ false → (a ≡ false) × (b ≡ false)
    or_false_parts true b h = cc
    or_false_parts false b h = (refl, h)
other_than (x ∷ names) name (suc i) m h lt = other_than names name i m (or_right (bytes_eq x name) (has_name names name) h) (omega (arith, lt))
  where
    or_right : (a b : Bool) → (a || b) ≡ false → b ≡ false
    or_right true b h = cc
    or_right false b h = h

get_or-append_last : (xs : List Text) (x d : Text) → get_or (xs ++ x ∷ []) (length xs) d ≡ x
get_or-append_last [] x d = refl
get_or-append_last (y ∷ xs) x d = get_or-append_last xs x d

-- one name more, which is none of these, or empty
pub differ_push : (names : List Text) (name : Text) → ((has_name names name ≡ false) ⊎ (name ≡ [])) → Differ names → Differ (names ++ name ∷ [])
differ_push names name other was i j m n lt h = λ e. ⊎_elim (λ inside. within inside e) (λ last. at_last last e other) (cases_lt j (length names))
  where
    within : j < length names → get_or (names ++ name ∷ []) i m ≡ get_or (names ++ name ∷ []) j n → get_or (names ++ name ∷ []) j n ≡ []
    within inside e =
        let left_j = get_or_append_left names (name ∷ []) n j inside in
        let left_i = get_or_append_left names (name ∷ []) m i (omega (arith, lt, inside)) in
        left_j ∙ was i j m n lt inside (sym left_i ∙ (e ∙ left_j))

    at_last : length names ≤ j → get_or (names ++ name ∷ []) i m ≡ get_or (names ++ name ∷ []) j n → ((has_name names name ≡ false) ⊎ (name ≡ [])) → get_or (names ++ name ∷ []) j n ≡ []
    at_last last e (inl none) =
        let at : j ≡ length names = omega (arith, last, h, length_push names name) in
        let is : get_or (names ++ name ∷ []) j n ≡ name = ap (λ (k : ℕ). get_or (names ++ name ∷ []) k n) at ∙ get_or-append_last names name n in
        absurd (other_than names name i m none (omega (arith, lt, at)) (sym (get_or_append_left names (name ∷ []) m i (omega (arith, lt, at))) ∙ (e ∙ is)))
    at_last last e (inr none) =
        let at : j ≡ length names = omega (arith, last, h, length_push names name) in
        ap (λ (k : ℕ). get_or (names ++ name ∷ []) k n) at ∙ (get_or-append_last names name n ∙ none)

-- a name that is none of these isn't among them
has_name-none : (names : List Text) (name : Text) → ((i : ℕ) (m : Text) → i < length names → get_or names i m ≢ name) → has_name names name ≡ false
unfolding has_name
has_name-none [] name others = refl
has_name-none (x ∷ names) name others = go (bytes_eq x name) (bytes_eq-Decides x name).0 (has_name-none names name (λ i m lt. others (suc i) m (omega arith)))
  where
    go : (b : Bool) → (b ≡ true → x ≡ name) → has_name names name ≡ false → (b || has_name names name) ≡ false
    go true same rest = absurd (others 0 x (omega arith) (same refl))
    go false same rest = rest

-- a name that isn't empty, among names that differ, isn't one of those before it
pub has_name-differ : (names : List Text) (name : Text) (more : List Text) → name ≢ [] → Differ (names ++ name ∷ more) → has_name names name ≡ false
has_name-differ names name more some apart = has_name-none names name (λ i m lt. λ e.
    let fits : length names < length (names ++ name ∷ more) = omega (arith, length-append names (name ∷ more)) in
    let last : get_or (names ++ name ∷ more) (length names) m ≡ name = get_or_append_at names name more m in
    some (sym last ∙ apart i (length names) m m lt fits (get_or_append_left names (name ∷ more) m i lt ∙ (e ∙ sym last))))
  where
    get_or_append_at : (xs : List Text) (x : Text) (more : List Text) (d : Text) → get_or (xs ++ x ∷ more) (length xs) d ≡ x
    get_or_append_at [] x more d = refl
    get_or_append_at (y ∷ xs) x more d = get_or_append_at xs x more d

-- the first of names that differ
pub differ_front : (names more : List Text) → Differ (names ++ more) → Differ names
differ_front names more apart i j m n lt h = λ e.
    let fits : j < length (names ++ more) = omega (arith, h, length-append names more) in
    let left_j = get_or_append_left names more n j h in
    let left_i = get_or_append_left names more m i (omega (arith, lt, h)) in
    sym left_j ∙ apart i j m n lt fits (left_i ∙ (e ∙ sym left_j))
