-- Where the component that an action names stands.
use Rattle.std.specs.Prelude.{◌≡◌, ◌<◌, ◌≤◌, ℕ, zero, suc, Bool, true, false, List, [], ◌∷◌, get_or, length, nat_lt, take, Option, Some, None, Result, Ok, Err, IfOk, slice_get}
use Rattle.std.specs.List.{position, position_or_len}
use Rattle.std.specs.Str.{bytes_eq}
use Rattle.std.proofs.Common.{arith, refl, sym, ap, subst, ◌∙◌}
use Rattle.std.proofs.lemmas.List.{length-take-le}
use Rattle.std.proofs.lemmas.List.Quantifiers.{position-Some}
use Rattle.std.proofs.lemmas.List.Sums.{position_or_len_is}
use Rattle.std.proofs.lemmas.Bool.{le-ltb, lt-ltb}
use Rattle.std.proofs.lemmas.Option.{get_or_from_slice_get, slice_get-get_or}
use Rattle.std.proofs.lemmas.Slice.Eq.{bytes_eq-Decides}
use Rattle.raid_text.specs.Text.{Text}
use Rattle.top_status.specs.declared.status.Status.{Status}
use Rattle.top_status.specs.declared.status.Status.TheVariants as status
use Rattle.top_status.specs.Refusals.{◌then◌, only, or_refusal}
use Rattle.top_fetch.specs.Answers.{AnswersAs}
use Rattle.top_bay.specs.Asked.{component_in}
use Rattle.top_bay.specs.Views.{IsPlace}

-- what or_refusal gives of a place
is_some_of : (o : Option ℕ) (comp : Option ℕ) → (or_refusal o (status.Usage 3) then λ at. Ok (Some at)) ≡ Ok comp → (at : ℕ) × (o ≡ Some at) × (comp ≡ Some at)
is_some_of None comp e = cc e
is_some_of (Some at) comp e = (at, refl, cc e)

-- a component that isn't refused stands in its place
pub is_place : (names : List Text) (count : ℕ) (name : Text) (comp : Option ℕ) → length names ≡ count → component_in names name ≡ Ok comp → IsPlace names count name comp
unfolding component_in
is_place names count [] comp many e = cc e
is_place names count (b ∷ name) comp many e =
    let some = is_some_of (position (λ n. bytes_eq n (b ∷ name)) names) comp e in
    let at = position-Some (λ n. bytes_eq n (b ∷ name)) names some.0 [] some.1 in
    record {
      at = some.0;
      is = some.2;
      within = omega (arith, at.0, many);
      here = slice_get-get_or names some.0 [] at.0 ∙ ap (λ (n : Text). Some n) ((bytes_eq-Decides (get_or names some.0 []) (b ∷ name)).0 at.1);
      named = λ empty. cc empty;
    }

-- names that aren't the same fail the test
other : (n name : Text) (b : Bool) → (bytes_eq n name ≡ true → n ≡ name) → (n ≡ name → ⊥) → bytes_eq n name ≡ b → bytes_eq n name ≡ false
other n name true same apart e = absurd (apart (same e))
other n name false same apart e = e

fails : (names : List Text) (name : Text) (j : ℕ) → j < length names → ((n : Text) → slice_get names j ≡ Some n → n ≡ name → ⊥) → bytes_eq (get_or names j []) name ≡ false
fails names name j lt apart = other (get_or names j []) name (bytes_eq (get_or names j []) name) (bytes_eq-Decides (get_or names j []) name).0 (apart (get_or names j []) (slice_get-get_or names j [] lt)) refl

-- the first name that is the same
pub found_at : (names : List Text) (k : ℕ) (name : Text) → k < length names → slice_get names k ≡ Some name → ((j : ℕ) (n : Text) → j < k → slice_get names j ≡ Some n → n ≡ name → ⊥) → position (λ n. bytes_eq n name) names ≡ Some k
found_at names k name within is before =
    let here : get_or names k [] ≡ name = get_or_from_slice_get names k name [] is in
    let first : position_or_len (λ n. bytes_eq n name) names ≡ k = position_or_len_is (λ n. bytes_eq n name) names k [] (omega (arith, within))
    (λ j lt. fails names name j (omega (arith, lt, within)) (λ n at. before j n lt at))
    (λ lt. (bytes_eq-Decides (get_or names k []) name).1 here) in
    let less : nat_lt k (length names) ≡ true = lt-ltb k (length names) within in
    rw (first, less) refl

-- none is the same
pub found_nowhere : (names : List Text) (name : Text) → ((j : ℕ) (n : Text) → j < length names → slice_get names j ≡ Some n → n ≡ name → ⊥) → position (λ n. bytes_eq n name) names ≡ None
found_nowhere names name none =
    let past : position_or_len (λ n. bytes_eq n name) names ≡ length names = position_or_len_is (λ n. bytes_eq n name) names (length names) [] (omega arith)
    (λ j lt. fails names name j lt (λ n at. none j n lt at))
    (λ lt. absurd (omega (arith, lt))) in
    let full : nat_lt (length names) (length names) ≡ false = le-ltb (length names) (length names) (omega arith) in
    rw (past, full) refl

-- ## Among the first names

taken : (n k : ℕ) (names : List Text) → k < n → slice_get (take n names) k ≡ slice_get names k
taken zero k names lt = absurd (omega (arith, lt))
taken (suc n) k [] lt = refl
taken (suc n) zero (x ∷ names) lt = refl
taken (suc n) (suc k) (x ∷ names) lt = taken n k names (omega (arith, lt))

pub found_among : (names : List Text) (count k : ℕ) (name : Text) → k < count → count ≤ length names → slice_get names k ≡ Some name
    → ((j : ℕ) (n : Text) → j < k → slice_get names j ≡ Some n → n ≡ name → ⊥) → position (λ n. bytes_eq n name) (take count names) ≡ Some k
found_among names count k name lt few is before =
    found_at (take count names) k name (omega (arith, lt, few, length-take-le count names few)) (taken count k names lt ∙ is)
    (λ j n less at. before j n less (sym (taken count j names (omega (arith, less, lt))) ∙ at))

pub nowhere_among : (names : List Text) (count : ℕ) (name : Text) → count ≤ length names
    → ((j : ℕ) (n : Text) → j < count → slice_get names j ≡ Some n → n ≡ name → ⊥) → position (λ n. bytes_eq n name) (take count names) ≡ None
nowhere_among names count name few none =
    found_nowhere (take count names) name
    (λ j n less at. let lt : j < count = omega (arith, less, length-take-le count names few) in
    none j n lt (sym (taken count j names lt) ∙ at))

-- ## The component

pub component_at : (names : List Text) (name : Text) (at : ℕ) → (name ≡ [] → ⊥) → position (λ n. bytes_eq n name) names ≡ Some at → component_in names name ≡ Ok (Some at)
unfolding component_in
component_at names [] at named is = absurd (named refl)
component_at names (b ∷ name) at named is = rw is refl

pub component_nowhere : (names : List Text) (name : Text) → position (λ n. bytes_eq n name) names ≡ None → component_in names name ≡ Err (only (status.Usage 3))
unfolding component_in
component_nowhere names [] is = refl
component_nowhere names (b ∷ name) is = rw is refl

pub component_unnamed : (names : List Text) (name : Text) → name ≡ [] → component_in names name ≡ Err (only (status.Usage 3))
unfolding component_in
component_unnamed names [] is = refl
component_unnamed names (b ∷ name) is = cc is

-- what is answered of names that are these
pub opens_among : (result : Result (Option ℕ) Status) (all names : List Text) (name : Text) → all ≡ names → AnswersAs (λ comp. comp) result (component_in all name) → AnswersAs (λ comp. comp) result (component_in names name)
opens_among result all names name same h = subst (λ (ns : List Text). AnswersAs (λ comp. comp) result (component_in ns name)) same h

pub known_among : (result : Result (Option ℕ) Status) (names : List Text) (count : ℕ) (name : Text) → length names ≡ count → AnswersAs (λ comp. comp) result (component_in names name) → IfOk result (λ comp. IsPlace names count name comp)
known_among (Ok comp) names count name many h = is_place names count name comp many h
known_among (Err s) names count name many h = tt
