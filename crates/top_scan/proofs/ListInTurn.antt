-- Names that are read one after another, as a loop does.
use Rattle.std.proofs.Common.{◌≡◌, ◌∙◌, ℕ, ◌+◌, ◌<◌, Bool, true, false, List, [], ◌∷◌, ◌++◌, Some, Result, Ok, Err, length, get_or, refl, sym, ap, arith, inl, inr, length-append}
use Rattle.std.specs.Prelude.{◌&&◌, nat_le, nat_lt, not}
use Rattle.std.specs.Str.{bytes_eq}
use Rattle.std.proofs.lemmas.Bool.{and_parts, cases_lt, ltb-true}
use Rattle.std.proofs.lemmas.List.{get_or_append_left}
use Rattle.std.proofs.lemmas.List.Folds.{list_any_at}
use Rattle.std.proofs.lemmas.Option.{get_or_from_slice_get, slice_get_within, slice_get-get_or}
use Rattle.std.proofs.lemmas.Slice.Eq.{bytes_eq-Decides}
use Rattle.std.proofs.Math.Seq.{get_or-append_seam}
use Rattle.raid_text.specs.Text.{Text, Numbered}
use Rattle.text_steps.specs.Steps.{◌>>=◌, at_end, at_line, next_word, only_if, words_in}
use Rattle.text_steps.specs.declared.at.At.{At}
use Rattle.text_steps.proofs.Binds.{bind_ok, ok_same, only_ok}
use Rattle.top_scan.specs.List.{AreApart, name_of, names_behind}
use Rattle.top_scan.specs.Steps.{has_name, line_name}

-- the name of the next line stands behind those before it
pub goes_on : (names : List Text) (line : Numbered) (lines : List Numbered) (name : Text) (total : Result (List Text) At)
    → line_name names line ≡ Ok name
    → names_behind names (line ∷ lines) ≡ total → names_behind (names ++ name ∷ []) lines ≡ total
unfolding names_behind line_name
goes_on names line lines name total h so_far =
    sym (ap (λ (r : Result Text ℕ). at_line line.at r >>= λ n. names_behind (names ++ n ∷ []) lines) h) ∙ so_far

-- a line without one is the refusal
pub ends : (names : List Text) (code : ℕ) (line : Numbered) (lines : List Numbered) (total : Result (List Text) At)
    → line_name names line ≡ Err code
    → names_behind names (line ∷ lines) ≡ total → total ≡ Err (record { line = line.at; code = code })
unfolding names_behind line_name
ends names code line lines total h so_far =
    sym so_far ∙ ap (λ (r : Result Text ℕ). at_line line.at r >>= λ n. names_behind (names ++ n ∷ []) lines) h

-- no line is left
pub is_done : (names : List Text) (total : Result (List Text) At) → names_behind names [] ≡ total → total ≡ Ok names
unfolding names_behind
is_done names total so_far = sym so_far

-- ## A new name

pub record IsNew (names : List Text) (name : Text) : Type 0 where
  pub new : has_name names name ≡ false
  pub room : length names < 1024

not_true : (b : Bool) → not b ≡ true → b ≡ false
not_true true h = cc h
not_true false h = refl

pub name_is_new : (names : List Text) (line : Numbered) (name : Text) → line_name names line ≡ Ok name → IsNew names name
unfolding line_name name_of has_name
name_is_new names line name h =
    let a = bind_ok (words_in line) _ name h in
    let b = bind_ok (next_word a.0) _ name a.2 in
    let c = bind_ok (only_if (nat_le (length b.0.0) 255 && not (has_name names b.0.0)) 7) _ name b.2 in
    let d = bind_ok (at_end b.0.1) _ name c.2 in
    let e = bind_ok (only_if (nat_lt (length names) 1024) 13) _ name d.2 in
    let same : b.0.0 ≡ name = ok_same _ _ e.2 in
    let fresh = and_parts (nat_le (length b.0.0) 255) (not (has_name names b.0.0)) (only_ok _ 7 c.0 c.1) in
    record {
      new = ap (has_name names) (sym same) ∙ not_true (has_name names b.0.0) fresh.1;
      room = ltb-true (length names) 1024 (only_ok _ 13 e.0 e.1);
    }

some_eq : {X : Type 0} (x y : X) → Some x ≡ Some y → x ≡ y
some_eq x y e = cc e

is_there : (names : List Text) (i : ℕ) (n : Text) → i < length names → get_or names i [] ≡ n → has_name names n ≡ true
unfolding has_name
is_there names i n within is = list_any_at (λ x. bytes_eq x n) names i [] within ((bytes_eq-Decides (get_or names i []) n).1 is)

pub apart_more : (names : List Text) (name : Text) → AreApart names → has_name names name ≡ false → AreApart (names ++ name ∷ [])
apart_more names name before new i j n less one two =
    let all = names ++ name ∷ [] in
    let long : length all ≡ length names + 1 = length-append names (name ∷ []) in
    let inside : j < length all = slice_get_within all j n two in
    let first : get_or all i [] ≡ n = get_or_from_slice_get all i n [] one in
    let next : get_or all j [] ≡ n = get_or_from_slice_get all j n [] two in
    let low : i < length names = omega arith in
    let first_is : get_or names i [] ≡ n = sym (get_or_append_left names (name ∷ []) [] i low) ∙ first in
    elim (cases_lt j (length names)) [
      | inl lower ↦
          let next_is : get_or names j [] ≡ n = sym (get_or_append_left names (name ∷ []) [] j lower) ∙ next in
          before i j n less (slice_get-get_or names i [] low ∙ ap (λ (t : Text). Some t) first_is) (slice_get-get_or names j [] lower ∙ ap (λ (t : Text). Some t) next_is)
      | inr high ↦
          let at : j ≡ length names = omega arith in
          let last : name ≡ n = sym (get_or-append_seam names name [] []) ∙ (ap (λ (k : ℕ). get_or all k []) (sym at) ∙ next) in
          let there : has_name names name ≡ true = is_there names i name low (first_is ∙ sym last) in
          (let z : ⊥ = cc (there, new) in z)
    ]

pub none_apart : AreApart []
none_apart i j n less one two = absurd (let z : ⊥ = cc one in z)
