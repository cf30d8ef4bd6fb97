-- What the rule says where the word is even, and where it is odd.
use Rattle.std.proofs.Common.{◌≡◌, ℕ, suc, ◌%◌, ◌<◌, ◌≢◌, List, [], ◌∷◌, map, sum_by, slice_index, sym, refl, subst, inl, inr, ⊎_elim, arith, Some}
use mathlib.Core.Logic.{dite}
use mathlib.Core.Option.{some, none}
use native.Mathlib.Decide.{ℕ_discrete}
use lib.ListN.{get_elem?}
use Rattle.std.proofs.lemmas.List.Sums.{sum_by-cons}
use Rattle.atomic_table.specs.Table.{State}
use Rattle.eng_turn.specs.declared.view.Resting.{Resting}
use Rattle.eng_turn.specs.declared.view.Stage.{Stage}
use Rattle.eng_turn.specs.declared.view.Stage.TheVariants.{Outside, Inside}
use Rattle.eng_turn.specs.declared.view.PassView.{PassView}
use Rattle.eng_turn.specs.View.{Content, within, view_ticket, inside}
use Rattle.eng_turn.specs.Rule.{Kept, IsFree, IsHeld}
use Rattle.eng_turn.proofs.Sums.{sum_by_has_two}

-- a sum that isn't 0 has a part that isn't
some_part : {A : Type 0} (f : A → ℕ) (l : List A) → 0 < sum_by f l → (i : ℕ) × (v : A) × (get_elem? l i ≡ some v) × (0 < f v)
some_part f [] more = absurd (omega arith)
some_part f (x ∷ xs) more = let b = sum_by-cons f x xs in dite (ℕ_discrete (f x) 0)
    (λ (none_here : f x ≡ 0). let r = some_part f xs (omega arith) in (suc r.0, r.1, r.2, r.3))
    (λ (some_here : f x ≢ 0). (0, x, refl, omega arith))

is_inside : {V : Type 0} (s : Stage V) → 0 < within s → (e : V) × (s ≡ Inside e)
is_inside Outside more = absurd (omega arith)
is_inside (Inside e) more = (e, refl)

is_outside : {V : Type 0} (s : Stage V) → within s ≡ 0 → s ≡ Outside
is_outside Outside none_in = refl
is_outside (Inside e) none_in = absurd (omega arith)

module _ {V T : Type 0} (empty : T) (fits : V → V → List T → Type 0) (after : V → V → Type 0) (opening : V) where
  pub even-free : (s : State (Content V T) (PassView V T)) → Kept empty fits after opening s → slice_index s.words 0 % 2 ≡ 0 → IsFree empty fits after opening s
  even-free s kept even = let word = kept.word in ⊎_elim
      (λ (t : (sum_by inside s.views ≡ 0) × ((h : Resting V T) × (s.homes ≡ some (Some h) ∷ []) × (h.value ≡ kept.value))). record {
        resting = t.1.0;
        home = t.1.1;
        fitting = subst (λ (v : V). fits opening v (map view_ticket s.views)) (sym t.1.2) kept.fitting;
        marks = λ i v m at is. subst (after m) (sym t.1.2) ((kept.each i v at).marked m is);
      })
      (λ (t : (sum_by inside s.views ≡ 1) × (s.homes ≡ none ∷ [])). let one = t.0 in absurd (omega arith))
      kept.place

  pub odd-held : (s : State (Content V T) (PassView V T)) → Kept empty fits after opening s → slice_index s.words 0 % 2 ≡ 1 → IsHeld empty fits after opening s
  odd-held s kept odd = let word = kept.word in ⊎_elim
      (λ (t : (sum_by inside s.views ≡ 0) × ((h : Resting V T) × (s.homes ≡ some (Some h) ∷ []) × (h.value ≡ kept.value))). let none_in = t.0 in absurd (omega arith))
      (λ (t : (sum_by inside s.views ≡ 1) × (s.homes ≡ none ∷ [])).
      let one = t.0 in
      let here = some_part inside s.views (omega arith) in
      let stage = is_inside here.1.stage here.3 in record {
        seat = here.0;
        view = here.1;
        entered = stage.0;
        at = here.2;
        stage = stage.1;
        others = λ i v there. dite (ℕ_discrete i here.0) (λ (is : i ≡ here.0). inl is)
            (λ (apart : i ≢ here.0). let both = sum_by_has_two inside s.views here.0 i here.1 v apart here.2 there in let more = here.3 in inr (is_outside v.stage (omega arith)));
        fitting = subst (λ (v : V). fits opening v (map view_ticket s.views)) (sym ((kept.each here.0 here.1 here.2).entered stage.0 stage.1)) kept.fitting;
      })
      kept.place
