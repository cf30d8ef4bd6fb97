-- Names of which no two are the same, but for the empty one.
use Rattle.std.specs.Prelude.{◌≡◌, ◌<◌, ℕ, zero, suc, Bool, true, false, List, [], ◌∷◌, get_or, Option, Some, None, slice_get}
use Rattle.std.proofs.Common.{arith, refl, sym, ap, ◌∙◌, ⊎_elim}
use Rattle.std.specs.Str.{bytes_eq}
use Rattle.std.proofs.lemmas.Bool.{cases_order}
use Rattle.std.proofs.lemmas.Option.{get_or_from_slice_get, slice_get_within}
use Rattle.std.proofs.lemmas.Slice.Eq.{bytes_eq-Decides}
use Rattle.raid_conf.specs.Form.{Differ}
use Rattle.raid_text.specs.Text.{Text}
use Rattle.top_bay.specs.Lent.{IsMeant}

-- two that are the same are empty
pub same_is_empty : (names : List Text) (i j : ℕ) (n : Text) → Differ names → i < j → slice_get names i ≡ Some n → slice_get names j ≡ Some n → n ≡ []
same_is_empty names i j n differ lt one two =
    let here : get_or names j [] ≡ n = get_or_from_slice_get names j n [] two in
    sym here ∙ differ i j [] [] lt (slice_get_within names j n two) (get_or_from_slice_get names i n [] one ∙ sym here)

pub some-eq : {X : Type 0} (x y : X) → Some x ≡ Some y → x ≡ y
some-eq x y e = cc e

-- a name stands in one place
pub other_place : (names : List Text) (i j : ℕ) (n : Text) → Differ names → (n ≡ [] → ⊥) → i < j → slice_get names i ≡ Some n → slice_get names j ≡ Some n → ⊥
other_place names i j n differ named lt one two = named (same_is_empty names i j n differ lt one two)

-- a name is meant by one of the first devices, or by none
pub by_meant : {P : Type 0} (names : List Text) (k : ℕ) (n : Text) → (IsMeant names k n → P) → ((IsMeant names k n → ⊥) → P) → P
by_meant names zero n one none = none (λ m. absurd (omega (arith, m.before)))
by_meant {P} names (suc k) n one none = by_meant names k n (λ m. one (wider m)) (λ apart. go (slice_get names k) refl apart)
  where
    wider : IsMeant names k n → IsMeant names (suc k) n
    wider m = record { at = m.at; before = omega (arith, m.before); is = m.is; named = m.named }

    past : (IsMeant names k n → ⊥) → ((slice_get names k ≡ Some n) → (n ≡ [] → ⊥) → ⊥) → IsMeant names (suc k) n → ⊥
    past apart other m = ⊎_elim (λ same. other (ap (λ (i : ℕ). slice_get names i) (sym same) ∙ m.is) m.named) (λ less. ⊎_elim (λ lt. apart (record { at = m.at; before = lt; is = m.is; named = m.named })) (λ gt. absurd (omega (arith, gt, m.before))) less) (cases_order m.at k)

    named_or : (x : Text) → x ≡ n → slice_get names k ≡ Some n → (IsMeant names k n → ⊥) → P
    named_or [] e is apart = none (past apart (λ at named. named (sym e)))
    named_or (b ∷ x) e is apart = one (record { at = k; before = omega arith; is = is; named = λ empty. cc (e, empty) })

    tested : (x : Text) (b : Bool) → bytes_eq x n ≡ b → slice_get names k ≡ Some x → (IsMeant names k n → ⊥) → P
    tested x true e is apart = let same : x ≡ n = (bytes_eq-Decides x n).0 e in named_or x same (is ∙ ap (λ (t : Text). Some t) same) apart
    tested x false e is apart = none (past apart (λ at named. let same : x ≡ n = some-eq x n (sym is ∙ at) in cc (e, (bytes_eq-Decides x n).1 same)))

    go : (o : Option Text) → slice_get names k ≡ o → (IsMeant names k n → ⊥) → P
    go None e apart = none (past apart (λ at named. cc (at, e)))
    go (Some x) e apart = tested x (bytes_eq x n) refl e apart
