-- One new client more.
use Rattle.std.proofs.Common.{◌≡◌, ℕ, ◌<◌, ◌+◌, List, [], ◌∷◌, ◌++◌, length, sym, ap, ◌∙◌, arith, inl, inr}
use Rattle.std.specs.Prelude.{}
use Rattle.std.proofs.lemmas.Bool.{cases_eq}
use Rattle.std.proofs.lemmas.List.{get_or_push, get_or_append_left}
use Rattle.eng_world.specs.declared.item.Item.{Item}
use Rattle.eng_clients.specs.Desk.{Desk, desk_at, no_desk}
use Rattle.eng_clients.specs.Fresh.{new_desk}

-- one client more
pub more-each : (list : List Desk) (items : ℕ → List Item) (n : ℕ) (d : Desk) → length list ≡ n → ((c : ℕ) → c < n → desk_at list c ≡ new_desk (items c)) → d ≡ new_desk (items n) → (c : ℕ) → c < n + 1 → desk_at (list ++ d ∷ []) c ≡ new_desk (items c)
more-each list items n d count each is c lt = elim (cases_eq c n) [
  | inl e ↦ get_or_push list d no_desk c (count ∙ sym e) ∙ (is ∙ ap (λ (k : ℕ). new_desk (items k)) (sym e))
  | inr ne ↦ let low : c < n = omega (arith, lt, ne) in get_or_append_left list (d ∷ []) no_desk c (omega (arith, low, count)) ∙ each c low
]
