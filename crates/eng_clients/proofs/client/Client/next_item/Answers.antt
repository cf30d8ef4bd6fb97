use Rattle.std.proofs.Common.{◌≡◌, ◌<◌, ◌∙◌, ℕ, zero, suc, List, [], ◌∷◌, Some, None, length, slice_get, sym, ap, arith}
use Rattle.eng_clients.specs.Desk.{item_at}
use Rattle.eng_clients.proofs.client.Client.next_item.Goals as goal

there : {X : Type 0} (xs : List X) (i : ℕ) → i < length xs → slice_get xs i ≡ None → ⊥
there [] i lt none = absurd (omega (arith, lt))
there (x ∷ xs) zero lt none = let z : Some x ≡ None = none in let u : ⊥ = cc in u
there (x ∷ xs) (suc i) lt none = there xs i (omega (arith, lt)) none

pub unreachable-requires : goal.unreachable-requires
unreachable-requires c = there c.args.self.now.items (length c.args.self.now.replies) c.requires (sym (ap item_at c.self.view_is) ∙ (sym c.self.invariant.item ∙ c.in-None.is))

pub returns : goal.returns
returns c = sym (ap item_at c.self.view_is) ∙ (sym c.self.invariant.item ∙ c.in-Some.is)
