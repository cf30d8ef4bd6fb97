-- What a core keeps of its clients, as one of them changes.
use Rattle.std.proofs.Common.{◌≡◌, ℕ, ◌<◌, ◌≤◌, List, length, subst, sym, ap, ◌∙◌, inl, inr, Option, Some, slice_get}
use Rattle.std.specs.Prelude.{slice_set}
use Rattle.std.proofs.lemmas.Bool.{cases_eq}
use Rattle.blk_plain.specs.declared.op.Op.{Op}
use Rattle.lay_core.specs.Touched.{Touched}
use Rattle.lay_core.specs.Layout.{Shape}
use Rattle.graph_mean.specs.Graph.{Held, View}
use Rattle.eng_world.specs.declared.item.Item.{Item}
use Rattle.eng_world.specs.declared.item.Item.TheVariants as item
use Rattle.eng_world.specs.declared.item.Reply.{Reply}
use Rattle.eng_clients.specs.declared.stage.Stage.TheVariants.{Runs}
use Rattle.eng_state.specs.Beginning.{IsAsked}
use Rattle.eng_clients.specs.Desk.{Desk, desk_at, item_at}
use Rattle.eng_plan.specs.Asked.{IsOpSplit}
use Rattle.eng_array.specs.Serving.{NamesGraph, WasPlanned, IsServing, most_for}
use Rattle.eng_state.proofs.Shown.{desk-set, desk-else}

-- what is so of each client is so of each where one is another of which it is so
pub each-set : (P : Desk → Type 0) (desks : List Desk) (c : ℕ) (d : Desk) → c < length desks → P d → ((k : ℕ) → P (desk_at desks k)) → (k : ℕ) → P (desk_at (slice_set desks c d) k)
each-set P desks c d below here each k = elim (cases_eq k c) [
  | inl e ↦ subst (λ (j : ℕ). P (desk_at (slice_set desks c d) j)) (sym e) (subst P (sym (desk-set desks c d below)) here)
  | inr ne ↦ subst P (sym (desk-else desks c k d ne)) (each k)
]

-- where one client is another with its items, each client has the items that it had
pub items-set : (desks : List Desk) (c : ℕ) (d : Desk) → c < length desks → d.items ≡ (desk_at desks c).items → (k : ℕ) → (desk_at (slice_set desks c d) k).items ≡ (desk_at desks k).items
items-set desks c d below same k = elim (cases_eq k c) [
  | inl e ↦ subst (λ (j : ℕ). (desk_at (slice_set desks c d) j).items ≡ (desk_at desks j).items) (sym e) (ap (λ (a : Desk). a.items) (desk-set desks c d below) ∙ same)
  | inr ne ↦ ap (λ (a : Desk). a.items) (desk-else desks c k d ne)
]

module _ (y : Shape) (graphs : List Held) (old new : Desk) (items : new.items ≡ old.items) where
  -- one that doesn't run, with the items that it had
  pub idle-serving : (new.stage ≡ Runs → ⊥) → IsServing y graphs old → IsServing y graphs new
  idle-serving idle s = record {
    asked = subst (λ (l : List Item). (n : ℕ) (i : Item) → slice_get l n ≡ Some i → IsAsked y i) (sym items) s.asked;
    named = subst (λ (l : List Item). (n : ℕ) (i : Item) → slice_get l n ≡ Some i → NamesGraph graphs i) (sym items) s.named;
    runs = λ is. absurd (idle is);
  }

  -- one that runs as it was planned
  pub planned-serving : ((op : Op) (file : Option ℕ) → item_at new ≡ Some (item.Run op file) → WasPlanned y graphs new op file) → IsServing y graphs old → IsServing y graphs new
  planned-serving runs s = record {
    asked = subst (λ (l : List Item). (n : ℕ) (i : Item) → slice_get l n ≡ Some i → IsAsked y i) (sym items) s.asked;
    named = subst (λ (l : List Item). (n : ℕ) (i : Item) → slice_get l n ≡ Some i → NamesGraph graphs i) (sym items) s.named;
    runs = λ is op file at. runs op file at;
  }

  -- one that runs only if it did, by the same graph, on the same stripes and buffers
  pub same-serving : (new.stage ≡ Runs → old.stage ≡ Runs) → new.replies ≡ old.replies → (new.stage ≡ Runs → new.map ≡ old.map) → new.lease ≡ old.lease → new.run.graph ≡ old.run.graph → IsServing y graphs old → IsServing y graphs new
  same-serving ran replies map lease graph s = record {
    asked = subst (λ (l : List Item). (n : ℕ) (i : Item) → slice_get l n ≡ Some i → IsAsked y i) (sym items) s.asked;
    named = subst (λ (l : List Item). (n : ℕ) (i : Item) → slice_get l n ≡ Some i → NamesGraph graphs i) (sym items) s.named;
    runs = λ is op file at.
        let item-old : item_at old ≡ Some (item.Run op file) = ap (λ (l : List Reply). slice_get old.items (length l)) (sym replies) ∙ (ap (λ (l : List Item). slice_get l (length new.replies)) (sym items) ∙ at) in
        let p = s.runs (ran is) op file item-old in
        record {
          split = subst (λ (m : Touched). IsOpSplit y op m) (sym (map is)) p.split;
          lease = ap (λ (l : List ℕ). length l) lease ∙ p.lease;
          nodes = subst (λ (g : View). length g.nodes ≤ most_for y graphs op file) (sym graph) p.nodes;
        };
  }
