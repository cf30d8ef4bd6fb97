-- How many items clients have.
use Rattle.std.proofs.Common.{◌≡◌, ℕ, ◌≤◌, List, [], length, ap, arith, inl, inr}
use Rattle.std.proofs.lemmas.Bool.{cases_lt}
use Rattle.std.proofs.lemmas.Option.{slice_get_past}
use Rattle.eng_world.specs.declared.item.Item.{Item}
use Rattle.item_list.specs.ItemList.{ItemList}
use Rattle.eng_log.specs.Given.{items_in, items_at}
use Rattle.eng_log.specs.Laid.{items_before}
use Rattle.eng_log.proofs.Laying.{below-within}

-- past the last client there are no items
pub none-past : (given : List ItemList) → length given ≤ 16 → (c : ℕ) → 16 ≤ c → items_at given c ≡ []
none-past given few c ge = ap items_in (slice_get_past given c (omega (arith, few, ge)))

-- no client has more items than all have together
pub few-each : (given : List ItemList) → length given ≤ 16 → items_before given 16 ≤ 65536 → (c : ℕ) → length (items_at given c) ≤ 65536
few-each given few all c = elim (cases_lt c 16) [
  | inl lt ↦ let w = below-within (λ k. length (items_at given k)) c 16 lt in omega (arith, w, all)
  | inr ge ↦ let e = ap (λ (l : List Item). length l) (none-past given few c ge) in omega (arith, e)
]
