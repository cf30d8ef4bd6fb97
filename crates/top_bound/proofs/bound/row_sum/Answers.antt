use Rattle.std.proofs.Common.{◌≡◌, ◌∙◌, ◌≤◌, ℕ, length, get_or, ap, sym, arith}
use Rattle.std.specs.Prelude.{sum_by}
use Rattle.std.proofs.lemmas.List.{take_all}
use Rattle.std.proofs.lemmas.List.Sums.{sum_by_more}
use Rattle.std.proofs.lemmas.Option.{get_or_from_slice_get, slice_get_within}
use Rattle.eng_world.specs.declared.item.Item.{Item}
use Rattle.raid_script.specs.Asked.{Asked, seen}
use Rattle.top_bound.specs.Bound.{graphs_in, item_nodes, item_bound}
use Rattle.top_bound.proofs.Limits.{sum-map}
use Rattle.top_bound.proofs.Patched.{each-asked}
use Rattle.top_bound.proofs.bound.row_sum.Goals as goal

pub item_nodes-nodes-requires : goal.item_nodes-nodes-requires
item_nodes-nodes-requires g c = each-asked c.args.items.now.items c.loop-at.at c.get.result c.requires.asked (slice_get_within c.args.items.now.items c.loop-at.at c.get.result c.get.ensures) (get_or_from_slice_get c.args.items.now.items c.loop-at.at c.get.result c.get.result c.get.ensures)

pub loop-at-preserved : goal.loop-at-preserved
loop-at-preserved g c =
    let items = c.args.items.now.items in
    let at = c.loop-at.at in
    let x = c.get.result in
    let nodes : Item → ℕ = λ i. item_nodes (g.L.Layout.shape c.args.layout.now) (graphs_in c.args.book.now c.args.joined.now) (seen i) in
    let bound : Item → ℕ = λ i. item_bound c.args.devices (nodes i) in
    let more = sum_by_more bound items at x (slice_get_within items at x c.get.ensures) in
    let here : bound (get_or items at x) ≡ bound x = ap bound (get_or_from_slice_get items at x x c.get.ensures) in
    let one : c.from-total.result ≡ bound x = c.from-total.ensures ∙ (c.item_bound.ensures.value ∙ ap (item_bound c.args.devices) c.item_nodes-nodes.ensures.value) in
    let wide = c.from-total.ensures in
    let few = c.item_bound.ensures.small in
    let sum = c.loop-at.invariant.sum in
    let small = c.loop-at.invariant.small in
    record {
      sum = omega (arith, more, here, one, sum);
      small = omega (arith, wide, few, small);
    }

pub returns-clause-value : goal.returns-clause-value
returns-clause-value g c =
    let items = c.args.items.now.items in
    let bound : Asked → ℕ = λ i. item_bound c.args.devices (item_nodes (g.L.Layout.shape c.args.layout.now) (graphs_in c.args.book.now c.args.joined.now) i) in
    let all : length items ≤ c.loop-at.at = omega (arith, c.loop-at-test.false, c.len-at-end.ensures) in
    c.loop-at.invariant.sum ∙ (ap (sum_by (λ (i : Item). bound (seen i))) (take_all c.loop-at.at items all) ∙ sym (sum-map bound seen items))
