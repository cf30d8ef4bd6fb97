use Rattle.std.proofs.Common.{◌≡◌, ◌+◌, ◌∙◌, List, drop, get_or, map, sym, ap, arith}
use Rattle.std.specs.Prelude.{Option, Some, None}
use Rattle.std.proofs.Math.ListN.{drop_of_length-le}
use Rattle.blk_plain.specs.declared.op.Span.{Span}
use Rattle.blk_plain.specs.Plain.{spans_of}
use Rattle.eng_world.specs.declared.item.Item.{Item}
use Rattle.raid_script.specs.Asked.{seen}
use Rattle.top_bound.proofs.Patched.{each-asked}
use Rattle.top_join.specs.Joining.{spans_by}
use Rattle.top_join.specs.Steps.{spans_in_row}
use Rattle.top_join.proofs.Searching.{row-none, row-step}
use Rattle.top_join.proofs.written.patches_in_row.Goals as goal
use Rattle.std.specs.Option.{option_or}
use Rattle.std.proofs.lemmas.Option.{get_or_from_slice_get, slice_get_within}

pub patches_by-requires : goal.patches_by-requires
patches_by-requires c = each-asked c.args.items.now.items c.loop-at.at c.get.result c.requires (slice_get_within c.args.items.now.items c.loop-at.at c.get.result c.get.ensures) (get_or_from_slice_get c.args.items.now.items c.loop-at.at c.get.result c.get.result c.get.ensures)

pub returns-in-Some-clause-spans : goal.returns-in-Some-clause-spans
returns-in-Some-clause-spans c =
    let n = c.args.graph in
    let items = c.args.items.now.items in
    let i = c.loop-at.at in
    let x = c.get.result in
    let here : spans_by n (seen (get_or items i x)) ≡ Some (spans_of c.in-Some.patches) = ap (λ (z : Item). spans_by n (seen z)) (get_or_from_slice_get c.args.items.now.items c.loop-at.at c.get.result c.get.result c.get.ensures) ∙ sym c.in-Some.ensures.spans in
    sym (c.loop-at.invariant ∙ (row-step n items i x (slice_get_within c.args.items.now.items c.loop-at.at c.get.result c.get.ensures)
    ∙ ap (λ (o : Option (List Span)). option_or o (spans_in_row n (map seen (drop (i + 1) items)))) here))

pub loop-at-preserved : goal.loop-at-preserved
loop-at-preserved c =
    let n = c.args.graph in
    let items = c.args.items.now.items in
    let i = c.loop-at.at in
    let x = c.get.result in
    let here : spans_by n (seen (get_or items i x)) ≡ None = ap (λ (z : Item). spans_by n (seen z)) (get_or_from_slice_get c.args.items.now.items c.loop-at.at c.get.result c.get.result c.get.ensures) ∙ sym c.in_default.ensures.spans in
    c.loop-at.invariant ∙ (row-step n items i x (slice_get_within c.args.items.now.items c.loop-at.at c.get.result c.get.ensures)
    ∙ ap (λ (o : Option (List Span)). option_or o (spans_in_row n (map seen (drop (i + 1) items)))) here)

pub returns-clause-spans : goal.returns-clause-spans
returns-clause-spans c =
    let n = c.args.graph in
    let items = c.args.items.now.items in
    sym (c.loop-at.invariant ∙ (ap (λ (xs : List Item). spans_in_row n (map seen xs)) (drop_of_length-le items (omega (arith, c.loop-at-test.false, c.len-at-end.ensures))) ∙ row-none n))
