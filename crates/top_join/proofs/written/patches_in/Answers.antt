use Rattle.std.proofs.Common.{◌≡◌, ◌+◌, ◌∙◌, List, drop, get_or, map, sym, ap, subst, All}
use Rattle.std.specs.Prelude.{Option, Some, None}
use Rattle.std.proofs.Math.ListN.{drop_of_length-le}
use Rattle.blk_plain.specs.declared.op.Span.{Span}
use Rattle.blk_plain.specs.Plain.{spans_of}
use Rattle.item_list.specs.ItemList.{ItemList}
use Rattle.raid_script.specs.Asked.{seen}
use Rattle.top_bound.specs.Bound.{MayBeAsked}
use Rattle.top_join.specs.Steps.{spans_in_row, spans_in}
use Rattle.top_join.proofs.Searching.{rows-none, rows-step}
use Rattle.top_join.proofs.written.patches_in.Goals as goal
use Rattle.std.specs.Option.{option_or}

pub patches_in_row-requires : goal.patches_in_row-requires
patches_in_row-requires c =
    subst (λ (row : ItemList). All MayBeAsked (map seen row.items)) (sym c.items-item.is)
    (c.requires c.loop-items.items-index c.items-item.result c.loop-items-test.true)

pub returns-in-Some-clause-spans : goal.returns-in-Some-clause-spans
returns-in-Some-clause-spans c =
    let n = c.args.graph in
    let rows = c.args.clients.now in
    let i = c.loop-items.items-index in
    let x = c.items-item.result in
    let here : spans_in_row n (map seen (get_or rows i x).items) ≡ Some (spans_of c.in-Some.patches) =
    ap (λ (z : ItemList). spans_in_row n (map seen z.items)) (sym c.items-item.is)
    ∙ sym c.in-Some.ensures.spans in
    sym (c.loop-items.invariant ∙ (rows-step n rows i x c.loop-items-test.true
    ∙ ap (λ (o : Option (List Span)). option_or o (spans_in n (map (λ (row : ItemList). map seen row.items) (drop (i + 1) rows)))) here))

pub loop-items-preserved : goal.loop-items-preserved
loop-items-preserved c =
    let n = c.args.graph in
    let rows = c.args.clients.now in
    let i = c.loop-items.items-index in
    let x = c.items-item.result in
    let here : spans_in_row n (map seen (get_or rows i x).items) ≡ None =
    ap (λ (z : ItemList). spans_in_row n (map seen z.items)) (sym c.items-item.is)
    ∙ sym c.in_default.ensures.spans in
    c.loop-items.invariant ∙ (rows-step n rows i x c.loop-items-test.true
    ∙ ap (λ (o : Option (List Span)). option_or o (spans_in n (map (λ (row : ItemList). map seen row.items) (drop (i + 1) rows)))) here)

pub returns-clause-spans : goal.returns-clause-spans
returns-clause-spans c =
    let n = c.args.graph in
    let rows = c.args.clients.now in
    sym (c.loop-items.invariant
    ∙ (ap (λ (xs : List ItemList). spans_in n (map (λ (row : ItemList). map seen row.items) xs)) (drop_of_length-le rows c.loop-items-test.false) ∙ rows-none n))
