use Rattle.std.proofs.Common.{◌≡◌, ◌∙◌, length, subst, arith}
use Rattle.raid_map.specs.Asking.{file_of, MayWriteIn, MarksAlso}
use Rattle.raid_map.proofs.Spans.{FirstOnes, firsts-none, firsts-more, firsts-items}
use Rattle.raid_map.proofs.asking.mark_items.Goals as goal

pub mark_item-requires-clause-map : goal.mark_item-requires-clause-map
mark_item-requires-clause-map g c = c.loop-i.invariant.stripes_same ∙ c.requires.map

pub loop-i-init : goal.loop-i-init
loop-i-init g c = firsts-none (MayWriteIn (g.L.Layout.shape c.args.layout.now) (file_of c.args.graphs.now)) c.args.items.now.items c.args.map.now

pub loop-i-preserved : goal.loop-i-preserved
loop-i-preserved g c =
    firsts-more (MayWriteIn (g.L.Layout.shape c.args.layout.now) (file_of c.args.graphs.now)) c.args.items.now.items c.loop-i.i c.get.result c.args.map.now c.loop-i.map c.mark_item.new.map
    c.get.ensures c.loop-i.invariant c.mark_item.ensures

pub returns : goal.returns
returns g c =
    let end : c.loop-i.i ≡ length c.args.items.now.items = omega (arith, c.loop-i-test.false, c.loop-i.auto.i-end, c.len-i-end.ensures) in
    firsts-items (g.L.Layout.shape c.args.layout.now) (file_of c.args.graphs.now) c.args.items.now.items c.args.map.now c.loop-i.map
    (subst (λ n. MarksAlso (FirstOnes (MayWriteIn (g.L.Layout.shape c.args.layout.now) (file_of c.args.graphs.now)) c.args.items.now.items n) c.args.map.now c.loop-i.map) end c.loop-i.invariant)
