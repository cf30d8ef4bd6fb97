use Rattle.std.proofs.Common.{◌≡◌, ◌+◌, ◌-◌, ◌<◌, arith, length, get_or, subst}
use Rattle.std.specs.Prelude.{min}
use Rattle.graph_check.proofs.Marking.{antes-below, BlockFrom, block-start, block-step, block-end}
use Rattle.graph_check.proofs.tables.masks.mark_block.Goals as goal

pub mark_each-requires : goal.mark_each-requires
mark_each-requires c = λ k d l. let h : get_or c.antes.result.now k d < c.loop-c.c - 1 = antes-below c.args.graph.now.drawn c.requires.order (c.loop-c.c - 1) c.antes.result.now c.antes.ensures k d l in omega arith

pub loop-c-init : goal.loop-c-init
loop-c-init c =
    let g = c.args.graph.now.drawn in
    let e : min (length g.nodes) (c.args.base + 64) ≡ c.min-end.result = omega arith in
    subst (λ j. BlockFrom g c.args.base j c.fill_first.new.table) e (block-start g c.requires.order c.args.base c.fill_first.new.table (λ k d l. c.fill_first.ensures k d (omega arith)))

pub loop-c-preserved : goal.loop-c-preserved
loop-c-preserved c =
    let h = c.mark_each.ensures in
    block-step c.args.graph.now.drawn c.requires.order c.args.base (c.loop-c.c - 1) c.loop-c.c c.loop-c.masks c.mark_each.new.masks c.mask_of-mask.result c.antes.result.now (omega arith) (omega arith) c.mask_of-mask.ensures c.antes.ensures h.kept h.listed h.only c.loop-c.invariant

pub returns : goal.returns
returns c =
    let z : c.loop-c.c ≡ 0 = omega arith in
    block-end c.args.graph.now.drawn c.requires.order c.args.base c.loop-c.masks (subst (λ j. BlockFrom c.args.graph.now.drawn c.args.base j c.loop-c.masks) z c.loop-c.invariant)
