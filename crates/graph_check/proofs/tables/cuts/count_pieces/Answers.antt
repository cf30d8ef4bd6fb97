use Rattle.std.proofs.Common.{sym, arith}
use Rattle.graph_check.proofs.Cutting.{below-more, below-none}
use Rattle.graph_check.proofs.tables.cuts.count_pieces.Goals as goal

pub loop-s-init : goal.loop-s-init
loop-s-init c = record { count = sym (below-none c.args.task.now.unit_sectors c.args.cuts.now); most = omega arith }

pub loop-s-preserved : goal.loop-s-preserved
loop-s-preserved c =
    let more = below-more c.args.task.now.unit_sectors c.args.cuts.now c.loop-s.s in
    let count = c.loop-s.invariant.count in
    let most = c.loop-s.invariant.most in
    let one = c.count_of-count.ensures.count in
    let few = c.count_of-count.ensures.most in
    record { count = omega arith; most = omega arith }
