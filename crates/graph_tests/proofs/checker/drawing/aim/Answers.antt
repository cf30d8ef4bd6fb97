use Rattle.std.proofs.Common.{arith}
use Rattle.graph_mean.proofs.Maps.{split-map}
use Rattle.graph_tests.proofs.checker.drawing.aim.Goals as goal

pub set-requires-clause-map : goal.set-requires-clause-map
set-requires-clause-map g c = split-map (g.L.Layout.shape c.args.layout.now) (g.met.L.Layout.is_layout c.args.layout.now) c.args.span (omega arith) c.split.new.map c.in-Ok.ensures.few c.in-Ok.ensures.split
