use Rattle.std.proofs.Common.{List, subst, arith}
use Rattle.std.specs.Prelude.{All}
use Rattle.std.proofs.lemmas.List.{take_all}
use Rattle.std.proofs.lemmas.List.Elements.{All-more}
use Rattle.graph_mean.specs.Graph.{Held}
use Rattle.array_tests.specs.Small.{IsSlim}
use Rattle.array_tests.proofs.tests.opening.are_slim.Goals as goal

pub loop-graph-preserved : goal.loop-graph-preserved
loop-graph-preserved c = All-more IsSlim c.args.graphs.now c.loop-graph.graph-index c.graph-item.result c.loop-graph-test.true c.loop-graph.invariant
    (subst IsSlim c.graph-item.is (let e = c.bufs.ensures in let few = c.if-bufs-gt2048.false in omega (arith, e, few)))

pub returns : goal.returns
returns c = λ is. subst (λ (l : List Held). All IsSlim l) (take_all c.loop-graph.graph-index c.args.graphs.now c.loop-graph-test.false) c.loop-graph.invariant
