use Rattle.std.proofs.Common.{take}
use Rattle.std.specs.Prelude.{All}
use Rattle.array_tests.specs.Small.{IsSlim}
use Rattle.array_tests.proofs.tests.opening.are_slim.Given as goal

-- the graphs so far are slim
abbrev pub invariant-loop-graph : goal.invariant-loop-graph
invariant-loop-graph l = All IsSlim (take l.graph-index l.graphs)
