use Rattle.std.proofs.Common.{◌≡◌}
use Rattle.bench.proofs.running.run_once.Given as goal

abbrev pub invariant-loop : goal.invariant-loop
invariant-loop l = l.run.graph ≡ l.graph.drawn
