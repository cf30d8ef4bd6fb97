use Rattle.std.proofs.Common.{◌≡◌, ◌++◌, map}
use Rattle.top_duty.specs.Views.{views_of}
use Rattle.raid_top.proofs.setup.graphs_of.Given as goal

-- the graphs of the file, and those so far
abbrev pub invariant-loop-graph : goal.invariant-loop-graph
invariant-loop-graph l = record {
  next : goal.iterator-loop-graph.can_next l.graph-iterator;
  finite : goal.iterator-loop-graph.is_finite l.graph-iterator;
  graphs : views_of l.graphs.items ≡ map (λ n. n.graph) l.fn.book ++ views_of l.yielded;
}
