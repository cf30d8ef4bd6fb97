use Rattle.std.proofs.Common.{◌≡◌, ◌≤◌}
use Rattle.graph_check.specs.Pieces.{noted_of}
use Rattle.graph_check.proofs.tables.cuts.count_of.Given as goal

-- the offsets so far
abbrev pub invariant-loop-o : goal.invariant-loop-o
invariant-loop-o l = record { count : l.count ≡ noted_of l.cuts l.stripe l.o; most : l.count ≤ l.o }
