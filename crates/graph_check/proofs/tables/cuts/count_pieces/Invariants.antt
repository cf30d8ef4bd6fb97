use Rattle.std.proofs.Common.{◌≡◌, ◌*◌, ◌≤◌}
use Rattle.graph_check.proofs.Cutting.{noted_below}
use Rattle.graph_check.proofs.tables.cuts.count_pieces.Given as goal

-- the stripes so far
abbrev pub invariant-loop-s : goal.invariant-loop-s
invariant-loop-s l = record { count : l.count ≡ noted_below l.task.unit_sectors l.cuts l.s; most : l.count ≤ 128 * l.s }
