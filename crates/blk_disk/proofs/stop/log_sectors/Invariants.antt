use Rattle.std.proofs.Common.{◌≡◌, ◌++◌}
use Rattle.std.specs.Prelude.{vec_capacity}
use Rattle.blk_disk.specs.Stops.{written}
use Rattle.blk_disk.proofs.stop.log_sectors.Given as goal

abbrev pub invariant-loop-i : goal.invariant-loop-i
invariant-loop-i l = (l.logged.items ≡ l.fn.logged.items ++ written l.first l.from l.i) × (vec_capacity l.logged ≡ vec_capacity l.fn.logged)
