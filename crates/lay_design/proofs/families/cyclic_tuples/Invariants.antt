use Rattle.std.proofs.Common.{◌≡◌, map}
use Rattle.std.specs.List.{range_with_len}
use Rattle.lay_design.specs.Families.{moved, flat}
use Rattle.lay_design.proofs.families.cyclic_tuples.Given as goal

abbrev pub invariant-loop-by : goal.invariant-loop-by
invariant-loop-by l = l.list.items ≡ flat (map (moved l.v l.base) (range_with_len 0 l.by))
