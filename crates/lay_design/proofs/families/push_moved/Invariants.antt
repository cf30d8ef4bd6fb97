use Rattle.std.proofs.Common.{◌≡◌, ◌++◌, take}
use Rattle.lay_design.specs.Families.{moved}
use Rattle.lay_design.proofs.families.push_moved.Given as goal

abbrev pub invariant-loop-object : goal.invariant-loop-object
invariant-loop-object l = l.list.items ≡ l.fn.list.items ++ moved l.v (take l.object-index l.base) l.by
