use Rattle.std.proofs.Common.{◌≡◌, ◌≤◌, replicate, vec_capacity}
use Rattle.eng_log.specs.Handed.{no_region}
use Rattle.eng_log.proofs.handed.Regions.empty.Given as goal

-- an empty one for each turn so far
abbrev pub invariant-loop-i : goal.invariant-loop-i
invariant-loop-i l = (l.list.items ≡ replicate l.i no_region) × (l.count ≤ vec_capacity l.list)
