use Rattle.std.proofs.Common.{◌≡◌, ◌++◌, map, take, drop, vec_capacity}
use Rattle.stripe_lock.specs.Rows.{without_owner}
use Rattle.stripe_lock.proofs.row.leave.Given as goal

abbrev pub invariant-loop-i : goal.invariant-loop-i
invariant-loop-i l = (l.rows.items ≡ map (without_owner l.owner) (take l.i l.initial.rows.items) ++ drop l.i l.initial.rows.items) × (vec_capacity l.rows ≡ vec_capacity l.initial.rows)
