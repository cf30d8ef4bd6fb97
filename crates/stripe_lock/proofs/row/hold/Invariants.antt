use Rattle.std.proofs.Common.{◌≤◌, take, vec_capacity}
use Rattle.stripe_lock.specs.Rows.{Grows}
use Rattle.stripe_lock.proofs.row.hold.Given as goal

abbrev pub invariant-loop-i : goal.invariant-loop-i
invariant-loop-i l = record { grows : Grows l.initial.rows.items l.owner (take l.i l.stripes) l.mode l.rows.items; room : vec_capacity l.initial.rows ≤ vec_capacity l.rows }
