use Rattle.std.proofs.Common.{◌-◌, ◌<◌, ◌≤◌, length}
use Rattle.std.specs.List.{AllWithin}
use Rattle.stripe_lock.proofs.row.place.Given as goal

abbrev pub invariant-loop-low : goal.invariant-loop-low
invariant-loop-low l = (l.low ≤ l.high) × (l.high ≤ length l.rows) × AllWithin (λ row. row.stripe < l.stripe) l.rows 0 l.low × AllWithin (λ row. l.stripe ≤ row.stripe) l.rows l.high (length l.rows)

abbrev pub decreases-loop-low : goal.decreases-loop-low
decreases-loop-low l = l.high - l.low
