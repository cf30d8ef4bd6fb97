use Rattle.std.proofs.Common.{ℕ, ◌<◌, [], ◌∷◌, get_or}
use Rattle.stripe_lock.specs.Rows.{IsBarred}
use Rattle.stripe_lock.proofs.row.is_barred.Given as goal

abbrev pub invariant-loop-stripe : goal.invariant-loop-stripe
invariant-loop-stripe l = (k : ℕ) → k < l.stripe-index → ¬ IsBarred l.rows l.owner (get_or l.stripes k 0 ∷ []) l.mode
