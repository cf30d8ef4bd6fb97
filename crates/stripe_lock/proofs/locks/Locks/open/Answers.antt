use Rattle.stripe_lock.proofs.Tables.{idle}
use Rattle.stripe_lock.proofs.locks.Locks.open.Goals as goal

pub returns : goal.returns
returns c = idle c.args.owners c.in_ok-rows.rows.items c.in_ok-rows.ensures.items
