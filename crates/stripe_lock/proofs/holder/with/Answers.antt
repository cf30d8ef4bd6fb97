use Rattle.std.proofs.Common.{rules}
use Rattle.stripe_lock.specs.Holder.{added}
use Rattle.stripe_lock.proofs.holder.with.Goals as goal

pub returns : goal.returns
unfolding added
returns c = search rules
