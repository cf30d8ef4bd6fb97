use Rattle.std.proofs.Common.{rules, ◌<◌, ◌^◌, arith}
use Rattle.stripe_lock.specs.Holder.{removed}
use Rattle.stripe_lock.proofs.Bits.{removed_own_any}
use Rattle.stripe_lock.proofs.holder.without.Goals as goal

pub returns-clause-set : goal.returns-clause-set
unfolding removed
returns-clause-set c = search rules

pub returns-clause-own : goal.returns-clause-own
unfolding removed
returns-clause-own c = let low : c.args.owners < 2 ^ 32 = omega arith in let own = removed_own_any c.args.owners c.args.owner low in search rules
