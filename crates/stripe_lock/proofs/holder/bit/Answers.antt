use Rattle.std.proofs.lemmas.Bool.{lt-ltb, le-ltb}
use Rattle.std.proofs.lemmas.Nat.{one_shl}
use Rattle.std.proofs.Common.{◌≤◌, ◌<◌, arith}
use Rattle.stripe_lock.specs.Holder.{bit_of}
use Rattle.stripe_lock.proofs.holder.bit.Goals as goal

pub returns-then-owner-lt32 : goal.returns-then-owner-lt32
unfolding bit_of
returns-then-owner-lt32 c = let low : c.args.owner < 32 = omega arith in rw (lt-ltb c.args.owner 32 low) (one_shl c.args.owner 32 low)

pub returns-else-owner-lt32 : goal.returns-else-owner-lt32
unfolding bit_of
returns-else-owner-lt32 c = let high : 32 ≤ c.args.owner = omega arith in rw (le-ltb c.args.owner 32 high)
