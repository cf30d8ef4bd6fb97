use Rattle.std.proofs.Common.{◌≡◌, ℕ}
use Rattle.stripe_lock.specs.declared.mode.Mode.TheVariants.{Exclude}
use Rattle.eng_choice.proofs.FreeStripes.{free-where, one-each}
use Rattle.eng_choice.proofs.takable.is_stripe_free.Goals as goal

pub returns : goal.returns
returns g c = free-where c.args.array.now.locks c.args.client Exclude _ (λ (s : ℕ). s ≡ c.args.stripe) (one-each c.args.stripe) c.can_take.result c.can_take.ensures.conflict
