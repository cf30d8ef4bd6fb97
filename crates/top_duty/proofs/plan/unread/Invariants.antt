use Rattle.std.proofs.Common.{◌≡◌, replicate}
use Rattle.top_open.specs.declared.fronts.Front.TheVariants as front
use Rattle.top_duty.proofs.plan.unread.Given as goal

abbrev pub invariant-loop : goal.invariant-loop
invariant-loop l = l.fronts.items ≡ replicate l.counter front.Away
