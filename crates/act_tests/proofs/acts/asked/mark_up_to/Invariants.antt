use Rattle.std.proofs.Common.{◌≡◌}
use Rattle.act_tests.proofs.acts.asked.mark_up_to.Given as goal

-- the map stays one of as many stripes
abbrev pub invariant-loop-stripe : goal.invariant-loop-stripe
invariant-loop-stripe g l = l.map.stripes ≡ l.fn.map.stripes
