use Rattle.std.proofs.Common.{◌≤◌, ◌-◌}
use Rattle.eng_choice.specs.Picked.{CanNothingAmong}
use Rattle.eng_choice.proofs.picks.pick_among.Given as goal

-- the clients so far can do nothing
abbrev pub invariant-loop-client : goal.invariant-loop-client
invariant-loop-client g l = record { on : l.initial.from ≤ l.from; most : l.from ≤ 17; nothing : CanNothingAmong g.L.Layout l.array l.initial.from l.from }

abbrev pub decreases-loop-client : goal.decreases-loop-client
decreases-loop-client g l = 17 - l.from
