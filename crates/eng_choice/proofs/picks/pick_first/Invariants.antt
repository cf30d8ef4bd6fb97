use Rattle.std.proofs.Common.{◌≤◌}
use Rattle.eng_choice.specs.Picked.{CanNothingAmong}
use Rattle.eng_choice.proofs.picks.pick_first.Given as goal

-- none of the halves so far can anything
abbrev pub invariant-loop-half : goal.invariant-loop-half
invariant-loop-half g l = record {
  behind : 1 ≤ l.half → CanNothingAmong g.L.Layout l.array l.next 17;
  before : 2 ≤ l.half → CanNothingAmong g.L.Layout l.array 0 l.next;
}
