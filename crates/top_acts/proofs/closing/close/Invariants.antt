use Rattle.std.proofs.Common.{◌≡◌, ◌+◌, ℕ, true, None}
use Rattle.eng_cols.specs.Cols.{IsFor, HasDeviceOn}
use Rattle.top_rounds.specs.Labels.{IsLabelFor, seating_in, with_round}
use Rattle.top_close.specs.Stage.{device_count}
use Rattle.top_rounds.specs.Rounds.{HoldsTried}
use Rattle.top_acts.specs.Closed.{AreCounted, CallInTurn}
use Rattle.top_acts.proofs.closing.close.Given as goal

-- each attempt so far was broken off by another device that failed
abbrev pub invariant-loop : goal.invariant-loop
invariant-loop g l = record {
  counted : AreCounted g.D.Disk None 0 l.fn.label l.label l.fn.hand.ending.columns.items l.hand.ending.columns.items l.fn.devices l.devices;
  each : CallInTurn g.D.Disk None true true l.fn.hand.ending.columns.items l.hand.ending.columns.items l.fn.devices l.devices;
  holds : (c d : ℕ) → HasDeviceOn l.hand.ending.columns.items c d → HoldsTried g.D.Disk l.fn.label (l.label.counter + 1) l.fn.devices l.devices c d;
  same : l.label ≡ with_round l.fn.label l.label.counter l.fn.label.clean (seating_in l.label);
  held : IsLabelFor l.hand.ending.columns.items l.label;
  judge : IsFor (g.L.Layout.shape l.layout) l.hand.judge;
}

abbrev pub decreases-loop : goal.decreases-loop
decreases-loop g l = device_count l.hand.ending.columns.items
