use Rattle.std.proofs.Common.{◌≡◌}
use Rattle.eng_cols.specs.Cols.{IsFor}
use Rattle.top_rounds.specs.Labels.{IsLabelFor, seating_in, with_round}
use Rattle.top_close.specs.Stage.{device_count}
use Rattle.top_rounds.specs.Rounds.{HaveTried}
use Rattle.top_rounds.proofs.rounds.try_rounds.Given as goal

-- the rounds so far were tried, and none of them was whole
abbrev pub invariant-loop-devices : goal.invariant-loop-devices
invariant-loop-devices g l = record {
  tried : HaveTried g.D.Disk l.fn.label l.label l.fn.columns l.columns l.fn.devices l.devices;
  same : l.label ≡ with_round l.fn.label l.label.counter l.fn.label.clean (seating_in l.label);
  held : IsLabelFor l.columns l.label;
  judge : IsFor (g.L.Layout.shape l.layout) l.judge;
}

abbrev pub decreases-loop-devices : goal.decreases-loop-devices
decreases-loop-devices g l = device_count l.columns
