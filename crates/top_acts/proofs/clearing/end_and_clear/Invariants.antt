use Rattle.std.proofs.Common.{◌≡◌, Some, false, None}
use Rattle.eng_cols.specs.Cols.{IsFor}
use Rattle.eng_cols.specs.declared.spot.Loss.{Loss}
use Rattle.eng_cols.specs.Stripes.{states_of}
use Rattle.top_close.specs.Ended.{IsLossBy}
use Rattle.top_close.specs.Stage.{device_count}
use Rattle.top_rounds.specs.Labels.{IsLabelFor}
use Rattle.top_acts.specs.Failed.{IsLeftLost}
use Rattle.top_acts.proofs.Clears.{AllSteps, Ends, EndsBehind}
use Rattle.top_acts.proofs.clearing.end_and_clear.Given as goal

-- the array was closed, and each try so far was broken off by another device that failed; whatever comes of the tries from here on comes of all
abbrev pub invariant-loop : goal.invariant-loop
invariant-loop g l = record {
  ends : Ends g.D.Disk l.blank false l.fn.label l.label l.fn.hand.ending.columns.items l.hand.ending.columns.items l.fn.devices l.devices l.hand.ending.lost;
  first : l.fn.hand.ending.lost ≡ None → EndsBehind g.D.Disk l.blank l.fn.label l.label l.fn.hand.ending.columns.items l.hand.ending.columns.items l.fn.devices l.devices l.hand.ending.lost;
  left : (loss : Loss) → l.fn.hand.ending.lost ≡ Some loss → IsLeftLost g.D.Disk loss l.fn.label l.label l.fn.hand.ending.columns.items l.hand.ending.columns.items l.fn.devices l.devices;
  steps : AllSteps g.D.Disk l.blank (g.L.Layout.shape l.layout) l.fn.hand.ending.lost l.fn.label l.label l.fn.hand.ending.columns.items l.hand.ending.columns.items l.fn.devices l.devices l.hand.ending.lost;
  lost : IsLossBy (g.L.Layout.shape l.layout) l.fn.hand.ending.lost (states_of (g.L.Layout.shape l.layout) l.hand.ending.columns.items) l.hand.ending.lost;
  held : IsLabelFor l.hand.ending.columns.items l.label;
  judge : IsFor (g.L.Layout.shape l.layout) l.hand.judge;
}

abbrev pub decreases-loop : goal.decreases-loop
decreases-loop g l = device_count l.hand.ending.columns.items
