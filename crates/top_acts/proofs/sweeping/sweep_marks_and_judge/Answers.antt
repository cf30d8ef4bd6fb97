use Rattle.std.proofs.Common.{◌∙◌, ap, length, subst, sym, None}
use Rattle.eng_cols.specs.Stripes.{states_of}
use Rattle.raid_map.specs.Sweeping.{marks_stripe}
use Rattle.top_close.specs.Ended.{IsLossBy}
use Rattle.eng_cols.specs.Settable.{IsSettable}
use Rattle.top_rounds.proofs.RoundLaws.{whole_slice}
use Rattle.top_acts.specs.Sweeping.{SweepsMarked}
use Rattle.top_acts.proofs.sweeping.sweep_marks_and_judge.Goals as goal

pub returns-clause-lost : goal.returns-clause-lost
returns-clause-lost g c =
    let y = g.L.Layout.shape c.args.layout.now in
    let e = c.args.hand.now.ending in
    let s = c.sweep_marked-count in
    let own = sym e.columns.ok.0 in
    let same = whole_slice e.columns.len s.new.columns e.columns.items own (s.auto.columns ∙ (ap length c.as_mut_slice-columns.ensures.value ∙ own)) in
    subst (λ l. IsLossBy y None (states_of y l) c.loss_of-hand.result) (sym same) c.loss_of-hand.ensures.lost

pub returns-clause-swept : goal.returns-clause-swept
returns-clause-swept g c =
    let y = g.L.Layout.shape c.args.layout.now in
    let e = c.args.hand.now.ending in
    let s = c.sweep_marked-count in
    let own = sym e.columns.ok.0 in
    let same = whole_slice e.columns.len s.new.columns e.columns.items own (s.auto.columns ∙ (ap length c.as_mut_slice-columns.ensures.value ∙ own)) in
    subst (λ l. SweepsMarked g.D.Disk y (marks_stripe c.args.map.now) e.columns.items l c.args.devices.now s.new.devices s.result) (sym same)
    (subst (λ l. SweepsMarked g.D.Disk y (marks_stripe c.args.map.now) l s.new.columns c.args.devices.now s.new.devices s.result) c.as_mut_slice-columns.ensures.value (record {
      swept = s.ensures.swept;
      counted = s.ensures.counted;
      checks = s.ensures.checks;
      in_sync = s.ensures.in_sync;
      none = s.ensures.none;
      calls = s.ensures.calls;
    }))

pub sweep_marked-count-requires-clause-columns : goal.sweep_marked-count-requires-clause-columns
sweep_marked-count-requires-clause-columns g c = subst (λ l. IsSettable (g.L.Layout.shape c.args.layout.now) l) (sym c.as_mut_slice-columns.ensures.value) c.requires.columns
