use Rattle.std.proofs.Common.{◌≡◌, ◌∙◌, ap, length, subst, sym}
use Rattle.eng_cols.specs.Settable.{IsSettable}
use Rattle.eng_cols.specs.Stripes.{states_of}
use Rattle.raid_recon.specs.Ahead.{rows_ahead}
use Rattle.raid_recon.specs.Array.{Failed}
use Rattle.raid_recon.proofs.Windows.{rows-few}
use Rattle.top_rounds.specs.Rounds.{in_end}
use Rattle.top_rounds.proofs.RoundLaws.{any_death, settable_after, whole_slice}
use Rattle.top_acts.specs.Checked.{IsChecked}
use Rattle.top_acts.specs.Done.{unless_lost}
use Rattle.top_acts.specs.declared.done.Done.TheVariants as done
use Rattle.top_acts.proofs.checking.check.Goals as goal

pub sweep_check-count-requires-clause-columns : goal.sweep_check-count-requires-clause-columns
sweep_check-count-requires-clause-columns g c = subst (λ l. IsSettable (g.L.Layout.shape c.args.layout.now) l) (sym c.as_mut_slice-columns.ensures.value) c.requires.columns

pub judge_end-requires-clause-columns : goal.judge_end-requires-clause-columns
judge_end-requires-clause-columns g c =
    let y = g.L.Layout.shape c.args.layout.now in
    let e = c.args.hand.now.ending in
    let s = c.sweep_check-count.ensures in
    let old = c.as_mut_slice-columns.result.now in
    let new = c.sweep_check-count.new.columns in
    let own : length e.columns.items ≡ e.columns.len = sym e.columns.ok.0 in
    let same = whole_slice e.columns.len new e.columns.items own (s.dies.count ∙ (ap length c.as_mut_slice-columns.ensures.value ∙ own)) in
    let dies = any_death (Failed g.D.Disk (states_of y old) c.args.devices.now c.sweep_check-count.new.devices) old new s.dies in
    subst (λ l. IsSettable y l) (sym same)
    (settable_after y old new dies (c.deaths_bring_no_unit_back.ensures.filling old new dies) (c.deaths_bring_no_unit_back.ensures.spread old new dies)
    (subst (λ l. IsSettable y l) (sym c.as_mut_slice-columns.ensures.value) c.requires.columns))

pub returns-in-Some-clause-checked : goal.returns-in-Some-clause-checked
returns-in-Some-clause-checked g c =
    let y = g.L.Layout.shape c.args.layout.now in
    let e = c.args.hand.now.ending in
    let s = c.sweep_check-count.ensures in
    let old = c.as_mut_slice-columns.result.now in
    let new = c.sweep_check-count.new.columns in
    let value : old ≡ e.columns.items = c.as_mut_slice-columns.ensures.value in
    let own : length e.columns.items ≡ e.columns.len = sym e.columns.ok.0 in
    let same = whole_slice e.columns.len new e.columns.items own (s.dies.count ∙ (ap length value ∙ own)) in
    let j = c.judge_end in
    subst (λ l. IsChecked g.D.Disk y l j.new.hand.ending.columns.items c.args.devices.now c.sweep_check-count.new.devices j.new.hand.ending.lost done.Nothing) value (record {
      found = c.sweep_check-count.result;
      mid = new;
      told = sym (ap (λ o. unless_lost o (done.Check c.sweep_check-count.result)) c.in-Some.is);
      counted = s.counted;
      none = s.none;
      frame = s.frame;
      dies = s.dies;
      rows = rows_ahead y c.args.room.now;
      room = rows-few y c.args.room.now (g.met.L.Layout.is_layout c.args.layout.now);
      swept = s.swept;
      calls = s.calls;
      after_is = j.ensures.columns ∙ ap (in_end j.new.hand.ending.lost) same;
      lost_is = j.ensures.lost;
    })

pub returns-in-None-clause-checked : goal.returns-in-None-clause-checked
returns-in-None-clause-checked g c =
    let y = g.L.Layout.shape c.args.layout.now in
    let e = c.args.hand.now.ending in
    let s = c.sweep_check-count.ensures in
    let old = c.as_mut_slice-columns.result.now in
    let new = c.sweep_check-count.new.columns in
    let value : old ≡ e.columns.items = c.as_mut_slice-columns.ensures.value in
    let own : length e.columns.items ≡ e.columns.len = sym e.columns.ok.0 in
    let same = whole_slice e.columns.len new e.columns.items own (s.dies.count ∙ (ap length value ∙ own)) in
    let j = c.judge_end in
    subst (λ l. IsChecked g.D.Disk y l j.new.hand.ending.columns.items c.args.devices.now c.sweep_check-count.new.devices j.new.hand.ending.lost (done.Check c.sweep_check-count.result)) value (record {
      found = c.sweep_check-count.result;
      mid = new;
      told = sym (ap (λ o. unless_lost o (done.Check c.sweep_check-count.result)) c.in-None.is);
      counted = s.counted;
      none = s.none;
      frame = s.frame;
      dies = s.dies;
      rows = rows_ahead y c.args.room.now;
      room = rows-few y c.args.room.now (g.met.L.Layout.is_layout c.args.layout.now);
      swept = s.swept;
      calls = s.calls;
      after_is = j.ensures.columns ∙ ap (in_end j.new.hand.ending.lost) same;
      lost_is = j.ensures.lost;
    })
