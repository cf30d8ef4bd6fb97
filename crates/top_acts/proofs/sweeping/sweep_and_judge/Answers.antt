use Rattle.std.proofs.Common.{◌∙◌, ap, length, subst, sym, None}
use Rattle.eng_cols.specs.Stripes.{states_of}
use Rattle.top_close.specs.Ended.{IsLossBy}
use Rattle.eng_cols.specs.Settable.{IsSettable}
use Rattle.top_rounds.proofs.RoundLaws.{whole_slice}
use Rattle.top_acts.proofs.sweeping.sweep_and_judge.Goals as goal

pub returns-clause-lost : goal.returns-clause-lost
returns-clause-lost g c =
    let y = g.L.Layout.shape c.args.layout.now in
    let e = c.args.hand.now.ending in
    let new = c.sweep-count.new.columns in
    let own = sym e.columns.ok.0 in
    let same = whole_slice e.columns.len new e.columns.items own (c.sweep-count.ensures.swept.dies.count ∙ (ap length c.as_mut_slice-columns.ensures.value ∙ own)) in
    subst (λ l. IsLossBy y None (states_of y l) c.loss_of-hand.result) (sym same) c.loss_of-hand.ensures.lost

pub sweep-count-requires-clause-columns : goal.sweep-count-requires-clause-columns
sweep-count-requires-clause-columns g c = subst (λ l. IsSettable (g.L.Layout.shape c.args.layout.now) l) (sym c.as_mut_slice-columns.ensures.value) c.requires.columns
