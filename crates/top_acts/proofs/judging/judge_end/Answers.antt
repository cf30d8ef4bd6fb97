use Rattle.std.proofs.Common.{◌≡◌, ◌∙◌, None, ap, length, subst, sym}
use Rattle.eng_cols.specs.Settable.{IsSettable}
use Rattle.eng_cols.specs.Stripes.{states_of}
use Rattle.top_close.specs.Ended.{IsLossBy}
use Rattle.top_rounds.specs.Rounds.{in_end}
use Rattle.top_rounds.proofs.RoundLaws.{whole_slice}
use Rattle.top_acts.proofs.judging.judge_end.Goals as goal

pub end_of-hand-requires-clause-columns : goal.end_of-hand-requires-clause-columns
end_of-hand-requires-clause-columns g c = subst (IsSettable (g.L.Layout.shape c.args.layout.now)) (sym c.as_mut_slice.ensures.value) c.requires.columns

pub returns-clause-columns : goal.returns-clause-columns
returns-clause-columns g c =
    let e = c.args.hand.now.ending in
    let r = c.end_of-hand in
    let own : length e.columns.items ≡ e.columns.len = sym e.columns.ok.0 in
    let same = whole_slice e.columns.len r.new.columns e.columns.items own (r.auto.columns ∙ (ap length c.as_mut_slice.ensures.value ∙ own)) in
    same ∙ (r.ensures.columns ∙ ap (in_end r.result) c.as_mut_slice.ensures.value)

pub returns-clause-lost : goal.returns-clause-lost
returns-clause-lost g c =
    let y = g.L.Layout.shape c.args.layout.now in
    let e = c.args.hand.now.ending in
    let r = c.end_of-hand in
    let own : length e.columns.items ≡ e.columns.len = sym e.columns.ok.0 in
    let same = whole_slice e.columns.len r.new.columns e.columns.items own (r.auto.columns ∙ (ap length c.as_mut_slice.ensures.value ∙ own)) in
    subst (λ l. IsLossBy y None (states_of y l) r.result) (sym same) r.ensures.lost
