use Rattle.std.proofs.Common.{◌∙◌, None, ap, subst, sym}
use Rattle.std.specs.Prelude.{not}
use Rattle.eng_cols.specs.Settable.{IsSettable}
use Rattle.eng_cols.specs.Stripes.{states_of}
use Rattle.top_close.specs.Ended.{IsLossBy}
use Rattle.top_rounds.specs.Labels.{given_up}
use Rattle.top_rounds.proofs.RoundLaws.{given_death, settable_after}
use Rattle.top_acts.proofs.Leaving.{given_still, in_end_some}
use Rattle.top_acts.proofs.judging.end_of.Goals as goal

pub loss_of-requires-2-clause-columns : goal.loss_of-requires-2-clause-columns
loss_of-requires-2-clause-columns g c =
    let y = g.L.Layout.shape c.args.layout.now in
    let columns = c.args.columns.now in
    let dies = given_death columns in
    subst (IsSettable y) (sym c.give_up.ensures)
    (settable_after y columns (given_up columns) dies (c.deaths_bring_no_unit_back.ensures.filling columns (given_up columns) dies) (c.deaths_bring_no_unit_back.ensures.spread columns (given_up columns) dies) c.requires.columns)

pub returns-clause-columns : goal.returns-clause-columns
returns-clause-columns g c =
    let y = g.L.Layout.shape c.args.layout.now in
    let columns = c.args.columns.now in
    let some = given_still y columns c.loss_of.result c.loss_of-2.result c.requires.columns.filling (c.is_none.ensures ∙ ap not c.if-is_none.false) c.loss_of.ensures.lost
    (subst (λ l. IsLossBy y None (states_of y l) c.loss_of-2.result) c.give_up.ensures c.loss_of-2.ensures.lost) in
    c.give_up.ensures ∙ sym (in_end_some c.loss_of-2.result columns some)
