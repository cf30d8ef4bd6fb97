use Rattle.std.proofs.Common.{List, None, subst}
use Rattle.eng_cols.specs.declared.column.Column.{Column}
use Rattle.eng_cols.specs.Stripes.{states_of}
use Rattle.top_close.specs.Ended.{IsLossBy}
use Rattle.act_tests.proofs.acts.asked.acted_on.Goals as goal

pub fail_column-requires-clause-by : goal.fail_column-requires-clause-by
fail_column-requires-clause-by g c =
    let y = g.L.Layout.shape c.args.layout.now in
    subst (λ (cs : List Column). IsLossBy y None (states_of y cs) c.loss_of-hand.result) c.deref-in-Fail.ensures.value c.loss_of-hand.ensures.lost
