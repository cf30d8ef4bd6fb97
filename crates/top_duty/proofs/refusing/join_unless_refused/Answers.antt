use Rattle.std.proofs.lemmas.Result.{IfErr-weaker, IfOk-weaker}
use Rattle.eng_cols.specs.Stripes.{states_of}
use Rattle.top_bay.specs.Views.{asked_seen}
use Rattle.top_duty.specs.Duty.{rebuilds_by}
use Rattle.top_duty.specs.Steps.{with_killed}
use Rattle.top_duty.specs.Start.{other_filling}
use Rattle.top_duty.proofs.Unlost.{unlost_refused}
use Rattle.top_duty.proofs.refusing.join_unless_refused.Goals as goal

pub returns-in-None-clause-goes : goal.returns-in-None-clause-goes
returns-in-None-clause-goes g c = IfOk-weaker c.join_unlost.result _ _ (λ gs h. (c.in-None.ensures.loss, h)) c.join_unlost.ensures.goes

pub returns-in-None-clause-refused : goal.returns-in-None-clause-refused
returns-in-None-clause-refused g c =
    let y = g.L.Layout.shape c.args.layout.now in
    IfErr-weaker c.join_unlost.result _ _
    (λ s h. unlost_refused y (asked_seen c.args.asked.now) (with_killed c.args.dead (states_of y c.args.columns.now)) (other_filling (asked_seen c.args.asked.now) c.args.columns.now) (rebuilds_by y c.args.columns.now c.args.start) c.args.start c.in-None.ensures.loss s h)
    c.join_unlost.ensures.refused
