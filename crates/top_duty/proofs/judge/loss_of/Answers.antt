use Rattle.std.specs.Prelude.{List}
use Rattle.std.proofs.Common.{◌∙◌, ap}
use Rattle.eng_cols.specs.Cols.{Columns, ColumnState}
use Rattle.eng_cols.specs.Stripes.{states_of}
use Rattle.top_duty.specs.Steps.{with_killed}
use Rattle.top_duty.proofs.Losing.{loss_found}
use Rattle.top_duty.proofs.judge.loss_of.Goals as goal

pub returns-clause-loss : goal.returns-clause-loss
returns-clause-loss g c =
    loss_found (g.L.Layout.shape c.args.layout.now) c.kill_if.new.judge.states (with_killed c.args.dead (states_of (g.L.Layout.shape c.args.layout.now) c.args.columns.now)) c.lost.result
    (ap (λ (v : Columns). v.states) c.kill_if.ensures ∙ ap (λ (l : List ColumnState). with_killed c.args.dead l) (ap (λ (v : Columns). v.states) c.set.ensures.columns))
    c.lost.ensures
