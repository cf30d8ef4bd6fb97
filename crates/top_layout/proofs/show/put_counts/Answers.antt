use Rattle.std.proofs.Common.{◌++◌, is_ok, false}
use Rattle.std.proofs.lemmas.Result.{err_from_is_err_and}
use Rattle.raid_bay.specs.SinkLaws.{puts_cut, puts_then}
use Rattle.top_layout.specs.Lines.{columns_text, degraded_line, loads_text, writes_text}
use Rattle.top_layout.proofs.show.put_counts.Goals as goal

pub returns-in_err-put_columns-clause-output : goal.returns-in_err-put_columns-clause-output
returns-in_err-put_columns-clause-output g c = λ told.
    let p = err_from_is_err_and c.from_residual.result c.from_residual.ensures.1 in
    rw p.1 (puts_cut _ _ (columns_text (g.L.Layout.shape c.args.layout.now)) ((loads_text (g.L.Layout.shape c.args.layout.now)) ++ (writes_text (g.L.Layout.shape c.args.layout.now) ++ degraded_line (g.L.Layout.shape c.args.layout.now))) (c.in_err-put_columns.ensures.output told))

pub returns-in_err-put_loads-clause-output : goal.returns-in_err-put_loads-clause-output
returns-in_err-put_loads-clause-output g c = λ told.
    let p = err_from_is_err_and c.from_residual-in_err-put_loads.result c.from_residual-in_err-put_loads.ensures.1 in
    rw p.1 (puts_then false _ _ _ (columns_text (g.L.Layout.shape c.args.layout.now)) ((loads_text (g.L.Layout.shape c.args.layout.now)) ++ (writes_text (g.L.Layout.shape c.args.layout.now) ++ degraded_line (g.L.Layout.shape c.args.layout.now))) (c.in_ok-put_columns.ensures.output told) (puts_cut _ _ (loads_text (g.L.Layout.shape c.args.layout.now)) (writes_text (g.L.Layout.shape c.args.layout.now) ++ degraded_line (g.L.Layout.shape c.args.layout.now)) (c.in_err-put_loads.ensures.output told)))

pub returns-clause-output : goal.returns-clause-output
returns-clause-output g c = λ told.
    puts_then (is_ok c.put_costs.result) _ _ _ (columns_text (g.L.Layout.shape c.args.layout.now)) ((loads_text (g.L.Layout.shape c.args.layout.now)) ++ (writes_text (g.L.Layout.shape c.args.layout.now) ++ degraded_line (g.L.Layout.shape c.args.layout.now))) (c.in_ok-put_columns.ensures.output told)
    (puts_then (is_ok c.put_costs.result) _ _ _ (loads_text (g.L.Layout.shape c.args.layout.now)) (writes_text (g.L.Layout.shape c.args.layout.now) ++ degraded_line (g.L.Layout.shape c.args.layout.now)) (c.in_ok-put_loads.ensures.output told) (c.put_costs.ensures.output told))
