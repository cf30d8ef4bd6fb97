use Rattle.std.proofs.Common.{◌++◌, is_ok, false}
use Rattle.std.proofs.lemmas.Result.{err_from_is_err_and}
use Rattle.raid_bay.specs.SinkLaws.{puts_cut, puts_then}
use Rattle.top_layout.specs.Lines.{columns_text, degraded_line, head_line, layout_text, loads_text, stripes_text, writes_text}
use Rattle.top_layout.proofs.show.put_layout.Goals as goal

pub returns-in_err-put_head-clause-output : goal.returns-in_err-put_head-clause-output
unfolding layout_text
returns-in_err-put_head-clause-output g c = λ told.
    let p = err_from_is_err_and c.from_residual.result c.from_residual.ensures.1 in
    rw p.1 (puts_cut _ _ (head_line c.args.level (g.L.Layout.shape c.args.layout.now)) ((stripes_text (g.L.Layout.shape c.args.layout.now)) ++ (columns_text (g.L.Layout.shape c.args.layout.now) ++ (loads_text (g.L.Layout.shape c.args.layout.now) ++ (writes_text (g.L.Layout.shape c.args.layout.now) ++ degraded_line (g.L.Layout.shape c.args.layout.now))))) (c.in_err-put_head.ensures.output told))

pub returns-in_err-put_stripes-clause-output : goal.returns-in_err-put_stripes-clause-output
unfolding layout_text
returns-in_err-put_stripes-clause-output g c = λ told.
    let p = err_from_is_err_and c.from_residual-in_err-put_stripes.result c.from_residual-in_err-put_stripes.ensures.1 in
    rw p.1 (puts_then false _ _ _ (head_line c.args.level (g.L.Layout.shape c.args.layout.now)) ((stripes_text (g.L.Layout.shape c.args.layout.now)) ++ (columns_text (g.L.Layout.shape c.args.layout.now) ++ (loads_text (g.L.Layout.shape c.args.layout.now) ++ (writes_text (g.L.Layout.shape c.args.layout.now) ++ degraded_line (g.L.Layout.shape c.args.layout.now))))) (c.in_ok-put_head.ensures.output told) (puts_cut _ _ (stripes_text (g.L.Layout.shape c.args.layout.now)) (columns_text (g.L.Layout.shape c.args.layout.now) ++ (loads_text (g.L.Layout.shape c.args.layout.now) ++ (writes_text (g.L.Layout.shape c.args.layout.now) ++ degraded_line (g.L.Layout.shape c.args.layout.now)))) (c.in_err-put_stripes.ensures.output told)))

pub returns-clause-output : goal.returns-clause-output
unfolding layout_text
returns-clause-output g c = λ told.
    puts_then (is_ok c.put_counts.result) _ _ _ (head_line c.args.level (g.L.Layout.shape c.args.layout.now)) ((stripes_text (g.L.Layout.shape c.args.layout.now)) ++ (columns_text (g.L.Layout.shape c.args.layout.now) ++ (loads_text (g.L.Layout.shape c.args.layout.now) ++ (writes_text (g.L.Layout.shape c.args.layout.now) ++ degraded_line (g.L.Layout.shape c.args.layout.now))))) (c.in_ok-put_head.ensures.output told)
    (puts_then (is_ok c.put_counts.result) _ _ _ (stripes_text (g.L.Layout.shape c.args.layout.now)) (columns_text (g.L.Layout.shape c.args.layout.now) ++ (loads_text (g.L.Layout.shape c.args.layout.now) ++ (writes_text (g.L.Layout.shape c.args.layout.now) ++ degraded_line (g.L.Layout.shape c.args.layout.now)))) (c.in_ok-put_stripes.ensures.output told) (c.put_counts.ensures.output told))
