use Rattle.std.proofs.Common.{true, false, arith}
use Rattle.std.proofs.lemmas.Result.{err_from_is_err_and}
use Rattle.top_layout.specs.Lines.{column_line, columns_text}
use Rattle.top_layout.proofs.LinesFrom.{line_cut, line_first, line_none, line_put}
use Rattle.top_layout.proofs.columns.put_columns.Goals as goal

pub loop-column-init : goal.loop-column-init
unfolding columns_text
loop-column-init g c = record {
  rest = λ told b new puts. line_first (column_line (g.L.Layout.shape c.args.layout.now)) ((g.L.Layout.shape c.args.layout.now).columns) b _ new puts;
  later = omega arith;
}

pub returns-in_err-put-clause-output : goal.returns-in_err-put-clause-output
returns-in_err-put-clause-output g c = λ told.
    let p = err_from_is_err_and c.from_residual.result c.from_residual.ensures.1 in
    rw p.1 (c.loop-column.invariant.rest told false _
    (line_cut (column_line (g.L.Layout.shape c.args.layout.now)) c.loop-column.column ((g.L.Layout.shape c.args.layout.now).columns) _ _ (omega (arith, c.loop-column-test.true, c.columns-column-end.ensures))
    (rw c.set_column.ensures at (c.in_err-put.ensures.output told))))

pub loop-column-preserved : goal.loop-column-preserved
loop-column-preserved g c = record {
  rest = λ told b new puts. c.loop-column.invariant.rest told b new
      (line_put (column_line (g.L.Layout.shape c.args.layout.now)) c.loop-column.column ((g.L.Layout.shape c.args.layout.now).columns) b _ _ new (omega (arith, c.loop-column-test.true, c.columns-column-end.ensures))
      (rw c.set_column.ensures at (c.in_ok-put.ensures.output told)) puts);
  later = omega (arith, c.put.ensures.later, c.loop-column.invariant.later);
}

pub returns-clause-output : goal.returns-clause-output
returns-clause-output g c = λ told.
    c.loop-column.invariant.rest told true _
    (line_none (column_line (g.L.Layout.shape c.args.layout.now)) c.loop-column.column ((g.L.Layout.shape c.args.layout.now).columns) _ (omega (arith, c.loop-column-test.false, c.columns-column-end.ensures)))
