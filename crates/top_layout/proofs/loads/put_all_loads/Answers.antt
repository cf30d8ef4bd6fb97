use Rattle.std.proofs.Common.{true, false, arith}
use Rattle.std.proofs.lemmas.Result.{err_from_is_err_and}
use Rattle.top_layout.specs.Lines.{loads_of}
use Rattle.top_layout.proofs.LinesFrom.{line_cut, line_first, line_none, line_put}
use Rattle.top_layout.proofs.loads.put_all_loads.Goals as goal

pub loop-column-init : goal.loop-column-init
loop-column-init g c = record {
  rest = λ told b new puts. line_first (loads_of (g.L.Layout.shape c.args.layout.now)) ((g.L.Layout.shape c.args.layout.now).columns) b _ new puts;
  later = omega arith;
}

pub returns-in_err-put_loads_of-clause-output : goal.returns-in_err-put_loads_of-clause-output
returns-in_err-put_loads_of-clause-output g c = λ told.
    let p = err_from_is_err_and c.from_residual.result c.from_residual.ensures.1 in
    rw p.1 (c.loop-column.invariant.rest told false _
    (line_cut (loads_of (g.L.Layout.shape c.args.layout.now)) c.loop-column.column ((g.L.Layout.shape c.args.layout.now).columns) _ _ (omega (arith, c.loop-column-test.true, c.columns-column-end.ensures))
    (c.in_err-put_loads_of.ensures.output told)))

pub loop-column-preserved : goal.loop-column-preserved
loop-column-preserved g c = record {
  rest = λ told b new puts. c.loop-column.invariant.rest told b new
      (line_put (loads_of (g.L.Layout.shape c.args.layout.now)) c.loop-column.column ((g.L.Layout.shape c.args.layout.now).columns) b _ _ new (omega (arith, c.loop-column-test.true, c.columns-column-end.ensures))
      (c.in_ok-put_loads_of.ensures.output told) puts);
  later = omega (arith, c.put_loads_of.ensures.later, c.loop-column.invariant.later);
}

pub returns-clause-output : goal.returns-clause-output
returns-clause-output g c = λ told.
    c.loop-column.invariant.rest told true _
    (line_none (loads_of (g.L.Layout.shape c.args.layout.now)) c.loop-column.column ((g.L.Layout.shape c.args.layout.now).columns) _ (omega (arith, c.loop-column-test.false, c.columns-column-end.ensures)))
