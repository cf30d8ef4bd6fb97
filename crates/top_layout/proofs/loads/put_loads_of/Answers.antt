use Rattle.std.proofs.Common.{true, false, arith}
use Rattle.std.proofs.lemmas.Result.{err_from_is_err_and}
use Rattle.top_layout.specs.Lines.{load_text, loads_of}
use Rattle.top_layout.proofs.LinesFrom.{line_cut, line_first, line_none, line_put}
use Rattle.top_layout.proofs.loads.put_loads_of.Goals as goal

pub loop-other-init : goal.loop-other-init
unfolding loads_of
loop-other-init g c = record {
  rest = λ told b new puts. line_first (load_text (g.L.Layout.shape c.args.layout.now) c.args.column) ((g.L.Layout.shape c.args.layout.now).columns) b _ new puts;
  later = omega arith;
}

pub returns-in_err-put_load-clause-output : goal.returns-in_err-put_load-clause-output
returns-in_err-put_load-clause-output g c = λ told.
    let p = err_from_is_err_and c.from_residual.result c.from_residual.ensures.1 in
    rw p.1 (c.loop-other.invariant.rest told false _
    (line_cut (load_text (g.L.Layout.shape c.args.layout.now) c.args.column) c.loop-other.other ((g.L.Layout.shape c.args.layout.now).columns) _ _ (omega (arith, c.loop-other-test.true, c.columns-other-end.ensures))
    (c.in_err-put_load.ensures.output told)))

pub loop-other-preserved : goal.loop-other-preserved
loop-other-preserved g c = record {
  rest = λ told b new puts. c.loop-other.invariant.rest told b new
      (line_put (load_text (g.L.Layout.shape c.args.layout.now) c.args.column) c.loop-other.other ((g.L.Layout.shape c.args.layout.now).columns) b _ _ new (omega (arith, c.loop-other-test.true, c.columns-other-end.ensures))
      (c.in_ok-put_load.ensures.output told) puts);
  later = omega (arith, c.put_load.ensures.later, c.loop-other.invariant.later);
}

pub returns-clause-output : goal.returns-clause-output
returns-clause-output g c = λ told.
    c.loop-other.invariant.rest told true _
    (line_none (load_text (g.L.Layout.shape c.args.layout.now) c.args.column) c.loop-other.other ((g.L.Layout.shape c.args.layout.now).columns) _ (omega (arith, c.loop-other-test.false, c.columns-other-end.ensures)))
