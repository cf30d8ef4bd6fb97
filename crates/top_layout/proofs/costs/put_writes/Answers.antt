use Rattle.std.proofs.Common.{true, false, arith}
use Rattle.std.proofs.lemmas.Result.{err_from_is_err_and}
use Rattle.std.specs.Prelude.{ℕ, ◌+◌}
use Rattle.lay_core.specs.Layout.{data_units}
use Rattle.top_layout.specs.Lines.{write_line, writes_text}
use Rattle.top_layout.proofs.LinesFrom.{line_cut, line_first, line_none, line_put}
use Rattle.top_layout.proofs.costs.put_writes.Goals as goal

pub loop-unit-init : goal.loop-unit-init
unfolding writes_text
loop-unit-init g c = record {
  rest = λ told b new puts. line_first (λ (i : ℕ). write_line (g.L.Layout.shape c.args.layout.now) (i + 1)) (data_units (g.L.Layout.shape c.args.layout.now)) b _ new puts;
  later = omega arith;
}

pub returns-in_err-put-clause-output : goal.returns-in_err-put-clause-output
returns-in_err-put-clause-output g c = λ told.
    let p = err_from_is_err_and c.from_residual.result c.from_residual.ensures.1 in
    rw p.1 (c.loop-unit.invariant.rest told false _
    (line_cut (λ (i : ℕ). write_line (g.L.Layout.shape c.args.layout.now) (i + 1)) c.loop-unit.unit (data_units (g.L.Layout.shape c.args.layout.now)) _ _ (omega (arith, c.loop-unit-test.true, c.data_of-unit-end.ensures))
    (rw c.set_write.ensures at (c.in_err-put.ensures.output told))))

pub loop-unit-preserved : goal.loop-unit-preserved
loop-unit-preserved g c = record {
  rest = λ told b new puts. c.loop-unit.invariant.rest told b new
      (line_put (λ (i : ℕ). write_line (g.L.Layout.shape c.args.layout.now) (i + 1)) c.loop-unit.unit (data_units (g.L.Layout.shape c.args.layout.now)) b _ _ new (omega (arith, c.loop-unit-test.true, c.data_of-unit-end.ensures))
      (rw c.set_write.ensures at (c.in_ok-put.ensures.output told)) puts);
  later = omega (arith, c.put.ensures.later, c.loop-unit.invariant.later);
}

pub returns-clause-output : goal.returns-clause-output
returns-clause-output g c = λ told.
    c.loop-unit.invariant.rest told true _
    (line_none (λ (i : ℕ). write_line (g.L.Layout.shape c.args.layout.now) (i + 1)) c.loop-unit.unit (data_units (g.L.Layout.shape c.args.layout.now)) _ (omega (arith, c.loop-unit-test.false, c.data_of-unit-end.ensures)))
