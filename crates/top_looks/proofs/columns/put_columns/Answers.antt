use Rattle.std.proofs.Common.{true, false, length, arith}
use Rattle.std.proofs.lemmas.Result.{err_from_is_err_and}
use Rattle.top_looks.specs.Show.{column_text}
use Rattle.top_looks.specs.Steps.{columns_text}
use Rattle.top_looks.proofs.LinesFrom.{line_cut, line_first, line_none, line_put}
use Rattle.top_looks.proofs.columns.put_columns.Goals as goal

pub loop-c-init : goal.loop-c-init
unfolding columns_text
loop-c-init g c = record {
  rest = λ told b new puts. line_first (column_text c.args.disks.now c.args.columns.now) (length c.args.disks.now) b _ new puts;
  later = omega arith;
}

pub returns-in_err-put_column-clause-output : goal.returns-in_err-put_column-clause-output
returns-in_err-put_column-clause-output g c = λ told.
    let p = err_from_is_err_and c.from_residual.result c.from_residual.ensures.1 in
    rw p.1 (c.loop-c.invariant.rest told false _
    (line_cut (column_text c.args.disks.now c.args.columns.now) c.loop-c.c (length c.args.disks.now) _ _ (omega (arith, c.loop-c-test.true, c.len-c-end.ensures.count))
    (c.in_err-put_column.ensures.output told)))

pub loop-c-preserved : goal.loop-c-preserved
loop-c-preserved g c = record {
  rest = λ told b new puts. c.loop-c.invariant.rest told b new
      (line_put (column_text c.args.disks.now c.args.columns.now) c.loop-c.c (length c.args.disks.now) b _ _ new (omega (arith, c.loop-c-test.true, c.len-c-end.ensures.count))
      (c.in_ok-put_column.ensures.output told) puts);
  later = omega (arith, c.put_column.ensures.later, c.loop-c.invariant.later);
}

pub returns-clause-output : goal.returns-clause-output
returns-clause-output g c = λ told.
    c.loop-c.invariant.rest told true _
    (line_none (column_text c.args.disks.now c.args.columns.now) c.loop-c.c (length c.args.disks.now) _ (omega (arith, c.loop-c-test.false, c.len-c-end.ensures.count)))
