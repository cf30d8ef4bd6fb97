use Rattle.std.proofs.Common.{true, false, arith, append-nil, refl, sym, ◌∙◌}
use Rattle.std.proofs.lemmas.Result.{err_from_is_err_and}
use Rattle.top_status.proofs.DeadFrom.{dead_more, dead_less, dead_none, puts_on, puts_off}
use Rattle.top_status.proofs.dead.put_dead.Goals as goal
use Rattle.top_status.proofs.dead.put_dead.Goals.{then-is_dead+in_ok-put, else-is_dead}

pub loop-number-preserved : goal.loop-number-preserved
loop-number-preserved g c = record {
  rest = λ told b new puts. c.loop-number.invariant.rest told b new
      (elim c.if-is_dead.branch [
        | then-is_dead+in_ok-put w ↦ puts_on b _ _ new _ _ _ (dead_more c.args.columns.now c.loop-number.number _ c.loop-number-test.true (sym c.is_dead.ensures ∙ w.if-is_dead.true))
            (rw w.set_dead.ensures at (w.in_ok-put.ensures.output told)) (rw w.out-is at puts)
        | else-is_dead w ↦ rw (dead_less c.args.columns.now c.loop-number.number _ c.loop-number-test.true (sym c.is_dead.ensures ∙ w.if-is_dead.false)) (rw w.out-is at puts)
      ]);
  later = elim c.if-is_dead.branch [
    | then-is_dead+in_ok-put w ↦ rw w.out-is (omega (arith, w.put.ensures.later, c.loop-number.invariant.later))
    | else-is_dead w ↦ rw w.out-is c.loop-number.invariant.later
  ];
}

pub returns-in_err-put-clause-output : goal.returns-in_err-put-clause-output
returns-in_err-put-clause-output g c = λ told.
    let p = err_from_is_err_and c.from_residual.result c.from_residual.ensures.1 in
    rw p.1 (c.loop-number.invariant.rest told false _
    (puts_off _ _ _ _ _ (dead_more c.args.columns.now c.loop-number.number _ c.loop-number-test.true (sym c.is_dead.ensures ∙ c.if-is_dead.true))
    (rw c.set_dead.ensures at (c.in_err-put.ensures.output told))))

pub returns-clause-output : goal.returns-clause-output
returns-clause-output g c = λ told.
    c.loop-number.invariant.rest told true _ (rw (dead_none c.args.columns.now c.loop-number.number (omega arith), append-nil) refl)
