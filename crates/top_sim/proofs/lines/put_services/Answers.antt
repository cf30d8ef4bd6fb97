use Rattle.std.proofs.Common.{true, false, arith}
use Rattle.std.proofs.lemmas.Result.{err_from_is_err_and}
use Rattle.raid_bay.specs.SinkLaws.{puts_more, puts_less, puts_none}
use Rattle.top_sim.specs.Steps.{served_line}
use Rattle.top_sim.proofs.lines.put_services.Goals as goal

pub loop-served-preserved : goal.loop-served-preserved
loop-served-preserved g c = record {
  rest = λ told b new puts. c.loop-served.invariant.rest told b new
      (puts_more served_line c.args.services.now c.loop-served.served-index _ b _ _ new
      c.loop-served-test.true (rw c.set_served.ensures at (c.in_ok-put.ensures.output told)) puts);
  later = omega arith;
}

pub returns-in_err-put-clause-output : goal.returns-in_err-put-clause-output
returns-in_err-put-clause-output g c = λ told.
    let p = err_from_is_err_and c.from_residual.result c.from_residual.ensures.1 in
    rw p.1 (c.loop-served.invariant.rest told false _
    (puts_less served_line c.args.services.now c.loop-served.served-index _ _ _
    c.loop-served-test.true (rw c.set_served.ensures at (c.in_err-put.ensures.output told))))

pub returns-clause-output : goal.returns-clause-output
returns-clause-output g c = λ told.
    c.loop-served.invariant.rest told true _
    (puts_none served_line c.args.services.now c.loop-served.served-index _ (omega arith))
