use Rattle.std.proofs.Common.{true, false, arith}
use Rattle.std.proofs.lemmas.Result.{err_from_is_err_and}
use Rattle.raid_bay.specs.SinkLaws.{puts_more, puts_less, puts_none}
use Rattle.raid_script.specs.Trace.{event_line}
use Rattle.raid_script.proofs.trace.put_trace.Goals as goal

pub loop-event-preserved : goal.loop-event-preserved
loop-event-preserved g c = record {
  rest = λ told b new puts. c.loop-event.invariant.rest told b new (puts_more event_line c.args.trace.now c.loop-event.event-index _ b _ _ new c.loop-event-test.true (rw c.set_event.ensures at (c.in_ok-put.ensures.output told)) puts);
  later = omega arith;
}

pub returns-in_err-put-clause-output : goal.returns-in_err-put-clause-output
returns-in_err-put-clause-output g c = λ told.
    let p = err_from_is_err_and c.from_residual.result c.from_residual.ensures.1 in
    rw p.1 (c.loop-event.invariant.rest told false _ (puts_less event_line c.args.trace.now c.loop-event.event-index _ _ _ c.loop-event-test.true (rw c.set_event.ensures at (c.in_err-put.ensures.output told))))

pub returns-clause-output : goal.returns-clause-output
returns-clause-output g c = λ told. c.loop-event.invariant.rest told true _ (puts_none event_line c.args.trace.now c.loop-event.event-index _ (omega arith))
