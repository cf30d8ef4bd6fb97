use Rattle.std.proofs.Common.{◌+◌, length, true, false, refl, arith, append-nil}
use Rattle.std.proofs.lemmas.Result.{err_from_is_err_and}
use Rattle.raid_script.proofs.Printed.{from_place, place_more, place_none, puts_on, puts_off}
use Rattle.top_sim.specs.Lines.{number_text}
use Rattle.top_sim.proofs.lines.put_replies.Goals as goal

pub loop-number-preserved : goal.loop-number-preserved
loop-number-preserved g c =
    let f = number_text c.args.requests.now c.args.replies.now in
    let i = c.loop-number.number in
    let n = length c.args.requests.now in
    record {
      rest = λ told b new puts. c.loop-number.invariant.rest told b new
          (puts_on b _ _ new _ _ (from_place f (i + 1) n) (place_more f i n c.loop-number-test.true)
          (c.in_ok-put_nth.ensures.output told) puts);
      later = omega (arith, c.put_nth.ensures.later, c.loop-number.invariant.later);
    }

pub returns-in_err-put_nth-clause-output : goal.returns-in_err-put_nth-clause-output
returns-in_err-put_nth-clause-output g c = λ told.
    let p = err_from_is_err_and c.from_residual.result c.from_residual.ensures.1 in
    let f = number_text c.args.requests.now c.args.replies.now in
    rw p.1 (c.loop-number.invariant.rest told false _
    (puts_off _ _ _ _ _
    (place_more f c.loop-number.number (length c.args.requests.now) c.loop-number-test.true)
    (c.in_err-put_nth.ensures.output told)))

pub returns-clause-output : goal.returns-clause-output
returns-clause-output g c = λ told.
    let f = number_text c.args.requests.now c.args.replies.now in
    c.loop-number.invariant.rest told true _
    (rw (place_none f c.loop-number.number (length c.args.requests.now) (omega arith), append-nil)
    refl)
