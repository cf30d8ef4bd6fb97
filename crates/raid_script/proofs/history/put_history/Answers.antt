use Rattle.std.proofs.Common.{true, false, arith}
use Rattle.std.proofs.lemmas.Result.{err_from_is_err_and}
use Rattle.raid_bay.specs.SinkLaws.{puts_more, puts_less, puts_none}
use Rattle.raid_script.specs.Steps.{commit_text}
use Rattle.raid_script.proofs.history.put_history.Goals as goal

pub loop-id-preserved : goal.loop-id-preserved
loop-id-preserved g c = record {
  rest = λ told b new puts. c.loop-id.invariant.rest told b new (puts_more commit_text c.args.history.now c.loop-id.id-index _ b _ _ new c.loop-id-test.true (c.in_ok-put_commit.ensures.output told) puts);
  later = omega arith;
}

pub returns-in_err-put_commit-clause-output : goal.returns-in_err-put_commit-clause-output
returns-in_err-put_commit-clause-output g c = λ told.
    let p = err_from_is_err_and c.from_residual.result c.from_residual.ensures.1 in
    rw p.1 (c.loop-id.invariant.rest told false _ (puts_less commit_text c.args.history.now c.loop-id.id-index _ _ _ c.loop-id-test.true (c.in_err-put_commit.ensures.output told)))

pub returns-clause-output : goal.returns-clause-output
returns-clause-output g c = λ told. c.loop-id.invariant.rest told true _ (puts_none commit_text c.args.history.now c.loop-id.id-index _ (omega arith))
