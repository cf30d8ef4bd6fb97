use Rattle.std.proofs.Common.{◌≡◌, ◌+◌, ◌<◌, ℕ, List, [], length, true, false, subst, refl, arith, rules, append-nil}
use Rattle.std.proofs.lemmas.List.{nil_from_length}
use Rattle.raid_bay.specs.Sink.{Puts}
use Rattle.raid_script.specs.Blocks.{blocks_text}
use Rattle.std.proofs.lemmas.Result.{err_from_is_err_and}
use Rattle.raid_script.proofs.Printed.{puts_on, puts_off, blocks_more}
use Rattle.raid_script.proofs.runs.put_runs.Goals as goal

pub loop-rest-preserved : goal.loop-rest-preserved
loop-rest-preserved g c =
    let n = c.run_length-count.ensures in
    let some : 0 < length c.loop-rest.rest.now = search rules in
    record {
      rest = λ told b new puts. c.loop-rest.invariant.rest told b new
          (puts_on b _ _ new _ _ _ (blocks_more c.loop-rest.block c.loop-rest.rest.now c.run_length-count.result _ (n.some some) n.within n.equal n.maximal)
          (rw c.set_block.ensures at (c.in_ok-put.ensures.output told)) (subst (λ (s : List (List ℕ)). Puts b (g.K.Sink.output c.put.new.out) (blocks_text (c.loop-rest.block + c.run_length-count.result) s) new) c.split_at.ensures.back puts));
      later = omega arith;
      fits = omega (arith, c.split_at.ensures.back_len);
    }

pub returns-in_err-put-clause-output : goal.returns-in_err-put-clause-output
returns-in_err-put-clause-output g c = λ told.
    let p = err_from_is_err_and c.from_residual.result c.from_residual.ensures.1 in
    let n = c.run_length-count.ensures in
    let some : 0 < length c.loop-rest.rest.now = search rules in
    rw p.1 (c.loop-rest.invariant.rest told false _
    (puts_off _ _ _ _ _ (blocks_more c.loop-rest.block c.loop-rest.rest.now c.run_length-count.result _ (n.some some) n.within n.equal n.maximal)
    (rw c.set_block.ensures at (c.in_err-put.ensures.output told))))

pub returns-clause-output : goal.returns-clause-output
returns-clause-output g c = λ told.
    let none : length c.loop-rest.rest.now ≡ 0 = search rules in
    let empty : c.loop-rest.rest.now ≡ [] = nil_from_length c.loop-rest.rest.now none in
    c.loop-rest.invariant.rest told true _ (rw (empty, append-nil) refl)
