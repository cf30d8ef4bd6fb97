use Rattle.std.proofs.Common.{◌≡◌, ◌≤◌, ◌∙◌, ℕ, [], true, false, ap, refl, arith, append-nil}
use Rattle.std.proofs.lemmas.Result.{err_from_is_err_and}
use Rattle.raid_script.specs.Blocks.{blocks_text}
use Rattle.raid_script.proofs.Printed.{puts_on, puts_off}
use Rattle.raid_script.proofs.StoredSectors.{part, part-none, blocks-more}
use Rattle.raid_script.proofs.runs.put_stored.Goals as goal

pub loop-left-preserved : goal.loop-left-preserved
loop-left-preserved g c =
    let n = c.stored_run-run.ensures in
    let there = c.loop-left.invariant.there in
    let within : c.stored_run-run.result ≤ c.loop-left.left = let w = n.within in omega (arith, w) in
    record {
      rest = λ told b new puts. c.loop-left.invariant.rest told b new
          (puts_on b _ _ new _ _ _ (blocks-more c.loop-left.block c.args.sectors.now c.loop-left.at c.loop-left.left c.stored_run-run.result there n.some within n.equal (λ lt. n.maximal (omega (arith, lt))))
          (rw (c.set_block.ensures, c.sector.ensures) at (c.in_ok-put.ensures.output told)) puts);
      later = omega (arith, c.put.ensures.later, c.loop-left.invariant.later);
      there = omega (arith, there, within);
      fits = let f = c.loop-left.invariant.fits in omega (arith, f, within);
    }

pub returns-in_err-put-clause-output : goal.returns-in_err-put-clause-output
returns-in_err-put-clause-output g c = λ told.
    let p = err_from_is_err_and c.from_residual.result c.from_residual.ensures.1 in
    let n = c.stored_run-run.ensures in
    let there = c.loop-left.invariant.there in
    let within : c.stored_run-run.result ≤ c.loop-left.left = let w = n.within in omega (arith, w) in
    rw p.1 (c.loop-left.invariant.rest told false _
    (puts_off _ _ _ _ _ (blocks-more c.loop-left.block c.args.sectors.now c.loop-left.at c.loop-left.left c.stored_run-run.result there n.some within n.equal (λ lt. n.maximal (omega (arith, lt))))
    (rw (c.set_block.ensures, c.sector.ensures) at (c.in_err-put.ensures.output told))))

pub returns-clause-output : goal.returns-clause-output
returns-clause-output g c = λ told.
    let none : c.loop-left.left ≡ 0 = let past = c.loop-left-test.false in omega (arith, past) in
    let nothing : blocks_text c.loop-left.block (part c.args.sectors.now c.loop-left.at c.loop-left.left) ≡ [] = ap (λ (k : ℕ). blocks_text c.loop-left.block (part c.args.sectors.now c.loop-left.at k)) none ∙ part-none c.loop-left.block c.args.sectors.now c.loop-left.at in
    c.loop-left.invariant.rest told true _ (rw (nothing, append-nil) refl)
