use Rattle.std.proofs.Common.{◌≡◌, ◌+◌, ◌<◌, ◌∙◌, suc, length, ap, refl, arith}
use Rattle.raid_recon.specs.Sums.{places_sum}
use Rattle.raid_recon.proofs.Placed.{placed-more}
use Rattle.raid_recon.proofs.adding.sum_places.Goals as goal

pub loop-i-preserved : goal.loop-i-preserved
loop-i-preserved c =
    let i = c.loop-i.i in
    let was = c.loop-i.invariant in
    record {
      sums = λ j lt.
          let low : j < length c.loop-i.sum = omega (arith, lt, c.add_unit.ensures.long) in
          let next : suc i ≡ i + 1 = omega arith in
          c.add_unit.ensures.bytes j low
          ∙ (placed-more c.args.ahead.now c.args.places.now j i _ _ (was.sums j low) refl
          ∙ ap (λ n. places_sum c.args.ahead.now c.args.places.now n j) next);
      long = c.add_unit.ensures.long ∙ was.long;
      within = omega (arith, c.loop-i-test.true);
    }
