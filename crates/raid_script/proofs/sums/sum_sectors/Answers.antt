use Rattle.std.proofs.Common.{◌≡◌, ◌∙◌, length, ap, arith}
use Rattle.raid_script.specs.Steps.{byte_sum}
use Rattle.raid_script.proofs.StoredSectors.{sum-more}
use Rattle.raid_script.proofs.sums.sum_sectors.Goals as goal

pub loop-i-preserved : goal.loop-i-preserved
loop-i-preserved c =
    let more = sum-more c.args.sectors.now c.args.from c.loop-i.i in
    let one = c.sum_bytes-total.ensures.value ∙ ap byte_sum c.sector.ensures in
    let sum = c.loop-i.invariant.sum in
    let small = c.loop-i.invariant.small in
    let few = c.sum_bytes-total.ensures.small in
    let long : length c.sector.result.now ≡ 512 = search in
    record {
      sum = omega (arith, more, one, sum);
      small = omega (arith, small, few, long);
    }
