use Rattle.std.proofs.Common.{◌∙◌, length, arith}
use Rattle.std.specs.Prelude.{slice_index}
use Rattle.raid_recon.proofs.Placed.{placed-two}
use Rattle.raid_recon.proofs.UnitReads.{part-at}
use Rattle.raid_recon.proofs.adding.sum_first_two.Goals as goal

pub returns-clause-sums : goal.returns-clause-sums
returns-clause-sums c = λ j lt.
    let bytes = c.args.ahead.now in
    let places = c.args.places.now in
    c.sum_two.ensures.sum j lt
    ∙ placed-two bytes places j _ _ (part-at bytes (slice_index places 0) _ (length c.args.sum.now) j (omega arith) lt) (part-at bytes (slice_index places 1) _ (length c.args.sum.now) j (omega arith) lt)
