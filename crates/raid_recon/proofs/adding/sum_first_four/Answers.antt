use Rattle.std.proofs.Common.{◌∙◌, length, arith}
use Rattle.std.specs.Prelude.{slice_index}
use Rattle.raid_recon.proofs.Placed.{placed-four}
use Rattle.raid_recon.proofs.UnitReads.{part-at}
use Rattle.raid_recon.proofs.adding.sum_first_four.Goals as goal

pub returns-clause-sums : goal.returns-clause-sums
returns-clause-sums c = λ j lt.
    let bytes = c.args.ahead.now in
    let places = c.args.places.now in
    let long = length c.args.sum.now in
    c.sum_four.ensures.sum j lt
    ∙ placed-four bytes places j _ _ _ _ (part-at bytes (slice_index places 0) _ long j (omega arith) lt) (part-at bytes (slice_index places 1) _ long j (omega arith) lt) (part-at bytes (slice_index places 2) _ long j (omega arith) lt) (part-at bytes (slice_index places 3) _ long j (omega arith) lt)
