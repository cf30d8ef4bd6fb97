use Rattle.std.proofs.Common.{◌+◌, length, arith}
use Rattle.std.specs.Prelude.{slice_index}
use Rattle.raid_recon.proofs.Differing.{differ-at}
use Rattle.raid_recon.proofs.UnitReads.{part-at}
use Rattle.raid_recon.proofs.adding.sum_differs.Goals as goal

pub returns-clause-differs : goal.returns-clause-differs
returns-clause-differs c =
    let bytes = c.args.ahead.now in
    let place = slice_index c.args.places.now c.args.count in
    let sum = c.sum_places.new.sum in
    differ-at c.differ.result sum _ (λ j. slice_index bytes (place + j)) (λ j lt. part-at bytes place _ (length sum) j (omega (arith, c.sum_places.ensures.long)) lt) c.differ.ensures
