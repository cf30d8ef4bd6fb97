use Rattle.std.proofs.Common.{◌+◌, ◌<◌, ◌∙◌, length, sym, arith}
use Rattle.std.specs.Prelude.{slice_index}
use Rattle.raid_recon.proofs.Differing.{apart-by}
use Rattle.raid_recon.proofs.Placed.{placed-four}
use Rattle.raid_recon.proofs.UnitReads.{part-at}
use Rattle.raid_recon.proofs.adding.four_differ.Goals as goal

pub returns-clause-sums : goal.returns-clause-sums
returns-clause-sums c = λ j lt.
    let bytes = c.args.ahead.now in
    let places = c.args.places.now in
    let long = length c.args.sum.now in
    c.sum_and_compare.ensures.sum j lt
    ∙ placed-four bytes places j _ _ _ _ (part-at bytes (slice_index places 0) _ long j (omega arith) lt) (part-at bytes (slice_index places 1) _ long j (omega arith) lt) (part-at bytes (slice_index places 2) _ long j (omega arith) lt) (part-at bytes (slice_index places 3) _ long j (omega arith) lt)

pub returns-clause-differs : goal.returns-clause-differs
returns-clause-differs c =
    let bytes = c.args.ahead.now in
    let places = c.args.places.now in
    let long = length c.args.sum.now in
    let r = c.sum_and_compare in
    apart-by r.result (length r.new.to) (slice_index r.new.to) (λ j. slice_index bytes (slice_index places 4 + j)) (
      λ t j lt. let low : j < long = omega (arith, lt, r.ensures.long) in r.ensures.sum j low ∙ (r.ensures.equal.0 t j low ∙ part-at bytes (slice_index places 4) _ long j (omega arith) low),
      λ same. r.ensures.equal.1 (λ j lt. sym (r.ensures.sum j lt) ∙ (same j (omega (arith, lt, r.ensures.long)) ∙ sym (part-at bytes (slice_index places 4) _ long j (omega arith) lt))),
    )
