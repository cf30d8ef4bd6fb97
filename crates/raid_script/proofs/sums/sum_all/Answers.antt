use Rattle.std.proofs.Common.{◌*◌, ◌<◌, ℕ, length, drop, ap, refl, arith}
use Rattle.raid_script.specs.Steps.{client_sum}
use Rattle.raid_script.proofs.Printed.{sum_more}
use Rattle.raid_script.proofs.ReplyTexts.{before_more, before_within}
use Rattle.raid_script.proofs.Summed.{client_sum_is}
use Rattle.raid_script.proofs.sums.sum_all.Goals as goal

pub sum_row-row-requires-clause-enough : goal.sum_row-row-requires-clause-enough
sum_row-row-requires-clause-enough c =
    let within = before_within c.args.clients.now c.loop-client.client c.index-clients-client.result _ c.loop-client-test.true c.index-clients-client.is refl in
    let place = c.loop-client.invariant.place in
    let enough = c.requires.enough in
    omega (arith, within, place, enough)

pub loop-client-preserved : goal.loop-client-preserved
loop-client-preserved c =
    let f = client_sum c.args.clients.now c.args.replies.now c.args.sectors.now in
    let n = length c.args.clients.now in
    let i = c.loop-client.client in
    let k : i < n = c.loop-client-test.true in
    let j : i < length c.args.replies.now = omega (arith, k, c.requires.clients_answered) in
    let is = client_sum_is c.args.clients.now c.args.replies.now c.args.sectors.now (drop (512 * c.loop-client.at) c.args.sectors.now) i c.index-clients-client.result c.index-replies-client.result _ _ (512 * c.loop-client.at) k j c.index-clients-client.is c.index-replies-client.is refl c.as_slice-told.ensures.value (ap (λ (m : ℕ). 512 * m) c.loop-client.invariant.place) refl in
    let more = before_more c.args.clients.now i c.index-clients-client.result _ k c.index-clients-client.is refl in
    record {
      whole = omega (arith, c.loop-client.invariant.whole, sum_more f i n k, is, c.sum_row-row.ensures.sum);
      place = omega (arith, more, c.loop-client.invariant.place, c.sum_row-row.ensures.passed);
      small = omega (arith, c.loop-client.invariant.small, c.sum_row-row.ensures.small);
    }
