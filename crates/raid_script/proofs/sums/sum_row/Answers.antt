use Rattle.std.proofs.Common.{◌≡◌, ◌∙◌, ◌+◌, ◌*◌, ◌<◌, ℕ, List, length, drop, sym, ap, arith}
use Rattle.std.proofs.lemmas.Option.{get_or_from_slice_get, slice_get_within}
use Rattle.raid_script.specs.Steps.{bytes_from, place_sum}
use Rattle.raid_script.proofs.Printed.{sum_more}
use Rattle.raid_script.proofs.ReplyTexts.{row_more, row_within}
use Rattle.raid_script.proofs.StoredSectors.{bytes-behind}
use Rattle.raid_script.proofs.Summed.{place_sum_is}
use Rattle.raid_script.proofs.sums.sum_row.Goals as goal

pub sum_data-sum-requires : goal.sum_data-sum-requires
sum_data-sum-requires c =
    let within = row_within c.args.items.now.items c.loop-i.i c.get.result c.item_sectors-count.result (slice_get_within c.args.items.now.items c.loop-i.i c.get.result c.get.ensures) (sym (get_or_from_slice_get c.args.items.now.items c.loop-i.i c.get.result c.get.result c.get.ensures)) c.item_sectors-count.ensures in
    let place = c.loop-i.invariant.place in
    let enough = c.requires.enough in
    omega (arith, within, place, enough)

pub loop-i-preserved : goal.loop-i-preserved
loop-i-preserved c =
    let bytes : List ℕ = drop (512 * c.args.from) c.args.sectors.now in
    let f = place_sum c.args.items.now.items c.args.replies.now bytes in
    let n = length c.args.items.now.items in
    let i = c.loop-i.i in
    let h : i < n = slice_get_within c.args.items.now.items c.loop-i.i c.get.result c.get.ensures in
    let count = c.item_sectors-count.result in
    let more = row_more c.args.items.now.items i c.get.result count h (sym (get_or_from_slice_get c.args.items.now.items c.loop-i.i c.get.result c.get.result c.get.ensures)) c.item_sectors-count.ensures in
    let is : f i ≡ c.sum_data-sum.result = place_sum_is c.args.items.now.items c.args.replies.now bytes (bytes_from c.args.sectors.now (c.args.from + c.loop-i.at) count) i c.get.result _ count (512 * c.loop-i.at) h c.requires.answered (sym (get_or_from_slice_get c.args.items.now.items c.loop-i.i c.get.result c.get.result c.get.ensures)) c.item_sectors-count.ensures (ap (λ (k : ℕ). 512 * k) c.loop-i.invariant.place) (bytes-behind c.args.sectors.now c.args.from c.loop-i.at count) ∙ sym c.sum_data-sum.ensures.value in
    record {
      whole = omega (arith, c.loop-i.invariant.whole, sum_more f i n h, is);
      place = omega (arith, more, c.loop-i.invariant.place);
      small = omega (arith, c.loop-i.invariant.small, c.sum_data-sum.ensures.small);
    }

pub overflow_add-at : goal.overflow_add-at
overflow_add-at c =
    let items = c.args.items.now.items in
    let x = c.get.result in
    let within = row_within items c.loop-i.i x c.item_sectors-count.result (slice_get_within items c.loop-i.i x c.get.ensures) (sym (get_or_from_slice_get items c.loop-i.i x x c.get.ensures)) c.item_sectors-count.ensures in
    let place = c.loop-i.invariant.place in
    let enough = c.requires.enough in
    let many = c.len-count.ensures in
    let wide = c.len-count.type_inv in
    omega (arith, within, place, enough, many, wide)
