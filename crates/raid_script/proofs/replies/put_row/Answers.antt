use Rattle.std.proofs.Common.{◌∙◌, ◌+◌, ◌*◌, ◌<◌, ◌++◌, ℕ, List, length, drop, true, false, refl, ap, arith, append-nil, sym}
use Rattle.std.proofs.lemmas.Result.{err_from_is_err_and}
use Rattle.std.proofs.lemmas.Option.{get_or_from_slice_get, slice_get_within}
use Rattle.raid_script.specs.Replies.{item_sectors}
use Rattle.raid_script.specs.Steps.{bytes_from, place_text}
use Rattle.raid_script.proofs.Printed.{from_place, place_more, place_none, puts_on, puts_off}
use Rattle.raid_script.proofs.ReplyTexts.{place_is, row_more, row_within}
use Rattle.raid_script.proofs.StoredSectors.{bytes-behind}
use Rattle.raid_script.proofs.replies.put_row.Goals as goal

pub put_item-requires : goal.put_item-requires
put_item-requires g c =
    let h = slice_get_within c.args.items.now.items c.loop-i.i c.get-item.result c.get-item.ensures in
    let x = c.get-item.result in
    let within = row_within c.args.items.now.items c.loop-i.i x (item_sectors x) h (sym (get_or_from_slice_get c.args.items.now.items c.loop-i.i c.get-item.result c.get-item.result c.get-item.ensures)) refl in
    let place = c.loop-i.invariant.place in
    let enough = c.requires.enough in
    omega (arith, within, place, enough)

pub returns-in_err-put_item-clause-output : goal.returns-in_err-put_item-clause-output
returns-in_err-put_item-clause-output g c = λ told.
    let p = err_from_is_err_and c.from_residual.result c.from_residual.ensures.1 in
    let bytes : List ℕ = drop (512 * c.args.from) c.args.sectors.now in
    let f = place_text c.args.client c.args.items.now.items c.args.replies.now bytes in
    let n = length c.args.items.now.items in
    let i = c.loop-i.i in
    let h : i < n = slice_get_within c.args.items.now.items c.loop-i.i c.get-item.result c.get-item.ensures in
    let x = c.get-item.result in
    let is = place_is c.args.client c.args.items.now.items c.args.replies.now bytes (bytes_from c.args.sectors.now (c.args.from + c.loop-i.at) (item_sectors x)) i x _ (item_sectors x) (512 * c.loop-i.at) h c.requires.answered (sym (get_or_from_slice_get c.args.items.now.items c.loop-i.i c.get-item.result c.get-item.result c.get-item.ensures)) refl (ap (λ (k : ℕ). 512 * k) c.loop-i.invariant.place) (bytes-behind c.args.sectors.now c.args.from c.loop-i.at (item_sectors x)) in
    rw p.1 (c.loop-i.invariant.rest told false _
    (puts_off _ _ _ _ _ (place_more f i n h ∙ ap (λ (t : List ℕ). t ++ from_place f (i + 1) n) is) (c.in_err-put_item.ensures.output told)))

pub loop-i-preserved : goal.loop-i-preserved
loop-i-preserved g c =
    let bytes : List ℕ = drop (512 * c.args.from) c.args.sectors.now in
    let f = place_text c.args.client c.args.items.now.items c.args.replies.now bytes in
    let n = length c.args.items.now.items in
    let i = c.loop-i.i in
    let h : i < n = slice_get_within c.args.items.now.items c.loop-i.i c.get-item.result c.get-item.ensures in
    let x = c.get-item.result in
    let is = place_is c.args.client c.args.items.now.items c.args.replies.now bytes (bytes_from c.args.sectors.now (c.args.from + c.loop-i.at) (item_sectors x)) i x _ (item_sectors x) (512 * c.loop-i.at) h c.requires.answered (sym (get_or_from_slice_get c.args.items.now.items c.loop-i.i c.get-item.result c.get-item.result c.get-item.ensures)) refl (ap (λ (k : ℕ). 512 * k) c.loop-i.invariant.place) (bytes-behind c.args.sectors.now c.args.from c.loop-i.at (item_sectors x)) in
    let more = row_more c.args.items.now.items i x c.item_sectors.result h (sym (get_or_from_slice_get c.args.items.now.items c.loop-i.i c.get-item.result c.get-item.result c.get-item.ensures)) c.item_sectors.ensures in
    record {
      rest = λ told b new puts. c.loop-i.invariant.rest told b new
          (puts_on b _ _ new _ _ _ (place_more f i n h ∙ ap (λ (t : List ℕ). t ++ from_place f (i + 1) n) is) (c.in_ok-put_item.ensures.output told) puts);
      later = omega (arith, c.put_item.ensures.later, c.loop-i.invariant.later);
      place = omega (arith, more, c.loop-i.invariant.place);
    }

pub returns-clause-output : goal.returns-clause-output
returns-clause-output g c = λ told.
    let f = place_text c.args.client c.args.items.now.items c.args.replies.now (drop (512 * c.args.from) c.args.sectors.now) in
    let n = length c.args.items.now.items in
    c.loop-i.invariant.rest told true _ (rw (place_none f c.loop-i.i n (omega (arith, c.loop-i-test.false, c.len-i-end.ensures)), append-nil) refl)

pub overflow_add-at : goal.overflow_add-at
overflow_add-at g c =
    let items = c.args.items.now.items in
    let x = c.get-item.result in
    let within = row_within items c.loop-i.i x c.item_sectors.result (slice_get_within items c.loop-i.i x c.get-item.ensures) (sym (get_or_from_slice_get items c.loop-i.i x x c.get-item.ensures)) c.item_sectors.ensures in
    let place = c.loop-i.invariant.place in
    let enough = c.requires.enough in
    let many = c.len-count.ensures in
    let wide = c.len-count.type_inv in
    omega (arith, within, place, enough, many, wide)
