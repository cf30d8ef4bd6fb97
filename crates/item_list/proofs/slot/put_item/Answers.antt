use Rattle.std.proofs.Common.{◌∙◌, ◌<◌, length, refl, ap, subst}
use Rattle.std.proofs.lemmas.Option.{slice_get_read}
use Rattle.blk_plain.specs.declared.op.Op.TheVariants as op
use Rattle.blk_plain.specs.declared.op.Pattern.{Pattern}
use Rattle.eng_world.specs.declared.item.Item.TheVariants as items
use Rattle.item_list.specs.declared.slot.Slot.{Slot}
use Rattle.item_list.specs.Kept.{IsWithin}
use Rattle.item_list.proofs.slot.put_item.Goals as goal

pub returns-in-Fill : goal.returns-in-Fill
returns-in-Fill c =
    rw c.in-Fill.is (c.put_write.ensures ∙ ap (λ (p : Pattern). items.Run (op.Write (record { first = c.in-Fill.first; count = c.in-Fill.count }) p) c.in-Fill.graph) c.pattern_of.ensures)

pub returns-in-Write : goal.returns-in-Write
returns-in-Write c =
    let longer = c.args.longer.now in
    let there : c.in-Write.at < length longer = subst (λ (s : Slot). IsWithin (length longer) (length c.args.writes.now) s) c.in-Write.is c.requires in
    rw (c.in-Write.is, slice_get_read longer (length longer) c.in-Write.at c.index-longer-at.result refl there c.index-longer-at.is) c.put_write-in-Write.ensures

pub returns-in-Writes : goal.returns-in-Writes
returns-in-Writes c =
    let writes = c.args.writes.now in
    let there : c.in-Writes.at < length writes = subst (λ (s : Slot). IsWithin (length c.args.longer.now) (length writes) s) c.in-Writes.is c.requires in
    rw (c.in-Writes.is, slice_get_read writes (length writes) c.in-Writes.at c.index-writes-at.result refl there c.index-writes-at.is) c.put_writes.ensures
