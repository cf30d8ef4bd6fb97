-- Items may go to another thread.
use Rattle.std.proofs.Crossing.{Vec-send}
use denote.Param.Send.{IsSend, sendable, view_send}
use denote.Param.SendFields.{declared_send}
use Rattle.blk_plain.specs.contracts.op.Patch as patch
use Rattle.blk_plain.specs.contracts.op.Patches as patches
use Rattle.item_list.specs.contracts.slot.Slot as slot
use Rattle.item_list.specs.contracts.items.Items as items

slot_send : IsSend slot.the_row
slot_send = search sendable depth 60 fits 10000

patch_send : IsSend patch.the_row
patch_send = search sendable depth 60 fits 10000

patches_send : IsSend patches.the_row
patches_send = search sendable depth 60 fits 10000

pub items_send : IsSend items.the_row
items_send = view_send _ _ _ _ _ (declared_send items.TheInside.the_type (Vec-send slot.the_row slot_send, (Vec-send patch.the_row patch_send, (Vec-send patches.the_row patches_send, tt))))
