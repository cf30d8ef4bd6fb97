-- Devices may go to another thread where their type may, and what is handed out in the end too.
use Rattle.std.proofs.Crossing.{Vec-send}
use denote.RattleType.{RattleType}
use denote.Param.Send.{IsSend, sendable, view_send, recorded_send, enum_send}
use denote.Param.SendFields.{declared_send}
use denote.Struct.Field.{bool-field}
use denote.Enum.Enum.{Enum}
use denote.Enum.Declared.{shape as shape_of}
use Rattle.std.specs.contracts.option.Option as option
use Rattle.std.specs.contracts.snapshot.Snapshot as snapshot
use Rattle.eng_cols.specs.contracts.column.Column as column
use Rattle.eng_world.specs.contracts.item.Reply as reply
use Rattle.eng_parts.specs.contracts.devices.Devices as devices
use Rattle.eng_parts.specs.contracts.slot.Slot as slot
use Rattle.eng_parts.specs.contracts.spare.Spare as spare
use Rattle.eng_log.proofs.Sent.{flag_send, number_send}
use Rattle.item_list.proofs.Sent.{items_send}
use Rattle.eng_clients.proofs.Sent.{option_send, reply_send}

-- ## Values

snapshot_send : (T : RattleType) → IsSend (snapshot.the_row T)
snapshot_send T = record { owned = λ d vs. ((λ vss. (tt, ((λ uss. (tt, tt)), tt))), tt); leaving = λ k f vs. tt }

column_send : IsSend column.the_row
column_send = search sendable depth 20

-- ## Parts

slot_send : (D : RattleType) → IsSend D → IsSend (slot.the_row D)
slot_send D d = let E = slot.the_type D in recorded_send (Enum (shape_of E)) E.D E.to E.to_one (enum_send (shape_of E) (tt, ((d, tt), ((snapshot_send D, tt), tt))))

pub devices_send : (D : RattleType) → IsSend D → IsSend (devices.the_row D)
devices_send D d = view_send _ _ _ _ _ (declared_send (devices.TheInside.the_type D) (Vec-send (slot.the_row D) (slot_send D d), (Vec-send bool-field.row flag_send, (Vec-send (option.the_row D) (option_send D d), tt))))

pub spare_send : IsSend spare.the_row
spare_send = view_send _ _ _ _ _ (declared_send spare.TheInside.the_type (number_send, (Vec-send _ items_send, (Vec-send _ (Vec-send reply.the_row reply_send), (Vec-send column.the_row column_send, tt)))))
