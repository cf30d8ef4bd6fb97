-- The layouts may go to another thread.
use Rattle.std.proofs.Crossing.{Vec-send}
use denote.Param.Send.{IsSend, sendable, view_send}
use denote.Param.SendFields.{declared_send}
use denote.Struct.Field.{u32-field}
use Rattle.lay_design.proofs.Sent.{design_send}
use Rattle.lay_decluster.specs.contracts.table.Table as table
use Rattle.lay_decluster.specs.contracts.declustered.Declustered as declustered
use Rattle.lay_decluster.specs.contracts.spared.Spared as spared

number_send : IsSend u32-field.row
number_send = search sendable

table_send : IsSend table.the_row
table_send = view_send _ _ _ _ _ (declared_send table.TheInside.the_type (design_send, (Vec-send u32-field.row number_send, tt)))

pub declustered_send : IsSend declustered.the_row
declustered_send = declared_send declustered.the_type (table_send, (number_send, (number_send, tt)))

pub spared_send : IsSend spared.the_row
spared_send = declared_send spared.the_type (table_send, (number_send, (number_send, tt)))
