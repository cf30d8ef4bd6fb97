-- A store may go to another thread.
use Rattle.std.proofs.Crossing.{Vec-send}
use denote.Param.Send.{IsSend, sendable, view_send, array_send}
use denote.Param.SendFields.{declared_send}
use denote.Array.{Array}
use denote.Struct.Field.{u8-field, u32-field}
use Rattle.sector_store.specs.contracts.store.Store as store

byte_send : IsSend u8-field.row
byte_send = search sendable

sector_send : IsSend (Array u8-field.row 512)
sector_send = array_send u8-field.row 512 byte_send

number_send : IsSend u32-field.row
number_send = search sendable

pub store_send : IsSend store.the_row
store_send = view_send _ _ _ _ _ (declared_send store.TheInside.the_type (Vec-send u32-field.row number_send, (Vec-send (Array u8-field.row 512) sector_send, (Vec-send u32-field.row number_send, tt))))
