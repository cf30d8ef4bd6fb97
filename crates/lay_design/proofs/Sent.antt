-- A design may go to another thread.
use Rattle.std.proofs.Crossing.{Vec-send}
use denote.Param.Send.{IsSend, sendable, view_send}
use denote.Param.SendFields.{declared_send}
use denote.Struct.Field.{u32-field}
use Rattle.lay_design.specs.contracts.numbers.Numbers as numbers
use Rattle.lay_design.specs.contracts.design.Design as design

number_send : IsSend u32-field.row
number_send = search sendable

numbers_send : IsSend numbers.the_row
numbers_send = search sendable depth 20

pub design_send : IsSend design.the_row
design_send = view_send _ _ _ _ _ (declared_send design.TheInside.the_type (numbers_send, (Vec-send u32-field.row number_send, tt)))
