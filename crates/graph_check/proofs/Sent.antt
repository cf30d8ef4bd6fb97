-- The room in which a graph is checked may go to another thread.
use Rattle.std.proofs.Crossing.{Vec-send}
use denote.RattleType.{RattleType}
use denote.Param.Send.{IsSend, sendable, recorded_send, enum_send}
use denote.Param.SendFields.{declared_send}
use denote.Struct.Field.{bool-field, u32-field, u64-field}
use denote.Enum.Enum.{Enum}
use denote.Enum.Declared.{shape as shape_of}
use Rattle.std.specs.contracts.option.Option as option
use Rattle.graph_check.specs.contracts.scratch.Scratch as scratch
use Rattle.graph_check.specs.contracts.tables.cover.Cover as cover

option_send : (X : RattleType) → IsSend X → IsSend (option.the_row X)
option_send X x = let E = option.the_type X in recorded_send (Enum (shape_of E)) E.D E.to E.to_one (enum_send (shape_of E) (tt, ((x, tt), tt)))

cover_send : IsSend cover.the_row
cover_send = search sendable depth 20

flag_send : IsSend bool-field.row
flag_send = search sendable

number_send : IsSend u32-field.row
number_send = search sendable

set_send : IsSend u64-field.row
set_send = search sendable

pub scratch_send : IsSend scratch.the_row
scratch_send = declared_send scratch.the_type (Vec-send bool-field.row flag_send, (Vec-send u64-field.row set_send, (Vec-send u32-field.row number_send, (Vec-send (option.the_row u32-field.row) (option_send u32-field.row number_send), (Vec-send u64-field.row set_send, (Vec-send bool-field.row flag_send, (Vec-send cover.the_row cover_send, (Vec-send bool-field.row flag_send, (number_send, tt)))))))))
