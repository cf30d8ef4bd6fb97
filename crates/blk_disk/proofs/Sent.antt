-- A device in memory, and one in a file, may go to another thread.
use Rattle.std.proofs.Crossing.{Vec-send}
use denote.Param.Send.{IsSend, sendable, recorded_send, enum_send}
use denote.Param.SendFields.{declared_send, FieldsHave}
use denote.Struct.Declared.{Declared, field}
use denote.Hole.{as_row}
use denote.Struct.Field.{i32-field, u8-field, u32-field, u64-field}
use denote.RattleType.{RattleType}
use denote.Enum.Enum.{Enum}
use denote.Enum.Declared.{shape as shape_of}
use Rattle.std.specs.contracts.option.Option as option
use Rattle.std.specs.contracts.io.Error as error
use Rattle.std.specs.contracts.fs.File as file
use Rattle.blk_disk.specs.contracts.disk.Call as call
use Rattle.blk_disk.specs.contracts.file.FileDisk as in_file
use Rattle.blk_disk.specs.contracts.mem.MemDisk as in_memory

byte_send : IsSend u8-field.row
byte_send = search sendable

number_send : IsSend u32-field.row
number_send = search sendable

count_send : IsSend u64-field.row
count_send = search sendable

call_send : IsSend call.the_row
call_send = search sendable depth 20

file_send : IsSend file.the_row
file_send = search sendable depth 20

code_send : IsSend i32-field.row
code_send = search sendable

field_send : (T : Declared) → FieldsHave IsSend T.parts → IsSend (as_row (field T))
field_send T all = declared_send T all

error_send : IsSend error.the_row
error_send = declared_send error.the_type (byte_send, (byte_send, (byte_send, (code_send, (search (field_send, count_send, tt) depth 20, tt)))))

option_send : (X : RattleType) → IsSend X → IsSend (option.the_row X)
option_send X x = let E = option.the_type X in recorded_send (Enum (shape_of E)) E.D E.to E.to_one (enum_send (shape_of E) (tt, ((x, tt), tt)))

pub mem_disk_send : IsSend in_memory.the_row
mem_disk_send = declared_send in_memory.the_type (Vec-send u8-field.row byte_send, (Vec-send u32-field.row number_send, (number_send, (count_send, (Vec-send call.the_row call_send, (count_send, tt))))))

pub file_disk_send : IsSend in_file.the_row
file_disk_send = declared_send in_file.the_type (file_send, (count_send, (count_send, (option_send error.the_row error_send, tt))))
