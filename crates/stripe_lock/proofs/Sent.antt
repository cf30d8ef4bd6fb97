-- A table of locks may go to another thread.
use Rattle.std.proofs.Crossing.{Vec-send}
use denote.Param.Send.{IsSend, sendable, view_send}
use denote.Param.SendFields.{declared_send}
use denote.Struct.Field.{u32-field}
use Rattle.stripe_lock.specs.contracts.locks.Locks as locks
use Rattle.stripe_lock.specs.contracts.row.Row as row

number_send : IsSend u32-field.row
number_send = search sendable

row_send : IsSend row.the_row
row_send = search sendable depth 20

pub locks_send : IsSend locks.the_row
locks_send = view_send _ _ _ _ _ (declared_send locks.TheInside.the_type (Vec-send row.the_row row_send, (number_send, tt)))
