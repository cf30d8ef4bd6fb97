-- The lists that jobs take along may go to another thread.
use Rattle.std.proofs.Crossing.{Vec-send}
use denote.Param.Send.{IsSend, sendable, view_send}
use denote.Param.SendFields.{declared_send}
use Rattle.buf_pool.proofs.Sent.{buffer_send}
use Rattle.eng_job.specs.contracts.job.Source as source
use Rattle.eng_job.specs.contracts.lists.Lists as lists

source_send : IsSend source.the_row
source_send = declared_send source.the_type (search sendable, (search sendable, (buffer_send, tt)))

pub lists_send : IsSend lists.the_row
lists_send = view_send _ _ _ _ _ (declared_send lists.TheInside.the_type (Vec-send _ (Vec-send source.the_row source_send), tt))
