-- A graph and a task may go to another thread.
use Rattle.std.proofs.Crossing.{Vec-send}
use denote.Param.Send.{IsSend, sendable, view_send}
use denote.Param.SendFields.{declared_send}
use denote.Struct.Field.{u32-field, usize-field}
use Rattle.lay_core.specs.contracts.place.Part as part
use Rattle.graph_mean.specs.contracts.graph.Buf as buf
use Rattle.graph_mean.specs.contracts.graph.Node as node
use Rattle.graph_mean.specs.contracts.graph.Ret as ret
use Rattle.graph_mean.specs.contracts.graph.Graph as graph
use Rattle.graph_mean.specs.contracts.task.Kind as kind
use Rattle.graph_mean.specs.contracts.task.Task as task

buf_send : IsSend buf.the_row
buf_send = search sendable depth 20

node_send : IsSend node.the_row
node_send = search sendable depth 20

ret_send : IsSend ret.the_row
ret_send = search sendable depth 20

kind_send : IsSend kind.the_row
kind_send = search sendable depth 20

part_send : IsSend part.the_row
part_send = search sendable depth 20

number_send : IsSend u32-field.row
number_send = search sendable

place_send : IsSend usize-field.row
place_send = search sendable

pub graph_send : IsSend graph.the_row
graph_send = view_send _ _ _ _ _ (declared_send graph.TheInside.the_type (Vec-send buf.the_row buf_send, (Vec-send node.the_row node_send, (Vec-send ret.the_row ret_send, (Vec-send u32-field.row number_send, (Vec-send u32-field.row number_send, (Vec-send usize-field.row place_send, (Vec-send usize-field.row place_send, (search sendable, (search sendable, (search sendable, tt)))))))))))

pub task_send : IsSend task.the_row
task_send = view_send _ _ _ _ _ (declared_send task.TheInside.the_type (kind_send, (search sendable, (Vec-send part.the_row part_send, (search sendable, (search sendable, (search sendable, tt)))))))
