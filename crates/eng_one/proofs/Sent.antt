-- A run may go to another thread.
use Rattle.std.proofs.Crossing.{Vec-send}
use denote.RattleType.{RattleType}
use denote.Param.Send.{IsSend, sendable, view_send, recorded_send, enum_send}
use denote.Param.SendFields.{declared_send}
use denote.Struct.Field.{u32-field, u64-field}
use denote.Enum.Enum.{Enum}
use denote.Enum.Declared.{shape as shape_of}
use Rattle.std.specs.contracts.option.Option as option
use Rattle.std.specs.contracts.snapshot.Snapshot as snapshot
use Rattle.graph_mean.specs.contracts.graph.Graph as graph
use Rattle.graph_mean.specs.contracts.step.Phase as phase
use Rattle.graph_mean.specs.contracts.step.Status as status
use Rattle.eng_one.specs.contracts.followers.Followers as followers
use Rattle.eng_one.specs.contracts.node_set.NodeSet as node_set
use Rattle.eng_one.specs.contracts.run.Run as run

snapshot_send : (T : RattleType) → IsSend (snapshot.the_row T)
snapshot_send T = record { owned = λ d vs. ((λ vss. (tt, ((λ uss. (tt, tt)), tt))), tt); leaving = λ k f vs. tt }

option_send : (X : RattleType) → IsSend X → IsSend (option.the_row X)
option_send X x = let E = option.the_type X in recorded_send (Enum (shape_of E)) E.D E.to E.to_one (enum_send (shape_of E) (tt, ((x, tt), tt)))

status_send : IsSend status.the_row
status_send = search sendable depth 20

phase_send : IsSend phase.the_row
phase_send = search sendable depth 20

number_send : IsSend u32-field.row
number_send = search sendable

word_send : IsSend u64-field.row
word_send = search sendable

followers_send : IsSend followers.the_row
followers_send = view_send _ _ _ _ _ (declared_send followers.TheInside.the_type (Vec-send u32-field.row number_send, (Vec-send u32-field.row number_send, (Vec-send u32-field.row number_send, tt))))

set_send : IsSend node_set.the_row
set_send = view_send _ _ _ _ _ (declared_send node_set.TheInside.the_type (search sendable depth 20, (word_send, tt)))

pub run_send : IsSend run.the_row
run_send = view_send _ _ _ _ _ (declared_send run.TheInside.the_type (option_send (snapshot.the_row graph.the_row) (snapshot_send graph.the_row), (Vec-send status.the_row status_send, (number_send, (Vec-send u32-field.row number_send, (followers_send, (set_send, (phase_send, tt))))))))
