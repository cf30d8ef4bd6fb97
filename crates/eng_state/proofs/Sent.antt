-- An array may go to another thread where its layout and its devices may.
use Rattle.std.proofs.Crossing.{Vec-send}
use denote.RattleType.{RattleType}
use denote.Param.Send.{IsSend, sendable, recorded_send, enum_send}
use denote.Param.SendFields.{declared_send, as_row_send}
use denote.Struct.Field.{row_field, u32-field}
use denote.Enum.Enum.{Enum}
use denote.Enum.Declared.{shape as shape_of}
use Rattle.std.specs.contracts.option.Option as option
use Rattle.buf_pool.proofs.Sent.{reserve_send}
use Rattle.stripe_lock.proofs.Sent.{locks_send}
use Rattle.graph_mean.specs.contracts.graph.Graph as graph
use Rattle.graph_mean.proofs.Sent.{graph_send}
use Rattle.graph_check.proofs.Sent.{scratch_send}
use Rattle.eng_cols.specs.contracts.spot.Loss as loss
use Rattle.eng_cols.proofs.Sent.{cols_send}
use Rattle.eng_job.proofs.Sent.{lists_send}
use Rattle.eng_state.specs.contracts.array.Array as array
use Rattle.eng_parts.proofs.Sent.{devices_send, spare_send}
use Rattle.eng_clients.proofs.Sent.{clients_send, rebuilds_send}
use Rattle.eng_log.proofs.Sent.{log_send}

loss_send : IsSend loss.the_row
loss_send = search sendable depth 20

number_send : IsSend u32-field.row
number_send = search sendable

lost_send : IsSend (option.the_row loss.the_row)
lost_send = let E = option.the_type loss.the_row in recorded_send (Enum (shape_of E)) E.D E.to E.to_one (enum_send (shape_of E) (tt, ((loss_send, tt), tt)))

pub array_send : (L D : RattleType) → IsSend L → IsSend D → IsSend (array.the_row L D)
array_send L D l d = declared_send (array.the_type L D) (
  as_row_send (row_field L) l,
  (
    cols_send,
    (
      devices_send D d,
      (
        reserve_send,
        (
          locks_send,
          (
            lists_send,
            (
              clients_send,
              (
                Vec-send graph.the_row graph_send,
                (
                  scratch_send,
                  (log_send, (rebuilds_send, (spare_send, (lost_send, (number_send, tt))))),
                ),
              ),
            ),
          ),
        ),
      ),
    ),
  ),
)
