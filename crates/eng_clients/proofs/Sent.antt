-- Clients may go to another thread.
use Rattle.std.proofs.Crossing.{Vec-send}
use denote.RattleType.{RattleType}
use denote.Param.Send.{IsSend, sendable, view_send, recorded_send, enum_send}
use denote.Param.SendFields.{declared_send}
use denote.Struct.Field.{u8-field, u32-field}
use denote.Enum.Enum.{Enum}
use denote.Enum.Declared.{shape as shape_of}
use Rattle.std.specs.contracts.option.Option as option
use Rattle.buf_pool.proofs.Sent.{lease_send}
use Rattle.lay_core.proofs.Sent.{stripe_map_send}
use Rattle.graph_mean.proofs.Sent.{graph_send, task_send}
use Rattle.eng_one.proofs.Sent.{run_send}
use Rattle.item_list.proofs.Sent.{items_send}
use Rattle.eng_cols.specs.contracts.spot.Spot as spot
use Rattle.eng_world.specs.contracts.item.Item as item
use Rattle.eng_world.specs.contracts.item.Reply as reply
use Rattle.eng_clients.specs.contracts.client.Client as client
use Rattle.eng_clients.specs.contracts.clients.Clients as clients
use Rattle.eng_clients.specs.contracts.rebuilds.Rebuilds as rebuilds
use Rattle.eng_clients.specs.contracts.spots.Spots as spots
use Rattle.eng_clients.specs.contracts.stage.Stage as stage
use Rattle.eng_log.proofs.Sent.{byte_send, number_send}

-- ## Values

pub option_send : (X : RattleType) → IsSend X → IsSend (option.the_row X)
option_send X x = let E = option.the_type X in recorded_send (Enum (shape_of E)) E.D E.to E.to_one (enum_send (shape_of E) (tt, ((x, tt), tt)))

item_send : IsSend item.the_row
item_send = search sendable depth 60 fits 10000

pub reply_send : IsSend reply.the_row
reply_send = search sendable depth 60 fits 10000

spot_send : IsSend spot.the_row
spot_send = search sendable depth 20

spots_send : IsSend spots.the_row
spots_send = view_send _ _ _ _ _ (declared_send spots.TheInside.the_type (Vec-send (option.the_row spot.the_row) (option_send spot.the_row spot_send), tt))

stage_send : IsSend stage.the_row
stage_send = search sendable depth 20

-- ## Parts

client_send : IsSend client.the_row
client_send = view_send _ _ _ _ _ (declared_send client.TheInside.the_type (
  items_send,
  (
    option_send item.the_row item_send,
    (
      Vec-send reply.the_row reply_send,
      (
        stage_send,
        (
          run_send,
          (
            graph_send,
            (
              task_send,
              (
                stripe_map_send,
                (
                  Vec-send (option.the_row u8-field.row) (option_send u8-field.row byte_send),
                  (
                    lease_send,
                    (
                      spots_send,
                      (option_send u32-field.row number_send, (option_send u32-field.row number_send, tt)),
                    ),
                  ),
                ),
              ),
            ),
          ),
        ),
      ),
    ),
  ),
))

pub clients_send : IsSend clients.the_row
clients_send = view_send _ _ _ _ _ (declared_send clients.TheInside.the_type (Vec-send client.the_row client_send, (search sendable depth 20, tt)))

pub rebuilds_send : IsSend rebuilds.the_row
rebuilds_send = view_send _ _ _ _ _ (declared_send rebuilds.TheInside.the_type (number_send, (items_send, (Vec-send reply.the_row reply_send, tt))))
