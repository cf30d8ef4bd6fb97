-- The stripes of an operation may go to another thread.
use Rattle.std.proofs.Crossing.{Vec-send}
use denote.Param.Send.{IsSend, sendable, view_send}
use denote.Param.SendFields.{declared_send}
use denote.Struct.Field.{u32-field}
use Rattle.lay_core.specs.contracts.place.Part as part
use Rattle.lay_core.specs.contracts.stripe_map.StripeMap as map

number_send : IsSend u32-field.row
number_send = search sendable

part_send : IsSend part.the_row
part_send = search sendable depth 20

pub stripe_map_send : IsSend map.the_row
stripe_map_send = view_send _ _ _ _ _ (declared_send map.TheInside.the_type (Vec-send u32-field.row number_send, (Vec-send part.the_row part_send, tt)))
