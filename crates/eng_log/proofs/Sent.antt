-- A log may go to another thread.
use Rattle.std.proofs.Crossing.{Vec-send}
use denote.Param.Send.{IsSend, sendable, view_send}
use denote.Param.SendFields.{declared_send}
use denote.Struct.Field.{bool-field, u8-field, u32-field}
use Rattle.blk_plain.specs.contracts.op.OpId as id
use Rattle.eng_world.specs.contracts.item.Traced as traced
use Rattle.sector_store.proofs.Sent.{store_send}
use Rattle.eng_log.specs.contracts.handed.Handed as handed
use Rattle.eng_log.specs.contracts.handed.Regions as regions
use Rattle.eng_log.specs.contracts.log.Log as log
use Rattle.eng_log.specs.contracts.region.Region as region

-- ## Values

pub flag_send : IsSend bool-field.row
flag_send = search sendable

pub byte_send : IsSend u8-field.row
byte_send = search sendable

pub number_send : IsSend u32-field.row
number_send = search sendable

id_send : IsSend id.the_row
id_send = search sendable depth 20

traced_send : IsSend traced.the_row
traced_send = search sendable depth 20

region_send : IsSend region.the_row
region_send = search sendable depth 20

-- ## Parts

regions_send : IsSend regions.the_row
regions_send = view_send _ _ _ _ _ (declared_send regions.TheInside.the_type (Vec-send region.the_row region_send, tt))

handed_send : IsSend handed.the_row
handed_send = view_send _ _ _ _ _ (declared_send handed.TheInside.the_type (store_send, (Vec-send regions.the_row regions_send, tt)))

pub log_send : IsSend log.the_row
log_send = view_send _ _ _ _ _ (declared_send log.TheInside.the_type (Vec-send id.the_row id_send, (Vec-send traced.the_row traced_send, (flag_send, (number_send, (handed_send, (number_send, (number_send, tt))))))))
