-- The layouts may go to another thread.
use denote.Param.Send.{IsSend, sendable}
use denote.Param.SendFields.{declared_send}
use denote.Struct.Field.{u32-field}
use Rattle.lay_plain.specs.contracts.chain.Chain as chain
use Rattle.lay_plain.specs.contracts.level_zero.Raid0 as raid0
use Rattle.lay_plain.specs.contracts.level_one.Raid1 as raid1
use Rattle.lay_plain.specs.contracts.level_four.Raid4 as raid4
use Rattle.lay_plain.specs.contracts.level_five.Raid5 as raid5

number_send : IsSend u32-field.row
number_send = search sendable

pub raid0_send : IsSend raid0.the_row
raid0_send = declared_send raid0.the_type (number_send, (number_send, (number_send, tt)))

pub raid1_send : IsSend raid1.the_row
raid1_send = declared_send raid1.the_type (number_send, (number_send, (number_send, tt)))

pub raid4_send : IsSend raid4.the_row
raid4_send = declared_send raid4.the_type (number_send, (number_send, (number_send, tt)))

pub raid5_send : IsSend raid5.the_row
raid5_send = declared_send raid5.the_type (number_send, (number_send, (number_send, tt)))

pub chain_send : IsSend chain.the_row
chain_send = declared_send chain.the_type (number_send, (number_send, (number_send, tt)))
