-- A device in a box may go to another thread, where the device may.
use Rattle.std.proofs.Crossing.{Box-send}
use denote.Param.Send.{IsSend}
use denote.Param.SendFields.{declared_send}
use denote.RattleType.{RattleType}
use Rattle.raid_bay.specs.contracts.boxed_disk.BoxedDisk as in_box

pub boxed_disk_send : (D : RattleType) → IsSend D → IsSend (in_box.the_row D)
boxed_disk_send D d = declared_send (in_box.the_type D) (Box-send D d, tt)
