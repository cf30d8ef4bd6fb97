-- A core may go to another thread where its layout and its devices may.
use denote.RattleType.{RattleType}
use denote.Param.Send.{IsSend}
use denote.Param.SendFields.{declared_send}
use Rattle.eng_state.proofs.Sent.{array_send}
use Rattle.eng_array.specs.contracts.calls.Core as core

pub core_send : (L D : RattleType) → IsSend L → IsSend D → IsSend (core.the_row L D)
core_send L D l d = declared_send (core.the_type L D) (array_send L D l d, tt)
