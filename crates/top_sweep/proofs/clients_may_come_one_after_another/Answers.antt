use Rattle.top_sweep.proofs.InAnyOrder.{leaves_in_turn, reads_in_turn}
use Rattle.top_sweep.proofs.clients_may_come_one_after_another.Goals as goal

pub returns : goal.returns
returns c = record { leaves = leaves_in_turn; reads = reads_in_turn }
