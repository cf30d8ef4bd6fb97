use Rattle.eng_array.proofs.Buffers.{has-there}
use Rattle.eng_array.proofs.progress.leases_are_there.Goals as goal

pub returns : goal.returns
returns g c = λ core client steady can. has-there g.L.Layout g.D.Disk core steady can.not_lost client can
