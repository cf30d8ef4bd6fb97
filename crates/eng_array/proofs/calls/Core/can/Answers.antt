use Rattle.eng_array.proofs.SteadyPick.{steady-stands}
use Rattle.eng_array.proofs.calls.Core.can.Goals as goal

pub can-requires-clause-stands : goal.can-requires-clause-stands
can-requires-clause-stands g c = steady-stands g.L.Layout g.D.Disk c.args.self.now.array c.requires c.in-None.is
