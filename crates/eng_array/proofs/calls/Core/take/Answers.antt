use Rattle.eng_array.proofs.Buffers.{has-there}
use Rattle.eng_array.proofs.SteadyTake.{stands, take-room, take-steady}
use Rattle.eng_array.proofs.HappeningCalls.{take-happens, take-jobs}
use Rattle.eng_array.proofs.calls.Core.take.Goals as goal

pub take-requires-clause-stands : goal.take-requires-clause-stands
take-requires-clause-stands g c = stands g.L.Layout g.D.Disk c.args.self.now.array c.args.self.now.array c.args.client c.requires.steady c.requires.can.not_lost

pub take-requires-clause-place : goal.take-requires-clause-place
take-requires-clause-place g c = take-room g.L.Layout g.D.Disk c.args.self.now.array c.args.self.now.array c.args.client c.requires.steady c.requires.can.not_lost c.requires.can

pub take-requires-clause-there : goal.take-requires-clause-there
take-requires-clause-there g c = has-there g.L.Layout g.D.Disk c.args.self.now.array c.requires.steady c.requires.can.not_lost c.args.client c.requires.can

pub returns-clause-steady : goal.returns-clause-steady
returns-clause-steady g c = take-steady g.L.Layout g.D.Disk c.args.self.now.array c.take.new.array c.args.client c.requires.steady c.requires.can.not_lost c.requires.can c.take.ensures.became c.take.ensures.sound c.take.ensures.step

pub returns-clause-happens : goal.returns-clause-happens
returns-clause-happens g c = take-happens g.L.Layout g.D.Disk c.args.self.now.array c.take.new.array c.requires.steady (returns-clause-steady g c) c.args.client c.requires.can.not_lost c.requires.can c.take.ensures.became c.take.ensures.step

pub returns-clause-keeps : goal.returns-clause-keeps
returns-clause-keeps g c = take-jobs g.L.Layout g.D.Disk c.args.self.now.array c.take.new.array c.requires.steady (returns-clause-steady g c) c.args.client c.requires.can.not_lost c.requires.can c.take.ensures.became c.take.ensures.step c.take.ensures.stays
