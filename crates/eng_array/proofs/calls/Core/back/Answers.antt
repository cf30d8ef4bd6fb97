use Rattle.eng_array.proofs.SteadyTake.{stands, back-room, back-steady}
use Rattle.eng_array.proofs.HappeningCalls.{back-happens, back-jobs}
use Rattle.eng_array.proofs.calls.Core.back.Goals as goal

pub back-requires-clause-stands : goal.back-requires-clause-stands
back-requires-clause-stands g c = stands g.L.Layout g.D.Disk c.args.self.now.array c.args.self.now.array c.args.client c.requires.steady c.requires.can.not_lost

pub back-requires-clause-place : goal.back-requires-clause-place
back-requires-clause-place g c = back-room g.L.Layout g.D.Disk c.args.self.now.array c.args.self.now.array c.args.client c.requires.steady c.requires.can.not_lost c.requires.can

pub returns-clause-steady : goal.returns-clause-steady
returns-clause-steady g c = back-steady g.L.Layout g.D.Disk c.args.self.now.array c.back.new.array c.args.client c.requires.steady c.requires.can.not_lost c.requires.can c.back.ensures.became c.back.ensures.sound c.back.ensures.step

pub returns-clause-happens : goal.returns-clause-happens
returns-clause-happens g c = back-happens g.L.Layout g.D.Disk c.args.self.now.array c.back.new.array c.requires.steady (returns-clause-steady g c) c.args.client c.requires.can.not_lost c.requires.can c.back.ensures.became c.back.ensures.step

pub returns-clause-keeps : goal.returns-clause-keeps
returns-clause-keeps g c = back-jobs g.L.Layout g.D.Disk c.args.self.now.array c.back.new.array c.requires.steady (returns-clause-steady g c) c.args.client c.requires.can.not_lost c.requires.can c.back.ensures.became c.back.ensures.step c.back.ensures.stays
