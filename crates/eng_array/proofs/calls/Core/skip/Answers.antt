use Rattle.eng_array.proofs.SteadyNodes.{skip-room, skip-steady}
use Rattle.eng_array.proofs.HappeningCalls.{skip-happens, skip-jobs}
use Rattle.eng_array.proofs.calls.Core.skip.Goals as goal

pub skip-requires-clause-place : goal.skip-requires-clause-place
skip-requires-clause-place g c = skip-room g.L.Layout g.D.Disk c.args.self.now.array c.args.self.now.array c.args.client c.args.node c.requires.steady c.requires.can

pub returns-clause-steady : goal.returns-clause-steady
returns-clause-steady g c = skip-steady g.L.Layout g.D.Disk c.args.self.now.array c.skip.new.array c.args.client c.args.node c.requires.steady c.requires.can c.skip.ensures.skipped c.skip.ensures.sound c.skip.ensures.step

pub returns-clause-happens : goal.returns-clause-happens
returns-clause-happens g c = skip-happens g.L.Layout g.D.Disk c.args.self.now.array c.skip.new.array c.requires.steady (returns-clause-steady g c) c.args.client c.args.node c.requires.can c.skip.ensures.skipped c.skip.ensures.step

pub returns-clause-keeps : goal.returns-clause-keeps
returns-clause-keeps g c = skip-jobs g.L.Layout g.D.Disk c.args.self.now.array c.skip.new.array c.requires.steady (returns-clause-steady g c) c.args.client c.args.node c.requires.can c.skip.ensures.skipped c.skip.ensures.step c.skip.ensures.stays
