use Rattle.eng_array.proofs.SteadyNodes.{fire-room, fire-steady}
use Rattle.eng_array.proofs.HappeningCalls.{fire-happens, fire-lends}
use Rattle.eng_array.proofs.calls.Core.fire_at.Goals as goal

pub fire-requires-clause-place : goal.fire-requires-clause-place
fire-requires-clause-place g c = fire-room g.L.Layout g.D.Disk c.args.self.now.array c.args.self.now.array c.args.client c.args.node c.requires.steady c.requires.can

pub returns-clause-steady : goal.returns-clause-steady
returns-clause-steady g c = fire-steady g.L.Layout g.D.Disk c.args.self.now.array c.fire.new.array c.args.client c.args.node c.requires.steady c.requires.can c.fire.ensures.fired c.fire.ensures.sound c.fire.ensures.step

pub returns-clause-happens : goal.returns-clause-happens
returns-clause-happens g c = fire-happens g.L.Layout g.D.Disk c.args.self.now.array c.fire.new.array c.requires.steady (returns-clause-steady g c) c.args.client c.args.node c.requires.can c.fire.ensures.fired c.fire.ensures.step

pub returns-clause-lends : goal.returns-clause-lends
returns-clause-lends g c =
    fire-lends g.L.Layout g.D.Disk c.args.self.now.array c.fire.new.array c.requires.steady (returns-clause-steady g c) c.args.client c.args.node c.requires.can c.fire.ensures.fired c.fire.ensures.step c.fire.result
    c.fire.ensures.job.0 c.fire.ensures.job.1 c.fire.ensures.out c.fire.ensures.stays
