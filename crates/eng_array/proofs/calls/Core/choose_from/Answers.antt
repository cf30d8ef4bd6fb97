use Rattle.eng_array.proofs.SteadyPick.{steady-moved, choice-moved}
use Rattle.eng_array.proofs.calls.Core.choose_from.Goals as goal

pub choose-chosen-requires : goal.choose-chosen-requires
choose-chosen-requires g c = steady-moved g.L.Layout g.D.Disk c.args.self.now.array c.args.client c.requires

pub returns-then-is_none-clause-event : goal.returns-then-is_none-clause-event
returns-then-is_none-clause-event g c = choice-moved g.L.Layout g.D.Disk c.args.self.now.array c.args.client c.choose-chosen.result c.choose-chosen.ensures.event
