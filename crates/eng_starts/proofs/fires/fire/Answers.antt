use Rattle.eng_starts.proofs.FireKeeps.{fire-sound}
use Rattle.eng_starts.proofs.FireStays.{fire-stays}
use Rattle.eng_starts.proofs.Firing.{fire-follows, fire-out}
use Rattle.eng_starts.proofs.fires.fire.Goals as goal

pub returns-clause-out : goal.returns-clause-out
returns-clause-out g c = fire-out g.L.Layout g.D.Disk c.args.array.now c.fire_node.new.array c.args.client c.args.node c.requires.sound c.requires.can c.fire_node.ensures.fired c.fire_node.result c.fire_node.ensures.job.0 c.fire_node.ensures.job.1 c.fire_node.ensures.work c.fire_node.ensures.room

pub returns-clause-step : goal.returns-clause-step
returns-clause-step g c = fire-follows g.L.Layout g.D.Disk c.args.array.now c.fire_node.new.array c.args.client c.args.node c.requires.sound c.requires.can c.fire_node.ensures.fired

pub returns-clause-sound : goal.returns-clause-sound
returns-clause-sound g c = fire-sound g.L.Layout g.D.Disk c.args.array.now c.fire_node.new.array c.args.client c.args.node c.requires.sound c.requires.can c.fire_node.ensures.fired

pub returns-clause-stays : goal.returns-clause-stays
returns-clause-stays g c = fire-stays g.L.Layout g.D.Disk c.args.array.now c.fire_node.new.array c.args.client c.args.node c.requires.sound c.requires.can c.fire_node.ensures.fired
