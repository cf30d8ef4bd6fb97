use Rattle.std.proofs.Common.{None}
use Rattle.eng_crew.specs.Laws.{after_step}
use Rattle.eng_crew.proofs.Made.{made-home}
use Rattle.eng_crew.proofs.draining.drain_one.Goals as goal

pub returns-clause-home : goal.returns-clause-home
returns-clause-home g c = made-home g.L.Layout g.D.Disk c.args.core.now c.make_next.new.core c.make_next.ensures.turned c.requires.steady c.requires.home

pub returns-clause-after : goal.returns-clause-after
returns-clause-after g c = after_step g.L.Layout g.D.Disk c.args.core.now c.make_next.new.core None None c.make_next.ensures.turned
