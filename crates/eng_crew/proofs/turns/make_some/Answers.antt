use Rattle.std.proofs.Common.{None, refl}
use Rattle.eng_array.specs.Tickets.{nothing}
use Rattle.eng_crew.proofs.Keeps.{turns-on, turns-once}
use Rattle.eng_crew.proofs.turns.make_some.Goals as goal

pub loop-left-init : goal.loop-left-init
loop-left-init g c = record { turned = turns-once g.L.Layout g.D.Disk c.args.core.now c.args.core.now None None (nothing refl refl); steady = c.requires }

pub loop-left-preserved : goal.loop-left-preserved
loop-left-preserved g c = record { turned = turns-on g.L.Layout g.D.Disk c.args.core.now c.loop-left.core c.make_next.new.core None None None c.loop-left.invariant.turned c.make_next.ensures.turned; steady = c.make_next.ensures.steady }

pub returns-then-not-make_next-clause-turned : goal.returns-then-not-make_next-clause-turned
returns-then-not-make_next-clause-turned g c = turns-on g.L.Layout g.D.Disk c.args.core.now c.loop-left.core c.make_next.new.core None None None c.loop-left.invariant.turned c.make_next.ensures.turned
