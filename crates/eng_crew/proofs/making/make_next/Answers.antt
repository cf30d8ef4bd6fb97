use Rattle.std.proofs.Common.{None, refl}
use Rattle.eng_array.specs.Tickets.{nothing}
use Rattle.eng_crew.proofs.Keeps.{turns-once}
use Rattle.eng_crew.proofs.making.make_next.Goals as goal

pub returns-in-None-clause-turned : goal.returns-in-None-clause-turned
returns-in-None-clause-turned g c = turns-once g.L.Layout g.D.Disk c.args.core.now c.choose_from.new.self None None (nothing (c.choose_from.ensures.none c.in-None.is) refl)

pub returns-in-Some-Fire-clause-turned : goal.returns-in-Some-Fire-clause-turned
returns-in-Some-Fire-clause-turned g c = (c.fire_through.ensures c.args.core.now c.choose_from.ensures.quiet c.requires).turned

pub returns-in-Some-Fire-clause-steady : goal.returns-in-Some-Fire-clause-steady
returns-in-Some-Fire-clause-steady g c = (c.fire_through.ensures c.args.core.now c.choose_from.ensures.quiet c.requires).steady

pub returns-in-Some-Fire-clause-falls : goal.returns-in-Some-Fire-clause-falls
returns-in-Some-Fire-clause-falls g c is = (c.fire_through.ensures c.args.core.now c.choose_from.ensures.quiet c.requires).falls

pub returns-in-Some-clause-turned : goal.returns-in-Some-clause-turned
returns-in-Some-clause-turned g c = (c.make.ensures c.args.core.now c.choose_from.ensures.quiet c.requires).turned

pub returns-in-Some-clause-steady : goal.returns-in-Some-clause-steady
returns-in-Some-clause-steady g c = (c.make.ensures c.args.core.now c.choose_from.ensures.quiet c.requires).steady

pub returns-in-Some-clause-falls : goal.returns-in-Some-clause-falls
returns-in-Some-clause-falls g c is = (c.make.ensures c.args.core.now c.choose_from.ensures.quiet c.requires).falls
