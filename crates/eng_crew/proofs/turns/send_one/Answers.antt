use Rattle.std.proofs.Common.{None, refl}
use Rattle.eng_array.specs.Tickets.{nothing}
use Rattle.eng_crew.proofs.Keeps.{turns-once}
use Rattle.eng_crew.proofs.turns.send_one.Goals as goal

pub returns-in_default-clause-turned : goal.returns-in_default-clause-turned
returns-in_default-clause-turned g c = turns-once g.L.Layout g.D.Disk c.args.core.now c.choose_from.new.self None None (nothing (c.choose_from.ensures.none c.in_default.is) refl)

pub returns-clause-turned : goal.returns-clause-turned
returns-clause-turned g c = (c.send-job.ensures c.args.core.now c.choose_from.ensures.quiet c.requires).turned

pub returns-clause-steady : goal.returns-clause-steady
returns-clause-steady g c = (c.send-job.ensures c.args.core.now c.choose_from.ensures.quiet c.requires).steady

pub returns-clause-event : goal.returns-clause-event
returns-clause-event g c is = (c.send-job.ensures c.args.core.now c.choose_from.ensures.quiet c.requires).falls
