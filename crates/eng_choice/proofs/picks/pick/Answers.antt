use Rattle.std.proofs.Common.{sym, subst, Option}
use Rattle.std.specs.Prelude.{IfSome}
use Rattle.eng_state.specs.Doing.{CanDo}
use Rattle.eng_choice.specs.declared.chosen.Chosen.{Chosen}
use Rattle.eng_choice.specs.Picked.{StandsThere}
use Rattle.eng_choice.proofs.Picking.{can-moved, place-moved, sound-moved, stands-moved, shows-moved}
use Rattle.eng_choice.proofs.picks.pick.Goals as goal

pub returns-in-Some-clause-can : goal.returns-in-Some-clause-can
returns-in-Some-clause-can g c = can-moved g.L.Layout g.D.Disk c.args.array.now _ c.in-Some.chosen.event c.in-Some.ensures.event.event.can

pub returns-in-Some-clause-at : goal.returns-in-Some-clause-at
returns-in-Some-clause-at g c = place-moved g.L.Layout g.D.Disk c.args.array.now c.wrapped-array.result c.in-Some.chosen.event c.in-Some.chosen.at c.in-Some.ensures.at

pub returns-in-Some-clause-sound : goal.returns-in-Some-clause-sound
returns-in-Some-clause-sound g c = sound-moved g.L.Layout g.D.Disk c.args.array.now _ c.requires.sound

pub returns-in-Some-clause-stands : goal.returns-in-Some-clause-stands
returns-in-Some-clause-stands g c = stands-moved g.L.Layout g.D.Disk c.args.array.now _ c.requires.stands

pub returns-in_default-clause-event : goal.returns-in_default-clause-event
returns-in_default-clause-event g c = c.pick_first-chosen.ensures.event

pub returns-in_default-clause-can : goal.returns-in_default-clause-can
returns-in_default-clause-can g c = subst (λ (o : Option Chosen). IfSome o (λ x. CanDo g.L.Layout c.args.array.now x.event)) (sym c.in_default.is) tt

pub returns-in_default-clause-at : goal.returns-in_default-clause-at
returns-in_default-clause-at g c = subst (λ (o : Option Chosen). IfSome o (StandsThere g.L.Layout c.args.array.now)) (sym c.in_default.is) tt

pub returns-in_default-clause-sound : goal.returns-in_default-clause-sound
returns-in_default-clause-sound g c = c.requires.sound

pub returns-in_default-clause-stands : goal.returns-in_default-clause-stands
returns-in_default-clause-stands g c = c.requires.stands

pub returns-in-Some-clause-shows : goal.returns-in-Some-clause-shows
returns-in-Some-clause-shows g c = λ w s. shows-moved g.L.Layout g.D.Disk c.args.array.now _ w s

pub returns-in-Some-clause-stays : goal.returns-in-Some-clause-stays
returns-in-Some-clause-stays g c = λ job out. out

pub returns-in_default-clause-shows : goal.returns-in_default-clause-shows
returns-in_default-clause-shows g c = λ w s. s

pub returns-in_default-clause-stays : goal.returns-in_default-clause-stays
returns-in_default-clause-stays g c = λ job out. out
