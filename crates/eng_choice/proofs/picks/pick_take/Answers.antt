use Rattle.eng_choice.proofs.Picking.{refuted, first-take, nothing-taken, waits-begins-not}
use Rattle.eng_choice.proofs.picks.pick_take.Goals as goal

pub returns-then-can_take-clause-event : goal.returns-then-can_take-clause-event
returns-then-can_take-clause-event g c = first-take g.L.Layout g.D.Disk c.args.array.now c.args.client (waits-begins-not g.L.Layout g.D.Disk c.args.array.now c.args.client c.requires.waits) (c.can_take.ensures.0 c.if-can_take.true)

pub returns-clause-event : goal.returns-clause-event
returns-clause-event g c = nothing-taken g.L.Layout g.D.Disk c.args.array.now c.args.client c.requires.waits (refuted c.can_take.result _ c.can_take.ensures c.if-can_take.false)
