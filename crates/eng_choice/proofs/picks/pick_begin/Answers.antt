use Rattle.eng_choice.proofs.Picking.{refuted, first-begin, nothing-begins}
use Rattle.eng_choice.proofs.picks.pick_begin.Goals as goal

pub returns-then-can_begin-clause-event : goal.returns-then-can_begin-clause-event
returns-then-can_begin-clause-event g c = first-begin g.L.Layout g.D.Disk c.args.array.now c.args.client (c.can_begin.ensures.0 c.if-can_begin.true)

pub returns-clause-event : goal.returns-clause-event
returns-clause-event g c = nothing-begins g.L.Layout g.D.Disk c.args.array.now c.args.client c.requires (refuted c.can_begin.result _ c.can_begin.ensures c.if-can_begin.false)
