use Rattle.eng_choice.proofs.Picking.{refuted, first-back, first-of, runs-begins-not, runs-takes-not}
use Rattle.eng_choice.proofs.picks.pick_step.Goals as goal

pub returns-then-can_back-clause-event : goal.returns-then-can_back-clause-event
returns-then-can_back-clause-event g c =
    first-back g.L.Layout g.D.Disk c.args.array.now c.args.client
    (runs-begins-not g.L.Layout g.D.Disk c.args.array.now c.args.client c.requires.runs)
    (runs-takes-not g.L.Layout g.D.Disk c.args.array.now c.args.client c.requires.runs)
    (c.can_back.ensures.0 c.if-can_back.true)

pub returns-clause-event : goal.returns-clause-event
returns-clause-event g c =
    first-of g.L.Layout g.D.Disk c.args.array.now c.args.client
    (runs-begins-not g.L.Layout g.D.Disk c.args.array.now c.args.client c.requires.runs)
    (runs-takes-not g.L.Layout g.D.Disk c.args.array.now c.args.client c.requires.runs)
    (refuted c.can_back.result _ c.can_back.ensures c.if-can_back.false)
    c.pick_node.result c.pick_node.ensures.event
