use Rattle.std.proofs.Common.{◌∙◌, sym, arith, None}
use Rattle.eng_choice.proofs.Picking.{picked-half, picked-back, nothing-in, in-half, behind-half, before-half}
use Rattle.eng_choice.proofs.picks.pick_first.Goals as goal

pub loop-half-init : goal.loop-half-init
loop-half-init g c = record { behind = λ one. absurd (omega (arith, one)); before = λ two. absurd (omega (arith, two)) }

pub returns-then-is_some-clause-event : goal.returns-then-is_some-clause-event
returns-then-is_some-clause-event g c =
    picked-half g.L.Layout g.D.Disk c.args.array.now c.requires.sound c.wrapped-next.result c.loop-half.half c.wrapped-next.ensures c.loop-half-test.true c.loop-half.invariant.behind c.pick_among-chosen.result (sym c.is_some.ensures ∙ c.if-is_some.true)
    (in-half g.L.Layout g.D.Disk c.args.array.now c.half_of-from.result.0 c.half_of-from.result.1 c.wrapped-next.result c.loop-half.half c.half_of-from.ensures.from c.half_of-from.ensures.to c.pick_among-chosen.result c.pick_among-chosen.ensures.event)

pub loop-half-preserved : goal.loop-half-preserved
loop-half-preserved g c =
    let h = nothing-in g.L.Layout g.D.Disk c.args.array.now _ _ c.pick_among-chosen.result (sym c.is_some.ensures ∙ c.if-is_some.false) (in-half g.L.Layout g.D.Disk c.args.array.now c.half_of-from.result.0 c.half_of-from.result.1 c.wrapped-next.result c.loop-half.half c.half_of-from.ensures.from c.half_of-from.ensures.to c.pick_among-chosen.result c.pick_among-chosen.ensures.event) in
    record {
      behind = λ one. behind-half g.L.Layout g.D.Disk c.args.array.now c.wrapped-next.result c.loop-half.half c.loop-half.invariant.behind h;
      before = λ two. before-half g.L.Layout g.D.Disk c.args.array.now c.wrapped-next.result c.loop-half.half c.loop-half-test.true (omega (arith, two)) h;
    }

pub returns-clause-event : goal.returns-clause-event
returns-clause-event g c =
    let past = c.loop-half-test.false in
    picked-back g.L.Layout g.D.Disk c.args.array.now c.requires.sound c.wrapped-next.result c.wrapped-next.ensures (c.loop-half.invariant.behind (omega (arith, past))) None (c.loop-half.invariant.before (omega (arith, past)))
