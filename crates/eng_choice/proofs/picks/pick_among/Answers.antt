use Rattle.std.proofs.Common.{sym, ◌∙◌, arith}
use Rattle.eng_choice.proofs.Picking.{among-more, among-one, among-here}
use Rattle.eng_choice.proofs.picks.pick_among.Goals as goal

pub loop-client-init : goal.loop-client-init
loop-client-init g c = record { on = omega arith; most = c.requires.from; nothing = λ k least most. absurd (omega (arith, least, most)) }

pub returns-then-client-to-clause-event : goal.returns-then-client-to-clause-event
returns-then-client-to-clause-event g c =
    let b = c.in-Some.ensures in
    λ k least most. among-more g.L.Layout g.D.Disk c.args.array.now c.args.from c.loop-client.from c.in-Some.client c.loop-client.invariant.nothing b.1 k least (let past = c.if-client-to.true in omega (arith, most, past))

pub returns-then-is_some-clause-event : goal.returns-then-is_some-clause-event
returns-then-is_some-clause-event g c =
    let b = c.in-Some.ensures in
    let on = c.loop-client.invariant.on in
    let below = c.if-client-to.false in
    among-here g.L.Layout g.D.Disk c.args.array.now c.args.from c.args.to c.in-Some.client (omega (arith, on, b.0)) (omega (arith, below))
    (among-more g.L.Layout g.D.Disk c.args.array.now c.args.from c.loop-client.from c.in-Some.client c.loop-client.invariant.nothing b.1)
    c.pick_of-chosen.result (sym c.is_some.ensures ∙ c.if-is_some.true) c.pick_of-chosen.ensures.event

pub loop-client-preserved : goal.loop-client-preserved
loop-client-preserved g c =
    let b = c.in-Some.ensures in
    let on = c.loop-client.invariant.on in
    let below = c.if-client-to.false in
    let to = c.requires.to in
    record {
      on = omega (arith, on, b.0);
      most = omega (arith, below, to);
      nothing = among-one g.L.Layout g.D.Disk c.args.array.now c.args.from c.in-Some.client
          (among-more g.L.Layout g.D.Disk c.args.array.now c.args.from c.loop-client.from c.in-Some.client c.loop-client.invariant.nothing b.1)
          c.pick_of-chosen.result (sym c.is_some.ensures ∙ c.if-is_some.false) c.pick_of-chosen.ensures.event;
    }

pub returns-clause-event : goal.returns-clause-event
returns-clause-event g c = among-more g.L.Layout g.D.Disk c.args.array.now c.args.from c.loop-client.from c.args.to c.loop-client.invariant.nothing (λ k least most. c.in_default.ensures k least)
