use Rattle.std.proofs.Common.{ℕ, ◌+◌, subst, ◌∙◌, arith}
use Rattle.blk_plain.specs.Plain.{is_in_some, spans_of}
use Rattle.lay_core.specs.Joined.{began, IsInSpan}
use Rattle.lay_core.proofs.Walked.{begin-span, end-span, is-stepped, is-over}
use Rattle.lay_core.proofs.joint.add_span.Goals as goal

pub loop-low-init : goal.loop-low-init
loop-low-init g c =
    let y = g.L.Layout.shape c.args.layout.now in
    let e = c.from.ensures in
    record {
      walked = begin-span y (is_in_some (spans_of c.args.patches.now)) c.args.map.now c.args.span.first (c.args.span.first + c.from.result) (began (spans_of c.args.patches.now) c.args.span.first) (omega arith) c.requires.walked;
      sectors = c.from-sectors.ensures ∙ c.unit_sectors.ensures;
      end = omega (arith, e);
    }

pub returns-in-Err-clause-full : goal.returns-in-Err-clause-full
returns-in-Err-clause-full g c =
    let y = g.L.Layout.shape c.args.layout.now in
    let law = g.met.L.Layout.is_layout c.args.layout.now in
    let ss = spans_of c.args.patches.now in
    is-over y law ss c.args.span c.requires.own c.requires.inside (began ss c.args.span.first) c.from-sectors.result (c.args.span.first + c.from.result) c.loop-low.low c.min-high.result c.loop-low.map
    c.loop-low.invariant.sectors c.loop-low.invariant.end c.loop-low.invariant.walked c.loop-low-test.true c.min-high.ensures c.in-Err.ensures.full.0 c.in-Err.ensures.full.1

pub loop-low-preserved : goal.loop-low-preserved
loop-low-preserved g c =
    let y = g.L.Layout.shape c.args.layout.now in
    let law = g.met.L.Layout.is_layout c.args.layout.now in
    let ss = spans_of c.args.patches.now in
    record {
      walked = is-stepped y law ss c.args.span c.requires.own c.requires.inside (began ss c.args.span.first) c.from-sectors.result (c.args.span.first + c.from.result) c.loop-low.low c.min-high.result c.loop-low.map
          c.loop-low.invariant.sectors c.loop-low.invariant.end c.loop-low.invariant.walked c.loop-low-test.true c.min-high.ensures c.add_blocks.new.map c.in-Ok.ensures.added c.in-Ok.ensures.few;
      sectors = c.loop-low.invariant.sectors;
      end = c.loop-low.invariant.end;
    }

pub returns-clause-walked : goal.returns-clause-walked
returns-clause-walked g c =
    let y = g.L.Layout.shape c.args.layout.now in
    let test = is_in_some (spans_of c.args.patches.now) in
    let e = c.loop-low.invariant.end in
    let some = c.requires.some in
    let over = c.loop-low-test.false in
    let n = began (spans_of c.args.patches.now) c.args.span.first in
    let at : IsInSpan y test c.loop-low.map c.args.span.first (c.args.span.first + c.args.span.count) c.loop-low.low n = subst (λ (z : ℕ). IsInSpan y test c.loop-low.map c.args.span.first z c.loop-low.low n) e c.loop-low.invariant.walked in
    end-span y test c.loop-low.map c.args.span.first (c.args.span.first + c.args.span.count) c.loop-low.low n (omega (arith, some)) (omega (arith, over, e)) at
