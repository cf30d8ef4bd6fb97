use Rattle.std.proofs.Common.{◌≡◌, ◌+◌, ℕ, subst, arith}
use Rattle.blk_plain.specs.Plain.{is_in_some, spans_of}
use Rattle.lay_core.specs.Joined.{began, IsWalked}
use Rattle.lay_core.proofs.NextSpan.{spans-most}
use Rattle.lay_core.proofs.Walked.{Passed, begin-all, none-passed, go-on, gone-on, one-left, passed-next, spans-apart, end-walk, is-some-count, is-in-range, is-range-word}
use Rattle.lay_core.proofs.joint.add_all.Goals as goal

pub loop-span-init : goal.loop-span-init
loop-span-init g c = record {
  walked = begin-all (g.L.Layout.shape c.args.layout.now) (spans_of c.args.patches.now) c.args.map.now c.requires.empty;
  passed = none-passed (spans_of c.args.patches.now);
  inside = omega arith;
}

pub add_span-requires-clause-walked : goal.add_span-requires-clause-walked
add_span-requires-clause-walked g c =
    go-on (g.L.Layout.shape c.args.layout.now) (spans_of c.args.patches.now) c.loop-span.map c.loop-span.at c.in-Some.span c.loop-span.invariant.passed c.in-Some.ensures c.loop-span.invariant.walked

pub add_span-requires-clause-less : goal.add_span-requires-clause-less
add_span-requires-clause-less g c =
    let ss = spans_of c.args.patches.now in
    let n = spans-most c.args.patches.now in
    let few = c.requires.sound.few in
    one-left ss c.loop-span.at c.in-Some.span (omega (arith, n, few)) (is-some-count ss c.in-Some.span c.in-Some.ensures.0 c.requires.some) c.in-Some.ensures

pub overflow_add-at : goal.overflow_add-at
overflow_add-at g c =
    let h = is-range-word (g.L.Layout.shape c.args.layout.now) (g.met.L.Layout.is_layout c.args.layout.now) (spans_of c.args.patches.now) c.in-Some.span c.in-Some.ensures.0 c.requires.inside in
    let e = c.from.ensures in
    omega (arith, h, e)

pub loop-span-preserved : goal.loop-span-preserved
loop-span-preserved g c =
    let y = g.L.Layout.shape c.args.layout.now in
    let ss = spans_of c.args.patches.now in
    let s = c.in-Some.span in
    let own = c.in-Some.ensures.0 in
    let some = is-some-count ss s own c.requires.some in
    let e : s.first + s.count ≡ s.first + c.from.result = let f = c.from.ensures in omega (arith, f) in
    let h = is-in-range y ss s own c.requires.inside in
    record {
      walked = subst (λ (k : ℕ). IsWalked y (is_in_some ss) c.add_span.new.map k (began ss k)) e (gone-on y ss c.add_span.new.map c.loop-span.at s some c.in-Some.ensures c.in-Ok.ensures.walked);
      passed = subst (λ (k : ℕ). Passed ss k) e (passed-next ss c.loop-span.at s (spans-apart c.args.patches.now c.requires.sound) (λ k d l. c.requires.some k d l) c.loop-span.invariant.passed c.in-Some.ensures);
      inside = omega (arith, h, e);
    }

pub returns-clause-split : goal.returns-clause-split
returns-clause-split g c =
    let ss = spans_of c.args.patches.now in
    let n = spans-most c.args.patches.now in
    let few = c.requires.sound.few in
    end-walk (g.L.Layout.shape c.args.layout.now) (g.met.L.Layout.is_layout c.args.layout.now) ss c.loop-span.map c.loop-span.at (omega (arith, n, few)) c.loop-span.invariant.passed c.in_default.ensures c.loop-span.invariant.walked
