use Rattle.std.proofs.Common.{◌≡◌, ◌+◌, ◌-◌, ℕ, ap, sym, subst, ◌∙◌, arith}
use Rattle.std.specs.Prelude.{max}
use Rattle.blk_plain.specs.Plain.{is_in_some, spans_of}
use Rattle.lay_core.specs.Layout.{stripe_of}
use Rattle.lay_core.proofs.Walked.{Passed, none-passed, passed-next, spans-apart, is-some-count, is-in-range}
use Rattle.lay_core.proofs.Counted.{IsCounted, begin-count, end-count, behind, is-counted, is-few}
use Rattle.lay_core.proofs.joint.count_all.Goals as goal

pub loop-span-init : goal.loop-span-init
loop-span-init g c = record {
  counted = begin-count (g.L.Layout.shape c.args.layout.now) (is_in_some (spans_of c.args.patches.now));
  passed = none-passed (spans_of c.args.patches.now);
  inside = omega arith;
}

pub overflow_sub-count : goal.overflow_sub-count
overflow_sub-count g c =
    let y = g.L.Layout.shape c.args.layout.now in
    let ss = spans_of c.args.patches.now in
    let s = c.in-Some.span in
    let own = c.in-Some.ensures.0 in
    let f = c.from.ensures in
    let e : c.home-next.result.stripe ≡ stripe_of y (s.first + s.count - 1) = c.home-next.ensures.stripe ∙ ap (stripe_of y) (let z : s.first + c.from.result - 1 ≡ s.first + s.count - 1 = omega (arith, f) in z) in
    let b = behind y (g.met.L.Layout.is_layout c.args.layout.now) ss c.loop-span.at c.loop-span.next c.loop-span.count c.loop-span.invariant.counted c.loop-span.invariant.passed s c.in-Some.ensures (is-some-count ss s own c.requires.some) (is-in-range y ss s own c.requires.inside)
    c.max-first.result (c.max-first.ensures ∙ ap (λ (k : ℕ). max k c.loop-span.next) c.home.ensures.stripe) in
    omega (arith, b, e)

pub overflow_add-count : goal.overflow_add-count
overflow_add-count g c =
    let y = g.L.Layout.shape c.args.layout.now in
    let ss = spans_of c.args.patches.now in
    let s = c.in-Some.span in
    let own = c.in-Some.ensures.0 in
    let f = c.from.ensures in
    let e : c.home-next.result.stripe ≡ stripe_of y (s.first + s.count - 1) = c.home-next.ensures.stripe ∙ ap (stripe_of y) (let z : s.first + c.from.result - 1 ≡ s.first + s.count - 1 = omega (arith, f) in z) in
    let b = is-few y (g.met.L.Layout.is_layout c.args.layout.now) ss c.loop-span.at c.loop-span.next c.loop-span.count c.loop-span.invariant.counted c.loop-span.invariant.passed s c.in-Some.ensures (is-some-count ss s own c.requires.some) (is-in-range y ss s own c.requires.inside)
    c.max-first.result (c.max-first.ensures ∙ ap (λ (k : ℕ). max k c.loop-span.next) c.home.ensures.stripe) in
    omega (arith, b, e)

pub loop-span-preserved : goal.loop-span-preserved
loop-span-preserved g c =
    let y = g.L.Layout.shape c.args.layout.now in
    let ss = spans_of c.args.patches.now in
    let s = c.in-Some.span in
    let own = c.in-Some.ensures.0 in
    let f = c.from.ensures in
    let same : s.first + s.count ≡ s.first + c.from.result = omega (arith, f) in
    let e : stripe_of y (s.first + s.count - 1) ≡ c.home-next.result.stripe = sym (c.home-next.ensures.stripe ∙ ap (stripe_of y) (let z : s.first + c.from.result - 1 ≡ s.first + s.count - 1 = omega (arith, f) in z)) in
    let b = is-counted y (g.met.L.Layout.is_layout c.args.layout.now) ss c.loop-span.at c.loop-span.next c.loop-span.count c.loop-span.invariant.counted c.loop-span.invariant.passed s c.in-Some.ensures (is-some-count ss s own c.requires.some) (is-in-range y ss s own c.requires.inside)
    c.max-first.result (c.max-first.ensures ∙ ap (λ (k : ℕ). max k c.loop-span.next) c.home.ensures.stripe) in
    let inside = is-in-range y ss s own c.requires.inside in
    record {
      counted = subst (λ (k : ℕ). IsCounted y (is_in_some ss) k (c.home-next.result.stripe + 1) (c.loop-span.count + (c.home-next.result.stripe + 1 - c.max-first.result))) same
          (subst (λ (k : ℕ). IsCounted y (is_in_some ss) (s.first + s.count) (k + 1) (c.loop-span.count + (k + 1 - c.max-first.result))) e b);
      passed = subst (λ (k : ℕ). Passed ss k) same (passed-next ss c.loop-span.at s (spans-apart c.args.patches.now c.requires.sound) (λ k d l. c.requires.some k d l) c.loop-span.invariant.passed c.in-Some.ensures);
      inside = omega (arith, inside, same);
    }

pub returns : goal.returns
returns g c =
    end-count (g.L.Layout.shape c.args.layout.now) (g.met.L.Layout.is_layout c.args.layout.now) (spans_of c.args.patches.now) c.loop-span.at c.loop-span.next c.loop-span.count c.loop-span.invariant.counted c.loop-span.invariant.passed c.in_default.ensures
