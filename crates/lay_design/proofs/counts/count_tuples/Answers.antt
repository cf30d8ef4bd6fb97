use Rattle.std.proofs.Common.{◌≡◌, ◌<◌, ◌*◌, ◌&&◌, ℕ, arith, ap, sym, ◌∙◌, length, cond}
use Rattle.std.proofs.Common.{false, ◌==◌}
use Rattle.std.specs.List.{list_any}
use Rattle.lay_design.specs.Blocks.{times, has, is_repeated}
use Rattle.lay_design.proofs.Pairs.{all_below, once, one_product, count_more, count_few, count_none}
use Rattle.lay_design.proofs.counts.count_tuples.Goals as goal

pub loop-number-init : goal.loop-number-init
loop-number-init c = record {
  long = c.requires.length;
  counted = λ x y hx hy. c.requires.zeros x y hx hy ∙ sym (count_none (λ t. has c.args.tuples.width c.args.tuples.objects.now x t && has c.args.tuples.width c.args.tuples.objects.now y t));
}

pub count_tuple-requires-clause-below : goal.count_tuple-requires-clause-below
count_tuple-requires-clause-below c =
    all_below 32 c.at.result.now c.args.tuples.width c.at.ensures.length (λ i h. rw c.at.ensures.objects (c.requires.fit.below c.loop-number.number i c.loop-number-test.true h))

pub count_tuple-requires-clause-low : goal.count_tuple-requires-clause-low
count_tuple-requires-clause-low c = λ x y hx hy.
    omega (arith, c.loop-number.invariant.counted x y hx hy, count_few (λ t. has c.args.tuples.width c.args.tuples.objects.now x t && has c.args.tuples.width c.args.tuples.objects.now y t) c.loop-number.number, c.loop-number-test.true, c.requires.fit.few)

pub loop-number-preserved : goal.loop-number-preserved
loop-number-preserved c =
    let w = c.args.tuples.width in
    let objects = c.args.tuples.objects.now in
    let n = c.loop-number.number in
    let distinct : (i : ℕ) → i < length c.at.result.now → is_repeated c.at.result.now i ≡ false = λ i h. rw c.at.ensures.objects (c.requires.fit.distinct n i c.loop-number-test.true (omega (arith, h, c.at.ensures.length))) in
    let one : (x : ℕ) → times x c.at.result.now ≡ cond (has w objects x n) 1 0 = λ x. once x c.at.result.now distinct ∙ ap (λ l. cond (list_any (λ y. y == x) l) 1 0) c.at.ensures.objects in
    record {
      long = c.count_tuple.ensures.length;
      counted = λ x y hx hy.
          let product : times x c.at.result.now * times y c.at.result.now ≡ cond (has w objects x n && has w objects y n) 1 0 = ap (λ m. m * times y c.at.result.now) (one x) ∙ ap (λ m. cond (has w objects x n) 1 0 * m) (one y) ∙ one_product (has w objects x n) (has w objects y n) in
          omega (arith, c.count_tuple.ensures.counted x y hx hy, c.loop-number.invariant.counted x y hx hy, product, count_more (λ t. has w objects x t && has w objects y t) n);
    }
