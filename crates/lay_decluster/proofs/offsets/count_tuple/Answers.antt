use Rattle.std.proofs.Common.{◌≡◌, ◌<◌, ◌+◌, ◌==◌, length, get_or, arith, ap, sym, ◌∙◌}
use Rattle.std.proofs.lemmas.List.{length-set}
use Rattle.lay_design.specs.Counting.{count_below}
use Rattle.lay_design.specs.Blocks.{object, has}
use Rattle.lay_decluster.specs.Counted.{one_if, count_none, count_more, count_few}
use Rattle.lay_decluster.proofs.Objects.{object_once, raised}
use Rattle.lay_decluster.proofs.offsets.count_tuple.Goals as goal

pub loop-position-init : goal.loop-position-init
loop-position-init c = record {
  long = c.requires.length;
  counted = λ x h.
      let none = count_none (λ p. object c.args.design.now.k c.args.design.now.objects c.args.tuple p == x) in
      omega (arith, none);
}

pub overflow_add-counts : goal.overflow_add-counts
overflow_add-counts c =
    let d = c.args.design.now in
    let x = c.object.result in
    let few = count_few (λ p. object d.k d.objects c.args.tuple p == x) c.loop-position.position in
    let tuples = count_few (has d.k d.objects x) c.args.tuple in
    let old = c.requires.counts x c.object.ensures.below in
    let now = c.loop-position.invariant.counted x c.object.ensures.below in
    omega (arith, few, tuples, old, now, c.object.ensures.design.numbers.tuples_most, c.object.ensures.design.numbers.width_most, c.object.ensures.design.numbers.objects_most, c.requires.tuple, c.loop-position-test.true, c.k-position-end.ensures.k)

pub loop-position-preserved : goal.loop-position-preserved
loop-position-preserved c =
    let d = c.args.design.now in
    let counts = c.loop-position.counts in
    let x = c.object.result in
    let inside : x < length counts = omega (arith, c.loop-position.invariant.long, c.object.ensures.below, c.object.ensures.design.numbers.objects_most) in
    record {
      long = length-set counts x (get_or counts x 0 + 1) ∙ c.loop-position.invariant.long;
      counted = λ y h.
          let more = count_more (λ p. object d.k d.objects c.args.tuple p == y) c.loop-position.position in
          let same : one_if (object d.k d.objects c.args.tuple c.loop-position.position == y) ≡ one_if (x == y) = ap (λ z. one_if (z == y)) (sym c.object.ensures.object) in
          omega (arith, raised counts x y inside, more, same, c.loop-position.invariant.counted y h);
    }

pub returns-clause-counts : goal.returns-clause-counts
returns-clause-counts c = λ x h.
    let d = c.args.design.now in
    let all : c.loop-position.position ≡ d.k = omega arith in
    let once = object_once d c.k-position-end.ensures.design c.args.tuple x c.requires.tuple in
    let whole = ap (count_below (λ p. object d.k d.objects c.args.tuple p == x)) all in
    omega (arith, c.loop-position.invariant.counted x h, c.requires.counts x h, once, whole, count_more (has d.k d.objects x) c.args.tuple)
