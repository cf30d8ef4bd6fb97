use Rattle.std.proofs.Common.{◌≡◌, ◌<◌, ◌+◌, ◌*◌, inl, inr, arith, ap, sym, subst, get_or}
use Rattle.std.proofs.lemmas.Bool.{cases_eq}
use Rattle.lay_design.specs.Blocks.{entry, times}
use Rattle.lay_design.proofs.Pairs.{product_few, times_more, times_same}
use Rattle.lay_design.proofs.counts.count_tuple.Goals as goal

pub count_with-requires-clause-low : goal.count_with-requires-clause-low
count_with-requires-clause-low c = λ y hy.
    let objects = c.args.objects.now in
    let i = c.loop-x.x-index in
    let x = get_or objects i 0 in
    let hx : x < 32 = c.requires.below i 0 c.loop-x-test.true in
    omega (arith, c.loop-x.invariant.counted x y hx hy, c.requires.low x y hx hy, product_few x y objects i (omega (arith, c.loop-x-test.true)) c.requires.short)

pub loop-x-preserved : goal.loop-x-preserved
loop-x-preserved c =
    let objects = c.args.objects.now in
    let i = c.loop-x.x-index in
    let at = get_or objects i 0 in
    let new = c.count_with.new.counts in
    let old = c.args.counts.now in
    record {
      long = c.count_with.ensures.length;
      counted = λ x y hx hy. elim (cases_eq at x) [
        | inl e ↦
            let one : entry new x y ≡ entry c.loop-x.counts x y + times y objects = subst (λ z. entry new z y ≡ entry c.loop-x.counts z y + times y objects) e (c.count_with.ensures.counted y hy) in
            omega (arith, one, c.loop-x.invariant.counted x y hx hy, ap (λ n. n * times y objects) (times_more x objects i c.loop-x-test.true e))
        | inr ne ↦
            let same : entry new x y ≡ entry c.loop-x.counts x y = c.count_with.ensures.others x y (λ e. ne (sym e)) hy in
            omega (arith, same, c.loop-x.invariant.counted x y hx hy, ap (λ n. n * times y objects) (times_same x objects i c.loop-x-test.true ne))
      ];
    }
