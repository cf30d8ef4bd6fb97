use Rattle.std.proofs.Common.{◌+◌, ◌<◌, inl, inr, arith, length, get_or, subst, sym, take}
use Rattle.std.specs.Prelude.{slice_set, bit_or, Contains}
use Rattle.graph_check.specs.Following.{IsSeen}
use Rattle.graph_check.proofs.Marking.{front-cases, front-old, front-here}
use Rattle.graph_check.proofs.Masks.{seen-kept, seen-here, seen-cases}
use Rattle.graph_check.proofs.tables.masks.mark_each.Goals as goal

pub loop-a-preserved : goal.loop-a-preserved
loop-a-preserved c =
    let xs = c.args.antes.now in
    let i = c.loop-a.a-index in
    let ms = c.loop-a.masks in
    let m = c.args.mask in
    let v = get_or xs i 0 in
    let r = c.requires i 0 c.loop-a-test.true in
    let l : v < length ms = omega arith in
    record {
      kept = λ j k h. seen-kept ms v m j k l (c.loop-a.invariant.kept j k h);
      listed = λ j k h y. elim (front-cases xs i k c.loop-a-test.true h) [
        | inl o ↦ seen-kept ms v m j k l (c.loop-a.invariant.listed j k o y)
        | inr e ↦ subst (IsSeen (slice_set ms v (bit_or (get_or ms v 0) m)) j) e (seen-here ms v m j l y)
      ];
      only = λ j k h. elim (seen-cases ms v m j k l h) [
        | inl o ↦ elim (c.loop-a.invariant.only j k o) [ inl a ↦ inl a | inr a ↦ inr (a.0, front-old xs i k c.loop-a-test.true a.1) ]
        | inr e ↦ inr (e.0, subst (Contains (take (i + 1) xs)) (sym e.1) (front-here xs i c.loop-a-test.true))
      ];
    }
