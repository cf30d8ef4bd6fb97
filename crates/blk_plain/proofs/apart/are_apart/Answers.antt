use Rattle.std.proofs.Common.{◌≡◌, ◌+◌, ◌<◌, suc, take, get_or, arith, ap, subst, ◌∙◌, sym, refl, [], ◌∷◌, ◌++◌}
use Rattle.std.proofs.Math.Seq.{take-suc}
use Rattle.std.proofs.lemmas.Bool.{false≢true}
use Rattle.std.proofs.lemmas.List.{length-take-le, get_or-take, get_or_default, take_all}
use Rattle.std.proofs.lemmas.List.Quantifiers.{all_pairs_push}
use Rattle.std.specs.Prelude.{AllPairs}
use Rattle.blk_plain.specs.declared.op.Patch.{Patch}
use Rattle.blk_plain.specs.Plain.{used_of, AreApart}
use Rattle.blk_plain.proofs.apart.are_apart.Goals as goal

-- a patch that isn't apart from each before it
pub returns-then-not-is_apart_from : goal.returns-then-not-is_apart_from
returns-then-not-is_apart_from c =
    let used = used_of c.args.patches.now in
    let i = c.loop-i.i in
    let p : Patch = c.index-used-i.result in (
      (λ h. absurd (false≢true h)),
      (λ all. c.if-not-is_apart_from.ensures.1 (λ k d l.
          let lt : k < i = let n = length-take-le i used (let t = c.loop-i-test.true in omega (arith, t)) in omega (arith, l, n) in
          let one : get_or (take i used) k d ≡ get_or used k p =
          get_or-take i used k d lt ∙ get_or_default used k d p (let t = c.loop-i-test.true in omega (arith, t, lt)) in
          subst (λ x. AreApart x p) (sym one) (subst (λ x. AreApart (get_or used k p) x) (sym c.index-used-i.is) (all k i p lt c.loop-i-test.true)))),
    )

pub loop-i-preserved : goal.loop-i-preserved
loop-i-preserved c =
    let used = used_of c.args.patches.now in
    let i = c.loop-i.i in
    let p : Patch = c.index-used-i.result in
    let more : take (i + 1) used ≡ take i used ++ p ∷ [] =
    ap (λ n. take n used) (let z : i + 1 ≡ suc i = omega arith in z)
    ∙ (take-suc used i p c.loop-i-test.true ∙ ap (λ x. take i used ++ x ∷ []) (sym c.index-used-i.is)) in
    subst (λ x. AllPairs AreApart x) (sym more)
    (all_pairs_push AreApart (take i used) p c.loop-i.invariant (c.if-not-is_apart_from.ensures.0 refl))

pub returns : goal.returns
returns c =
    let used = used_of c.args.patches.now in
    let whole : take c.loop-i.i used ≡ used = take_all c.loop-i.i used (let t = c.loop-i-test.false in omega (arith, t)) in
    ((λ h. subst (λ x. AllPairs AreApart x) whole c.loop-i.invariant), (λ h. refl))
