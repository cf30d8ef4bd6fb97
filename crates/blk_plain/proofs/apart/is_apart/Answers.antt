use Rattle.std.proofs.Common.{arith}
use Rattle.std.proofs.lemmas.Bool.{leb-true, le-leb}
use Rattle.blk_plain.proofs.Gaps.{apart-other, apart-behind, behind-apart}
use Rattle.blk_plain.proofs.apart.is_apart.Goals as goal

pub returns-then-p-q : goal.returns-then-p-q
returns-then-p-q c =
    let p = c.args.p.now in
    let q = c.args.q.now in (
      (λ h. apart-behind p q (let l = leb-true _ _ h in omega (arith, l))),
      (λ a. le-leb _ _ (let l = behind-apart p q c.if-p-q.true c.requires.second a in omega (arith, l))),
    )

pub returns-else-p-q : goal.returns-else-p-q
returns-else-p-q c =
    let p = c.args.p.now in
    let q = c.args.q.now in (
      (λ h. apart-other q p (apart-behind q p (let l = leb-true _ _ h in let r = c.if-p-q.false in omega (arith, l, r)))),
      (λ a. le-leb _ _ (let l = behind-apart q p (let r = c.if-p-q.false in omega (arith, r)) c.requires.first (apart-other p q a) in omega (arith, l))),
    )
