use Rattle.std.proofs.Common.{◌≡◌, ◌∙◌, ◌<◌, ◌≤◌, List, [], ◌∷◌, ◌++◌, ℕ, ap, subst, sym, arith, length}
use Rattle.graph_text.proofs.FirstNumbers.{kept_few, more_kept, none_kept}
use Rattle.graph_text.proofs.kept.Kept.keep.Goals as goal

pub returns-then-len-lt-KEPT : goal.returns-then-len-lt-KEPT
returns-then-len-lt-KEPT c =
    let is : c.self.inside.items.items ≡ c.args.self.now = c.self.view_is in
    let few : length c.self.inside.items.items < 16385 = let l = c.len.ensures in let t = c.if-len-lt-KEPT.true in omega arith in
    let all = c.push_reserved.ensures.items ∙ more_kept c.self.inside.items.items c.args.n few in
    record { kept = rw (← is) all; few = subst (λ (xs : List ℕ). length xs ≤ 16385) (sym all) (kept_few (c.self.inside.items.items ++ c.args.n ∷ [])) }

pub returns-else-len-lt-KEPT : goal.returns-else-len-lt-KEPT
returns-else-len-lt-KEPT c =
    let is : c.self.inside.items.items ≡ c.args.self.now = c.self.view_is in
    let few : length c.args.self.now ≤ 16385 = rw (← is) c.self.invariant.0 in
    let many : 16385 ≤ length c.args.self.now = let l = c.len.ensures in let e = ap (λ (xs : List ℕ). length xs) is in let t = c.if-len-lt-KEPT.false in omega arith in
    record { kept = none_kept c.args.self.now c.args.n few many; few = few }
