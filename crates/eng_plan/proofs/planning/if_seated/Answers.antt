use Rattle.std.proofs.Common.{sym, ◌∙◌, ap, subst, None, ℕ, ◌<◌, ◌≡◌}
use Rattle.eng_cols.specs.Seats.{target}
use Rattle.eng_cols.proofs.Missing.{missing-found}
use Rattle.eng_world.specs.Planning.{if_seated}
use Rattle.eng_plan.proofs.Lacking.{unseated}
use Rattle.eng_plan.proofs.planning.if_seated.Goals as goal

pub target-requires-clause-unit : goal.target-requires-clause-unit
target-requires-clause-unit g c =
    let y = g.L.Layout.shape c.args.layout.now in
    let h = missing-found y c.args.cols.now.states c.args.stripe c.in-Some.unit (sym c.requires.missing ∙ c.in-Some.is) in
    subst (λ (n : ℕ). n < y.width) (sym c.from.ensures) h.0

pub returns-in-None-target : goal.returns-in-None-target
returns-in-None-target g c =
    let y = g.L.Layout.shape c.args.layout.now in
    let cols = c.args.cols.now.states in
    let none : target y cols c.args.stripe c.in-Some.unit ≡ None = ap (target y cols c.args.stripe) (sym c.from.ensures) ∙ (sym c.target.ensures ∙ c.in-None-target.is) in
    sym (ap (if_seated y cols c.args.stripe) c.in-Some.is ∙ unseated y cols c.args.stripe c.in-Some.unit (sym c.requires.missing ∙ c.in-Some.is) none)
