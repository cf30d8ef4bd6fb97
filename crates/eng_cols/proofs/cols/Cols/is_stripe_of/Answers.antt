use Rattle.std.proofs.Common.{◌∙◌, sym, ap}
use Rattle.eng_cols.specs.Stripes.{is_stripe_by, spreads}
use Rattle.eng_cols.proofs.Counting.{stripe-of}
use Rattle.eng_cols.proofs.Shown.{view_stripe}
use Rattle.eng_cols.proofs.cols.Cols.is_stripe_of.Goals as goal

pub returns-clause-is : goal.returns-clause-is
returns-clause-is g c =
    let y = g.L.Layout.shape c.args.layout.now in
    c.is_stripe_of.ensures
    ∙ ap (λ l. is_stripe_by y (spreads l) c.args.column c.args.stripe) c.as_slice.ensures.value
    ∙ view_stripe c.self.inside.columns.items c.self.inside.filled.items c.self.inside.spread.items c.args.self.now c.self.view_is y c.args.column c.args.stripe

pub returns-clause-of : goal.returns-clause-of
returns-clause-of g c =
    let both = stripe-of (g.L.Layout.shape c.args.layout.now) c.args.self.now.states c.args.column c.args.stripe in
    (λ h. both.0 (sym (returns-clause-is g c) ∙ h), λ h. returns-clause-is g c ∙ both.1 h)
