use Rattle.std.proofs.Common.{◌∙◌, sym, ap}
use Rattle.stripe_lock.specs.declared.holder.Holder.{Holder}
use Rattle.stripe_lock.specs.Holder.{mode_in}
use Rattle.stripe_lock.specs.Rows.{HasRow}
use Rattle.stripe_lock.proofs.Holders.{nobody_holds}
use Rattle.stripe_lock.proofs.Rows.{found, missing, absent}
use Rattle.stripe_lock.proofs.row.holder_of.Goals as goal

pub returns-then-has_row : goal.returns-then-has_row
returns-then-has_row c owner = found c.args.rows.now c.place-at.result owner c.args.stripe _ c.requires (c.has_row.ensures.0 c.if-has_row.true)

pub returns-else-has_row : goal.returns-else-has_row
returns-else-has_row c owner =
    let none : ¬ HasRow c.args.rows.now c.args.stripe c.place-at.result = λ has. let t = c.has_row.ensures.1 has in let f = c.if-has_row.false in absurd cc in
    ap (λ (h : Holder). mode_in h owner) c.nobody.ensures
    ∙ (nobody_holds owner ∙ sym (absent c.args.rows.now owner c.args.stripe (missing c.args.rows.now c.place-at.result c.args.stripe c.requires c.place-at.ensures none)))
