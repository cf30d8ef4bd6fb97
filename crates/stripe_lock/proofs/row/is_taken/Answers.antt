use Rattle.stripe_lock.proofs.Barring.{way_bars, bars_way}
use Rattle.stripe_lock.proofs.row.is_taken.Goals as goal

pub returns : goal.returns
returns c = (
  λ t. way_bars c.args.rows.now c.args.owner c.args.stripe c.args.mode c.holder_of.result c.holder_of.ensures (c.is_in_the_way.ensures.0 t),
  λ b. c.is_in_the_way.ensures.1 (bars_way c.args.rows.now c.args.owner c.args.stripe c.args.mode c.holder_of.result c.holder_of.ensures b),
)
