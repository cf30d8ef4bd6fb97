use Rattle.std.proofs.Common.{◌∙◌, ap}
use Rattle.top_words.specs.Asked.{Profile}
use Rattle.raid_top.specs.Orders.{order_for}
use Rattle.raid_top.proofs.order.order_of.Goals as goal

pub returns : goal.returns
returns c = c.order_for.ensures ∙ ap (λ (p : Profile). order_for p.deed c.args.comp c.args.newest c.args.conf.now c.args.rows) c.profile.ensures
