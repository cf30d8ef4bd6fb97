use Rattle.top_close.proofs.LiveLaws.{live-keeps}
use Rattle.top_close.proofs.judging.loss_of.Goals as goal

pub returns-then-are_live-clause-lost : goal.returns-then-are_live-clause-lost
returns-then-are_live-clause-lost g c =
    live-keeps (g.L.Layout.shape c.args.layout.now) (g.met.L.Layout.is_layout c.args.layout.now) c.args.columns.now c.requires.columns.entries (c.are_live.ensures.0 c.if-are_live.true)
