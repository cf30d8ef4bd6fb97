use Rattle.std.proofs.Common.{sym, ◌∙◌}
use Rattle.top_labelled.specs.Begun.{sweeps_in}
use Rattle.top_labelled.specs.Words.{notice_in}
use Rattle.top_labelled.proofs.Openings.{begins-kept, begins-lost}
use Rattle.top_labelled.proofs.opening.begin_unless_lost.Goals as goal

pub returns-then-is_some-clause-begun : goal.returns-then-is_some-clause-begun
returns-then-is_some-clause-begun g c = (
  0,
  begins-lost g.D.Disk (notice_in c.args.keeps c.args.maps.now.marks) (sweeps_in c.args.label.now c.args.maps.now.union) (g.L.Layout.shape c.args.layout.now) c.args.label.now c.args.hand.now.ending.columns.items c.args.devices.now c.args.hand.now.ending.lost
      (sym c.is_some.ensures ∙ c.if-is_some.true),
)

pub returns-clause-begun : goal.returns-clause-begun
returns-clause-begun g c =
    let b = c.begin.ensures.begun in (
      b.0,
      begins-kept g.D.Disk (notice_in c.args.keeps c.args.maps.now.marks) (sweeps_in c.args.label.now c.args.maps.now.union) (g.L.Layout.shape c.args.layout.now) c.args.label.now c.begin.new.label c.args.hand.now.ending.columns.items
          c.begin.new.hand.ending.columns.items c.args.devices.now c.begin.new.devices c.begin.new.hand.ending.lost b.0 c.args.hand.now.ending.lost (sym c.is_some.ensures ∙ c.if-is_some.false) b.1,
    )
