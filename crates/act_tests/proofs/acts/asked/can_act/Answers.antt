use Rattle.std.proofs.Common.{◌∙◌, arith}
use Rattle.act_tests.proofs.ActFitting.{fitting}
use Rattle.act_tests.proofs.acts.asked.can_act.Goals as goal

pub returns : goal.returns
returns g c h = fitting g.D.Disk (g.L.Layout.shape c.args.layout.now) c.args.columns.now c.args.devices.now (c.if-columns.false ∙ c.columns.ensures) (omega arith) (λ k lt. c.loop-c.invariant k (omega (arith, lt, c.loop-c-test.false)))
