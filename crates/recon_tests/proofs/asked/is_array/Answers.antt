use Rattle.std.proofs.Common.{◌∙◌, arith}
use Rattle.raid_recon.proofs.Fitting.{fitting, settable}
use Rattle.recon_tests.proofs.asked.is_array.Goals as goal

pub returns-clause-array : goal.returns-clause-array
returns-clause-array g c h = fitting g.D.Disk (g.L.Layout.shape c.args.layout.now) c.args.columns.now c.args.devices.now (c.if-columns.false ∙ c.columns.ensures) (λ k lt. c.loop-c.invariant k (omega (arith, lt, c.loop-c-test.false)))

pub returns-clause-columns : goal.returns-clause-columns
returns-clause-columns g c h = settable g.D.Disk (g.L.Layout.shape c.args.layout.now) c.args.columns.now c.args.devices.now (c.if-columns.false ∙ c.columns.ensures) (λ k lt. c.loop-c.invariant k (omega (arith, lt, c.loop-c-test.false)))
