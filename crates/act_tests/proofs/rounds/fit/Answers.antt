use Rattle.std.proofs.Common.{arith}
use Rattle.act_tests.proofs.RoundFitting.{can, fits_all, none_filling, none_spread}
use Rattle.act_tests.proofs.rounds.fit.Goals as goal

pub returns-clause-can : goal.returns-clause-can
returns-clause-can g c = λ h. can g.D.Disk c.args.columns.now c.args.devices.now (omega arith) (fits_all g.D.Disk c.args.columns.now c.args.devices.now (λ k lt. c.loop-c.invariant k (omega (arith, lt, c.loop-c-test.false))))

pub returns-clause-filling : goal.returns-clause-filling
returns-clause-filling g c = λ h. none_filling g.D.Disk c.args.columns.now c.args.devices.now (fits_all g.D.Disk c.args.columns.now c.args.devices.now (λ k lt. c.loop-c.invariant k (omega (arith, lt, c.loop-c-test.false))))

pub returns-clause-spread : goal.returns-clause-spread
returns-clause-spread g c = λ h. none_spread g.D.Disk c.args.columns.now c.args.devices.now (fits_all g.D.Disk c.args.columns.now c.args.devices.now (λ k lt. c.loop-c.invariant k (omega (arith, lt, c.loop-c-test.false))))
