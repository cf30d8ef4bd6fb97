use Rattle.std.proofs.Common.{arith}
use Rattle.act_tests.proofs.CloseFitting.{fits_all, have, none_filling, none_spread}
use Rattle.act_tests.proofs.closes.asked.fit.Goals as goal

pub returns-clause-have : goal.returns-clause-have
returns-clause-have g c = λ h. have c.args.columns.now c.args.devices.now (fits_all c.args.columns.now c.args.devices.now (λ k lt. c.loop-c.invariant k (omega (arith, lt, c.loop-c-test.false))))

pub returns-clause-filling : goal.returns-clause-filling
returns-clause-filling g c = λ h. none_filling c.args.columns.now c.args.devices.now (fits_all c.args.columns.now c.args.devices.now (λ k lt. c.loop-c.invariant k (omega (arith, lt, c.loop-c-test.false))))

pub returns-clause-spread : goal.returns-clause-spread
returns-clause-spread g c = λ h. none_spread c.args.columns.now c.args.devices.now (fits_all c.args.columns.now c.args.devices.now (λ k lt. c.loop-c.invariant k (omega (arith, lt, c.loop-c-test.false))))
