use Rattle.std.proofs.Common.{◌+◌, refl, arith}
use Rattle.eng_fails.proofs.SufferingAll.{suffers-none, suffers-more, all-suffered}
use Rattle.eng_fails.proofs.fails.suffer_all.Goals as goal

pub loop-client-init : goal.loop-client-init
loop-client-init g c = suffers-none g.L.Layout g.D.Disk c.args.array.now c.args.column c.args.device c.requires.device c.requires.sound

pub loop-client-preserved : goal.loop-client-preserved
loop-client-preserved g c = suffers-more g.L.Layout g.D.Disk c.args.array.now _ c.suffer.new.array c.args.column c.args.device c.loop-client.client (c.loop-client.client + 1) refl c.loop-client-test.true c.loop-client.invariant c.suffer.ensures

pub returns-clause-desks : goal.returns-clause-desks
returns-clause-desks g c = all-suffered g.L.Layout g.D.Disk c.args.array.now _ c.args.column c.args.device c.loop-client.client (let a = c.loop-client-test.false in let b = c.loop-client.auto.client-end in omega (arith, a, b)) c.requires.sound c.loop-client.invariant

pub returns-clause-rest : goal.returns-clause-rest
returns-clause-rest g c = c.loop-client.invariant.rest

pub returns-clause-sound : goal.returns-clause-sound
returns-clause-sound g c = c.loop-client.invariant.sound
