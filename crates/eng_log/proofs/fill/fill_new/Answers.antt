use Rattle.std.proofs.Common.{◌∙◌, ap, ℕ, List, get_or, arith}
use Rattle.eng_log.proofs.Patching.{same-fresh}
use Rattle.eng_log.proofs.Filling.{filled-none, filled-more, buffers-filled, covers-below}
use Rattle.eng_log.specs.Filled.{same_sector}
use Rattle.eng_log.proofs.fill.fill_new.Goals as goal

pub loop-b-init : goal.loop-b-init
loop-b-init c = filled-none c.args.graph.now.drawn c.args.lease.now (λ b u j. same_sector c.args.op.now) c.args.pool.now

pub fill_one-requires-clause-buffers : goal.fill_one-requires-clause-buffers
fill_one-requires-clause-buffers c = buffers-filled c.args.graph.now.drawn c.args.lease.now c.args.pool.now c.loop-b.pool c.loop-b.invariant.fills c.requires.buffers

pub loop-b-preserved : goal.loop-b-preserved
loop-b-preserved c = filled-more c.args.graph.now.drawn c.args.lease.now (λ b u j. same_sector c.args.op.now) c.args.pool.now c.loop-b.pool c.fill_one.new.pool c.loop-b.b (omega arith) c.loop-b.invariant c.fill_one.ensures.filled c.fill_one.ensures.old c.fill_one.ensures.others c.fill_one.ensures.fills

pub returns-clause-filled : goal.returns-clause-filled
returns-clause-filled c = λ b u o block k new co l. ap (λ (s : List ℕ). get_or s k 0) (c.loop-b.invariant.filled b u _ (let h = covers-below c.args.graph.now.drawn b o co in omega arith) new (let low = co.0 in let high = co.1 in omega arith)) ∙ same-fresh c.args.op.now block k c.requires.same l

pub returns-clause-buffers : goal.returns-clause-buffers
returns-clause-buffers c = buffers-filled c.args.graph.now.drawn c.args.lease.now c.args.pool.now c.loop-b.pool c.loop-b.invariant.fills c.requires.buffers
