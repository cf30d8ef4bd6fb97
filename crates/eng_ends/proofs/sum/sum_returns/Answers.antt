use Rattle.blk_plain.specs.declared.op.Outcome.TheVariants as outcome
use Rattle.eng_ends.proofs.ReturningSum.{sum-back}
use Rattle.eng_ends.proofs.sum.sum_returns.Goals as goal

pub sum_ends-requires-clause-back : goal.sum_ends-requires-clause-back
sum_ends-requires-clause-back g c = let h = c.in-Sum in (sum-back g.L.Layout g.D.Disk c.args.array.now c.args.job outcome.Good h.to h.count c.requires.back h.is).0

pub sum_ends-requires-clause-room : goal.sum_ends-requires-clause-room
sum_ends-requires-clause-room g c = let h = c.in-Sum in (sum-back g.L.Layout g.D.Disk c.args.array.now c.args.job outcome.Good h.to h.count c.requires.back h.is).1
