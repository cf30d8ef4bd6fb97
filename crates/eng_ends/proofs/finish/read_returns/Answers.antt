use Rattle.blk_plain.specs.declared.op.Outcome.TheVariants as outcome
use Rattle.eng_state.proofs.Returning.{read-back}
use Rattle.eng_ends.proofs.finish.read_returns.Goals as goal

pub read_ends-requires-clause-back : goal.read_ends-requires-clause-back
read_ends-requires-clause-back g c =
    let h = c.in-Read in
    record { first = h.first; count = h.count; back = (read-back g.L.Layout g.D.Disk c.args.array.now c.args.job outcome.Good h.disk h.first h.buffer h.count c.requires.back h.is).0 }
