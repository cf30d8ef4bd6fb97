use Rattle.blk_plain.specs.declared.op.Outcome.TheVariants as outcome
use Rattle.eng_state.proofs.Returning.{write-back}
use Rattle.eng_ends.proofs.finish.write_returns.Goals as goal

pub write_ends-requires-clause-back : goal.write_ends-requires-clause-back
write_ends-requires-clause-back g c =
    let h = c.in-Write in
    let b = (write-back g.L.Layout g.D.Disk c.args.array.now c.args.job outcome.Good h.disk h.first h.buffer h.count c.requires.back h.is).0 in
    record { first = h.first; count = h.count; back = b; sane = c.requires.sane b.at b.spot }
