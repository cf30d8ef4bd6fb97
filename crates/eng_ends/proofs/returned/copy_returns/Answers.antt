use Rattle.std.proofs.Common.{arith}
use Rattle.eng_ends.proofs.Copying.{to-none, to-sound, to-runs, to-rets, to-reads, to-laid, to-home, to-more}
use Rattle.eng_ends.proofs.returned.copy_returns.Goals as goal

pub loop-number-init : goal.loop-number-init
loop-number-init g c = to-none g.L.Layout g.D.Disk c.args.array.now c.args.client c.args.span

pub copy_return-requires-clause-sound : goal.copy_return-requires-clause-sound
copy_return-requires-clause-sound g c = to-sound g.L.Layout g.D.Disk c.args.array.now c.args.client c.args.span c.loop-number.number c.loop-number.array c.loop-number.invariant c.requires.sound

pub copy_return-requires-clause-runs : goal.copy_return-requires-clause-runs
copy_return-requires-clause-runs g c = to-runs g.L.Layout g.D.Disk c.args.array.now c.args.client c.args.span c.loop-number.number c.loop-number.array c.loop-number.invariant c.requires.runs

pub copy_return-requires-clause-number : goal.copy_return-requires-clause-number
copy_return-requires-clause-number g c = let e = to-rets g.L.Layout g.D.Disk c.args.array.now c.args.client c.args.span c.loop-number.number c.loop-number.array c.loop-number.invariant in omega (arith, e, c.loop-number-test.true, c.loop-number.auto.number-end, c.rets-number-end.ensures)

pub copy_return-requires-clause-reads : goal.copy_return-requires-clause-reads
copy_return-requires-clause-reads g c = to-reads g.L.Layout g.D.Disk c.args.array.now c.args.client c.args.span c.loop-number.number c.loop-number.array c.loop-number.invariant c.requires.reads

pub copy_return-requires-clause-laid : goal.copy_return-requires-clause-laid
copy_return-requires-clause-laid g c = to-laid g.L.Layout g.D.Disk c.args.array.now c.args.client c.args.span c.loop-number.number c.loop-number.array c.loop-number.invariant c.requires.laid

pub copy_return-requires-clause-home : goal.copy_return-requires-clause-home
copy_return-requires-clause-home g c = to-home g.L.Layout g.D.Disk c.args.array.now c.args.client c.args.span c.loop-number.number c.loop-number.array c.loop-number.invariant c.requires.home

pub loop-number-preserved : goal.loop-number-preserved
loop-number-preserved g c = to-more g.L.Layout g.D.Disk c.args.array.now c.args.client c.args.span c.loop-number.number c.loop-number.array c.loop-number.invariant c.copy_return.new.array c.requires.sound c.requires.runs c.requires.reads (omega (arith, c.loop-number-test.true, c.loop-number.auto.number-end, c.rets-number-end.ensures)) c.copy_return.ensures.copied c.copy_return.ensures.rest
