use Rattle.eng_fails.proofs.ReturningBad.{read-bad, write-bad, is-call}
use Rattle.eng_fails.proofs.bad_jobs.bad_returns.Goals as goal

pub call_ends_bad-requires-clause-back : goal.call_ends_bad-requires-clause-back
call_ends_bad-requires-clause-back g c = let h = c.in-Read in read-bad g.L.Layout g.D.Disk c.args.array.now c.args.job c.requires.back h.disk h.first h.buffer h.count h.is

pub call_ends_bad-requires-in-Write-clause-back : goal.call_ends_bad-requires-in-Write-clause-back
call_ends_bad-requires-in-Write-clause-back g c = let h = c.in-Write in write-bad g.L.Layout g.D.Disk c.args.array.now c.args.job c.requires.back h.disk h.first h.buffer h.count h.is

pub unreachable-requires : goal.unreachable-requires
unreachable-requires g c = let r = c.requires.back in is-call g.L.Layout g.D.Disk c.args.array.now c.args.job r.outcome r.back r.bad c.in-Nothing.is
