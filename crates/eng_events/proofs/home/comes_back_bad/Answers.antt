use Rattle.eng_events.proofs.GoingHome.{write-device}
use Rattle.eng_events.proofs.home.comes_back_bad.Goals as goal

pub has_failed_since-requires-clause-there : goal.has_failed_since-requires-clause-there
has_failed_since-requires-clause-there g c = let h = c.in-Write in write-device g.L.Layout g.D.Disk c.args.array.now c.args.job.now c.args.outcome c.requires.back h.disk h.first h.buffer h.count h.is
