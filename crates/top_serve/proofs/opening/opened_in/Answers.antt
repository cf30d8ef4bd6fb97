use Rattle.top_serve.proofs.opening.opened_in.Goals as goal

pub returns-in-Ok-clause-long : goal.returns-in-Ok-clause-long
returns-in-Ok-clause-long g c = g.met.D.Disk.long
