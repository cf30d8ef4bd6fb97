use Rattle.eng_fails.proofs.SufferingAll.{SuffersTo}
use Rattle.eng_fails.proofs.fails.suffer_all.Given as goal

abbrev pub invariant-loop-client : goal.invariant-loop-client
invariant-loop-client g l = SuffersTo g.L.Layout g.D.Disk l.initial.array l.column l.device l.client l.array
