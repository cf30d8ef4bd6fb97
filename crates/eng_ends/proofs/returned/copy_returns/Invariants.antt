use Rattle.eng_ends.proofs.Copying.{CopiesTo}
use Rattle.eng_ends.proofs.returned.copy_returns.Given as goal

abbrev pub invariant-loop-number : goal.invariant-loop-number
invariant-loop-number g l = CopiesTo g.L.Layout g.D.Disk l.initial.array l.client l.span l.number l.array
