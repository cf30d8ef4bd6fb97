use Rattle.eng_array.proofs.Quietly.{quiet-happens, quiet-keeps, quiet-lends}
use Rattle.eng_array.proofs.tickets.looks_are_quiet.Goals as goal

pub returns-clause-happens : goal.returns-clause-happens
returns-clause-happens g c = λ old mid new e q h. quiet-happens g.L.Layout g.D.Disk old new mid q e h

pub returns-clause-keeps : goal.returns-clause-keeps
returns-clause-keeps g c = λ old mid new q k. quiet-keeps g.L.Layout g.D.Disk old new mid q k

pub returns-clause-lends : goal.returns-clause-lends
returns-clause-lends g c = λ old mid new job q k. quiet-lends g.L.Layout g.D.Disk old new mid q job k
