use Rattle.eng_array.proofs.Lefts.{left-shown, left-moved, follows-falls}
use Rattle.eng_array.proofs.Falling.{happens-falls, goes-falls, quiet-left}
use Rattle.eng_array.proofs.progress.each_event_leaves_less.Goals as goal

pub returns-clause-shown : goal.returns-clause-shown
returns-clause-shown g c = λ core w s. left-shown g.D.Disk core w s

pub returns-clause-falls : goal.returns-clause-falls
returns-clause-falls g c = λ old new e own steady after follows. follows-falls g.L.Layout g.D.Disk old new e own steady after follows

pub returns-clause-choice : goal.returns-clause-choice
returns-clause-choice g c = λ core next. left-moved core next

pub returns-clause-happens : goal.returns-clause-happens
returns-clause-happens g c = λ old new event own steady h. happens-falls g.L.Layout g.D.Disk event old new own steady h

pub returns-clause-chain : goal.returns-clause-chain
returns-clause-chain g c = λ old new events own steady h. goes-falls g.L.Layout g.D.Disk old new events own steady h

pub returns-clause-look : goal.returns-clause-look
returns-clause-look g c = λ old new q. quiet-left g.L.Layout g.D.Disk old new q
