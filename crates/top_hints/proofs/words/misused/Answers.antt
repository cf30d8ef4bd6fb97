use Rattle.top_hints.specs.Words.{misuse_hint}
use Rattle.top_hints.proofs.words.misused.Goals as goal

pub returns-in-NoAction : goal.returns-in-NoAction
unfolding misuse_hint
returns-in-NoAction c = rw c.in-NoAction.is c.plain.ensures

pub returns-in-ManyActions : goal.returns-in-ManyActions
unfolding misuse_hint
returns-in-ManyActions c = rw c.in-ManyActions.is c.plain-in-ManyActions.ensures
