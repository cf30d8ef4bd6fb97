use Rattle.top_acts.proofs.done_line.put_done.Goals as goal

pub returns-in-Killed-clause-output : goal.returns-in-Killed-clause-output
returns-in-Killed-clause-output g c = λ told. rw c.in-Killed.is (rw c.from.ensures at (c.put_number-in-Killed.ensures.output told))

pub returns-in-Labelled-clause-output : goal.returns-in-Labelled-clause-output
returns-in-Labelled-clause-output g c = λ told. rw c.in-Labelled.is (rw c.from-in-Labelled.ensures at (c.put_number-in-Labelled.ensures.output told))
