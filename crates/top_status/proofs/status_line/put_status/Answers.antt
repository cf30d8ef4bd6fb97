use Rattle.top_status.proofs.status_line.put_status.Goals as goal

pub returns-in-NoFile-clause-output : goal.returns-in-NoFile-clause-output
returns-in-NoFile-clause-output g c = λ told. rw c.in-NoFile.is (rw c.text.ensures at (c.put_name.ensures.output told))

pub returns-in-LongText-clause-output : goal.returns-in-LongText-clause-output
returns-in-LongText-clause-output g c = λ told. rw c.in-LongText.is (rw c.text-in-LongText.ensures at (c.put_name-in-LongText.ensures.output told))
