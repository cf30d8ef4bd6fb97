use Rattle.top_hints.proofs.telling.hint.Goals as goal

pub returns-in-NoFile : goal.returns-in-NoFile
returns-in-NoFile c = rw c.in-NoFile.is (rw c.text.ensures at c.missing.ensures)

pub returns-in-SinkFault : goal.returns-in-SinkFault
returns-in-SinkFault c = rw c.in-SinkFault.is c.troubled-in-SinkFault.ensures

pub returns-in-LongText : goal.returns-in-LongText
returns-in-LongText c = rw c.in-LongText.is (rw c.text-in-LongText.ensures at c.named.ensures)

pub returns-in-Memory : goal.returns-in-Memory
returns-in-Memory c = rw c.in-Memory.is c.plain.ensures
