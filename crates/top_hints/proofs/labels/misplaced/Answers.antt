use Rattle.top_hints.specs.Line.{hint_line}
use Rattle.top_hints.proofs.labels.misplaced.Goals as goal

pub returns : goal.returns
unfolding hint_line
returns c = rw c.from.ensures at (rw c.from-2.ensures at c.line.ensures)
