use Rattle.top_hints.specs.Line.{hint_line}
use Rattle.top_hints.specs.Hint.{unit_hint}
use Rattle.top_hints.proofs.sentences.lost_unit.Goals as goal

pub returns : goal.returns
unfolding hint_line unit_hint
returns c = rw c.is_lost.ensures at (rw c.from.ensures at (rw c.from-2.ensures at c.line.ensures))
