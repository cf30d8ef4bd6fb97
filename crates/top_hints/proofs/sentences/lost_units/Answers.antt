use Rattle.top_hints.specs.Line.{hint_line}
use Rattle.top_hints.specs.Hint.{units_hint}
use Rattle.top_hints.proofs.sentences.lost_units.Goals as goal

pub returns : goal.returns
unfolding hint_line units_hint
returns c = rw c.is_lost.ensures at (rw c.from.ensures at (rw c.from-2.ensures at (rw c.from-3.ensures at c.line.ensures)))
