use Rattle.top_hints.specs.Line.{hint_line}
use Rattle.top_hints.specs.Words.{number_hint}
use Rattle.top_hints.proofs.words.no_number.Goals as goal

pub returns : goal.returns
unfolding hint_line number_hint
returns c = rw c.from.ensures at (rw c.from-2.ensures at c.line.ensures)
