use Rattle.top_hints.specs.Hint.{script_hint}
use Rattle.top_hints.specs.Line.{hint_line}
use Rattle.top_hints.proofs.sentences.in_script.Goals as goal

pub returns-then-code-eq8 : goal.returns-then-code-eq8
unfolding script_hint hint_line
returns-then-code-eq8 c = rw c.if-code-eq8.true c.named.ensures
