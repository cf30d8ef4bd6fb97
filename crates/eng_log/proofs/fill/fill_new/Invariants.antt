use Rattle.eng_log.proofs.Filling.{FilledTo}
use Rattle.eng_log.specs.Filled.{same_sector}
use Rattle.eng_log.proofs.fill.fill_new.Given as goal

abbrev pub invariant-loop-b : goal.invariant-loop-b
invariant-loop-b l = FilledTo l.graph.drawn l.lease (λ b u j. same_sector l.op) l.fn.pool l.pool l.b
