use Rattle.eng_choice.proofs.FreeCounts.{free-some}
use Rattle.eng_choice.proofs.takable.is_span_free.Goals as goal

pub returns : goal.returns
returns g c = free-some c.free_span.result _ _ _ c.is_some.ensures c.free_span.ensures
