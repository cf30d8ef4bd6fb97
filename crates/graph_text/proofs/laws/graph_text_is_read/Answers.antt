use Rattle.graph_text.proofs.CanonicalText.{graph_text_read}
use Rattle.graph_text.proofs.laws.graph_text_is_read.Goals as goal

pub returns : goal.returns
returns c = graph_text_read
