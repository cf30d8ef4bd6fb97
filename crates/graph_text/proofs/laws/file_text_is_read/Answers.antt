use Rattle.graph_text.proofs.CanonicalText.{file_text_read}
use Rattle.graph_text.proofs.laws.file_text_is_read.Goals as goal

pub returns : goal.returns
returns c = file_text_read
