use Rattle.graph_text.proofs.CanonicalRead.{file_read}
use Rattle.graph_text.proofs.laws.file_is_read.Goals as goal

pub returns : goal.returns
returns c = file_read
