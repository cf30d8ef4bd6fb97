use Rattle.graph_text.proofs.CanonicalForm.{file_of_form}
use Rattle.graph_text.proofs.laws.file_is_of_the_form.Goals as goal

pub returns : goal.returns
returns c = file_of_form
