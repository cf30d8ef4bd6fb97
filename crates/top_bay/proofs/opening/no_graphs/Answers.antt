use Rattle.std.specs.Prelude.{[]}
use Rattle.std.proofs.Common.{◌∙◌, ap}
use Rattle.graph_text.specs.Texts.{graphs_of}
use Rattle.top_bay.proofs.Empty.{no_graphs_in, ok_is}
use Rattle.top_bay.proofs.opening.no_graphs.Goals as goal

pub returns-in-Ok-clause-none : goal.returns-in-Ok-clause-none
returns-in-Ok-clause-none c = ok_is (graphs_of c.as_slice.result.now) c.in-Ok.book [] c.in-Ok.ensures.value (ap graphs_of c.as_slice.ensures ∙ no_graphs_in)
