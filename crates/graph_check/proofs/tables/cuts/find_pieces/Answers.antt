use Rattle.std.proofs.Common.{◌∙◌}
use Rattle.graph_check.proofs.Cutting.{pieces-noted}
use Rattle.graph_check.proofs.tables.cuts.find_pieces.Goals as goal

pub returns : goal.returns
returns c = record { table = c.lay_cuts.ensures; pieces = c.count_pieces.ensures ∙ pieces-noted c.args.graph.now.drawn c.args.task.now c.lay_cuts.new.cuts c.lay_cuts.ensures c.width-width.ensures.task }
