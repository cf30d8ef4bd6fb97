use Rattle.std.proofs.Common.{subst}
use Rattle.graph_lib.specs.Section.{has_unit, HasUses}
use Rattle.graph_lib.proofs.cutting.section_of.Goals as goal

pub returns : goal.returns
returns c = record { stripe = c.section_by.ensures.stripe; from = c.section_by.ensures.from; count = c.section_by.ensures.count; uses = subst (λ w. HasUses w (has_unit c.args.touched) c.section_by.result) c.way_of.ensures.way c.section_by.ensures.uses }
