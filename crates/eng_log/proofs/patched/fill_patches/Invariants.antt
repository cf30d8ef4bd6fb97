use Rattle.blk_plain.specs.Plain.{used_of}
use Rattle.eng_log.specs.Filled.{sector_for}
use Rattle.eng_log.proofs.Filling.{FilledTo}
use Rattle.eng_log.proofs.patched.fill_patches.Given as goal

abbrev pub invariant-loop-b : goal.invariant-loop-b
invariant-loop-b g l = FilledTo l.graph.drawn l.lease (sector_for (g.L.Layout.shape l.layout) l.stripes l.graph.drawn (used_of l.patches)) l.fn.pool l.pool l.b
