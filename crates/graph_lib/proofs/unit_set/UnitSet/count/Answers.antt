use Rattle.std.proofs.Common.{ap, ◌∙◌, bit_and}
use Rattle.std.specs.Int.Count.{ones}
use Rattle.std.proofs.lemmas.Nat.{and_mask}
use Rattle.graph_lib.proofs.UnitBits.{bits-count}
use Rattle.graph_lib.proofs.unit_set.UnitSet.count.Goals as goal

pub returns : goal.returns
returns c = ap (λ x. ones (bit_and x c.low.result)) c.from.ensures ∙ ap (λ x. ones (bit_and c.args.self.bits x)) c.low.ensures ∙ ap ones (and_mask c.args.self.bits c.args.width) ∙ bits-count c.args.self.bits c.args.width
