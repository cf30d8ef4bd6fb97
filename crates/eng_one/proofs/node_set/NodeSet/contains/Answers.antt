use Rattle.std.proofs.Common.{ℕ, List, ap, ◌∙◌, slice_index_or}
use Rattle.std.specs.Prelude.{◌==◌, ◌/◌, ◌%◌}
use Rattle.std.proofs.lemmas.Nat.Bits.{shr_and_one}
use Rattle.eng_one.specs.Bits.{has}
use Rattle.eng_one.proofs.node_set.NodeSet.contains.Goals as goal

pub returns : goal.returns
returns c =
    let node = c.args.node in
    ap (λ (bit : ℕ). bit == 1) (shr_and_one (slice_index_or c.self.inside.words (node / 64) 0) (node % 64))
    ∙ ap (λ (words : List ℕ). has words node) c.self.view_is
