use Rattle.std.proofs.Common.{List, ℕ, ap, sym, ◌∙◌, arith}
use Rattle.eng_one.specs.Bits.{has}
use Rattle.eng_one.proofs.NoWords.{no-words, has-none, none-set}
use Rattle.eng_one.proofs.node_set.NodeSet.clear.Goals as goal

pub invariant_of-self : goal.invariant_of-self
invariant_of-self c = no-words

pub returns-then-self-gt0 : goal.returns-then-self-gt0
returns-then-self-gt0 c = has-none

pub returns-else-self-gt0 : goal.returns-else-self-gt0
returns-else-self-gt0 c = λ k. ap (λ (w : List ℕ). has w k) (sym c.self.view_is) ∙ none-set c.self.inside.words c.self.inside.blocks k c.self.invariant (let z = c.if-self-gt0.false in omega arith)
