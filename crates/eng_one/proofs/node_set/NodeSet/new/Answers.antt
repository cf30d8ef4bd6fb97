use Rattle.eng_one.proofs.NoWords.{no-words, has-none}
use Rattle.eng_one.proofs.node_set.NodeSet.new.Goals as goal

pub invariant_of-result : goal.invariant_of-result
invariant_of-result c = no-words

pub returns : goal.returns
returns c = has-none
