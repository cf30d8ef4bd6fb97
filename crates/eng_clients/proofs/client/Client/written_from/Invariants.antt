use Rattle.std.proofs.Common.{◌<◌, ℕ}
use Rattle.eng_clients.specs.Rebuilt.{WroteGood}
use Rattle.eng_clients.proofs.client.Client.written_from.Given as goal

-- none of the nodes so far has
abbrev pub invariant-loop-node : goal.invariant-loop-node
invariant-loop-node l = (n : ℕ) → n < l.node → WroteGood l.self n l.unit l.from → ⊥
