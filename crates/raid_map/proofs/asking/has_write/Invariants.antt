use Rattle.std.proofs.Common.{◌≡◌, ◌<◌, ℕ, false}
use Rattle.graph_mean.specs.Graph.{kind_at}
use Rattle.raid_map.specs.Asking.{node_writes}
use Rattle.raid_map.proofs.asking.has_write.Given as goal

-- no node so far is a write
abbrev pub invariant-loop-n : goal.invariant-loop-n
invariant-loop-n l = (k : ℕ) → k < l.n → node_writes (kind_at l.graph.drawn k) ≡ false
