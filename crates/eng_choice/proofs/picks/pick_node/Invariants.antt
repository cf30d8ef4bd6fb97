use Rattle.std.proofs.Common.{◌-◌, ◌<◌, ℕ, length}
use Rattle.eng_clients.specs.Desk.{desk_at}
use Rattle.eng_state.specs.Can.{CanFire, CanSkip}
use Rattle.eng_choice.proofs.picks.pick_node.Given as goal

-- the nodes so far can neither be skipped nor fired
abbrev pub invariant-loop-node : goal.invariant-loop-node
invariant-loop-node g l = (k : ℕ) → k < l.from → (CanSkip g.L.Layout l.array l.client k → ⊥) × (CanFire g.L.Layout l.array l.client k → ⊥)

abbrev pub decreases-loop-node : goal.decreases-loop-node
decreases-loop-node g l = length (desk_at l.array.clients l.client).run.graph.nodes - l.from
