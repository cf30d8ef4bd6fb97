use Rattle.std.proofs.Common.{◌≡◌, ◌&&◌, not, ℕ, false}
use Rattle.graph_mean.specs.Graph.{kind_at}
use Rattle.graph_mean.specs.Steps.{reads, is_good}
use Rattle.eng_one.specs.Control.{mark_of}
use Rattle.eng_clients.specs.Desk.{desk_at}
use Rattle.eng_state.specs.Failing.{dying}
use Rattle.eng_fails.proofs.fails.still_reads.Given as goal
use Rattle.lay_core.specs.Touched.{any_below}

-- none of the nodes so far does
abbrev pub invariant-loop-node : goal.invariant-loop-node
invariant-loop-node g l = any_below (λ (n : ℕ). reads (desk_at l.array.clients l.client).run.graph (kind_at (desk_at l.array.clients l.client).run.graph n) (dying (g.L.Layout.shape l.array.layout) l.array.cols.states l.column (desk_at l.array.clients l.client)) && not (is_good (mark_of (desk_at l.array.clients l.client).run n))) l.node ≡ false
