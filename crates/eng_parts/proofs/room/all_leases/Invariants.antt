use Rattle.std.proofs.Common.{◌≡◌, ◌<◌, ◌+◌, ◌*◌}
use Rattle.eng_rest.specs.Left.{below}
use Rattle.eng_log.specs.Given.{items_at}
use Rattle.eng_plan.specs.Pooled.{row_leases, own_leases}
use Rattle.eng_parts.proofs.room.all_leases.Given as goal

-- those of the clients so far, and few enough to be counted
abbrev pub invariant-loop-client : goal.invariant-loop-client
invariant-loop-client g l = (l.all ≡ below (λ c. row_leases (g.L.Layout.shape l.layout) l.graphs (items_at l.clients c)) l.client + own_leases (g.L.Layout.shape l.layout)) × (l.all < 4294967296 * (l.client + 1))
