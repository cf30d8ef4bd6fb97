use Rattle.std.proofs.Common.{◌≡◌, slice_get}
use Rattle.eng_plan.specs.Pooled.{item_leases, greatest}
use Rattle.eng_plan.proofs.pooled.row_leases.Given as goal

-- the greatest of those so far
abbrev pub invariant-loop-i : goal.invariant-loop-i
invariant-loop-i g l = l.most ≡ greatest (λ k. item_leases (g.L.Layout.shape l.layout) l.graphs (slice_get l.items.items k)) l.i
