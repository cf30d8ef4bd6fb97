-- Which nodes may end.
use Rattle.std.proofs.Common.{◌≡◌, ◌<◌, ℕ, List, length, subst, sym, arith}
use Rattle.blk_plain.specs.declared.op.Outcome.{Outcome}
use Rattle.blk_plain.specs.declared.op.Outcome.TheVariants.{Good}
use Rattle.blk_disk.specs.declared.disk.Disk.{Ghosts as DiskGhosts}
use Rattle.lay_core.specs.declared.layout.Layout.{Ghosts as LayoutGhosts}
use Rattle.graph_mean.specs.declared.step.Status.TheVariants as status
use Rattle.graph_mean.specs.Graph.{Held, kind_at}
use Rattle.eng_one.specs.Control.{mark_of, MayEnd}
use Rattle.eng_clients.specs.Desk.{Desk, Lends, desk_at}
use Rattle.eng_state.specs.declared.array.Array.{Array}
use Rattle.eng_state.specs.Sound.{IsSound, IsOutOf}
use Rattle.eng_state.specs.Moves.{CanEnd}
use Rattle.eng_state.proofs.Running.{runs_below}
use Rattle.eng_state.proofs.Putting.{out-below}

-- one that is out may end good
pub ends-good : {L D : Type 0} (lay : LayoutGhosts L) (disk : DiskGhosts D) (core : Array L D) (c n : ℕ) → IsSound lay disk core → IsOutOf (desk_at core.clients c) n → CanEnd core c n Good
ends-good lay disk core c n sound o =
    let w = (sound.well.each c (runs_below (lay.shape core.layout) core.graphs.items core.pool core.clients c sound.well o.runs)).runs o.runs in
    let e = w.marks in
    let lt = out-below (desk_at core.clients c).run.marks n o.mark in
    record { lends = w.lends; node = omega (arith, e, lt); out = o.mark; may = tt }

-- one that may end still may, as other parts of the array change
pub ends-still : {L D : Type 0} (old new : Array L D) (c n : ℕ) (outcome : Outcome) → new.clients ≡ old.clients → new.graphs.items ≡ old.graphs.items → CanEnd old c n outcome → CanEnd new c n outcome
ends-still old new c n outcome clients graphs can = record {
  lends = subst (λ (l : List Desk). Lends new.graphs.items (desk_at l c)) (sym clients) (subst (λ (l : List Held). Lends l (desk_at old.clients c)) (sym graphs) can.lends);
  node = subst (λ (l : List Desk). n < length (desk_at l c).run.graph.nodes) (sym clients) can.node;
  out = subst (λ (l : List Desk). mark_of (desk_at l c).run n ≡ status.Out) (sym clients) can.out;
  may = subst (λ (l : List Desk). MayEnd outcome (kind_at (desk_at l c).run.graph n) (desk_at l c).run.phase) (sym clients) can.may;
}
