-- What is out stays as it left while a column fails.
use Rattle.std.proofs.Common.{ℕ, subst, sym, refl}
use Rattle.blk_disk.specs.declared.disk.Disk.{Ghosts as DiskGhosts}
use Rattle.lay_core.specs.Layout.{Shape}
use Rattle.lay_core.specs.declared.layout.Layout.{Ghosts as LayoutGhosts}
use Rattle.eng_state.specs.declared.array.Array.{Array}
use Rattle.eng_clients.specs.Desk.{Desk, desk_at}
use Rattle.eng_state.specs.Out.{IsOut}
use Rattle.eng_state.specs.Failing.{FailedBy, suffered, after_failure}
use Rattle.eng_state.proofs.OutStays.{StaysAt, seat-kept, out-stays}
use Rattle.eng_fails.proofs.Suffering.{suffered-goes}
use Rattle.eng_state.proofs.CalmStays.{KeepsOut}

module _ {L D : Type 0} (lay : LayoutGhosts L) (disk : DiskGhosts D) (old : Array L D) where
  pub failing-stays : (column : ℕ) (new : Array L D) → FailedBy lay old column new → KeepsOut lay disk old new
  failing-stays column new f job o =
      let y : Shape = lay.shape old.layout in
      subst (λ (s : Array L D). IsOut disk lay s job) (sym f.is)
      (out-stays lay disk old (after_failure old column new.clients new.lost) refl refl (λ k x h. h) (λ k n out.
      let g = suffered-goes y old.cols.states column (desk_at old.clients k) in
      let s : StaysAt (desk_at old.clients k) (suffered y old.cols.states column (desk_at old.clients k)) n = record { out = record { runs = g.runs out.runs; mark = g.was n out.mark }; graph = g.graph; lease = g.lease; spots = g.spots } in
      subst (λ (d : Desk). StaysAt (desk_at old.clients k) d n) (sym (f.desks.each k)) s) (λ k n out b leaves. seat-kept old.pool old.pool (desk_at old.clients k).lease b refl) job o)
