-- What is out stays as it left while a column fails with the node that ends bad.
use Rattle.std.proofs.Common.{◌≡◌, ℕ, subst, sym, inl, inr, refl}
use Rattle.blk_disk.specs.declared.disk.Disk.{Ghosts as DiskGhosts}
use Rattle.lay_core.specs.declared.layout.Layout.{Ghosts as LayoutGhosts}
use Rattle.eng_cols.specs.declared.spot.Spot.{Spot}
use Rattle.eng_state.specs.declared.array.Array.{Array}
use Rattle.eng_state.specs.Bad.{FailedIfAlive, struck_lost}
use Rattle.eng_clients.specs.Desk.{desk_at}
use Rattle.eng_state.specs.Out.{IsOut}
use Rattle.eng_state.proofs.CalmStays.{KeepsOut}
use Rattle.eng_fails.proofs.FailStays.{failing-stays}
use Rattle.eng_state.proofs.OutStays.{same-desk, seat-kept, out-stays}

module _ {L D : Type 0} (lay : LayoutGhosts L) (disk : DiskGhosts D) (old new : Array L D) where
  -- the column fails, if it isn't dead
  pub if-alive-stays : (column : ℕ) → FailedIfAlive lay old column new → KeepsOut lay disk old new
  if-alive-stays column (inl dead) job o = subst (λ (s : Array L D). IsOut disk lay s job) (sym dead.1) o
  if-alive-stays column (inr failed) job o = failing-stays lay disk old column new failed.1 job o

  -- once the array is lost
  pub struck-stays : (at : Spot) → new ≡ struck_lost old at → KeepsOut lay disk old new
  struck-stays at is job o =
      subst (λ (s : Array L D). IsOut disk lay s job) (sym is)
      (out-stays lay disk old (struck_lost old at) refl refl (λ k x h. h) (λ k n out. same-desk (desk_at old.clients k) n out) (λ k n out b leaves. seat-kept old.pool old.pool (desk_at old.clients k).lease b refl) job o)
