-- Of what the guard of a take is made.
use Rattle.std.proofs.Common.{◌≡◌, ℕ, ◌≤◌, length, subst, Option, None}
use Rattle.blk_plain.specs.declared.op.Op.{Op}
use Rattle.lay_core.specs.declared.layout.Layout.{Ghosts as LayoutGhosts}
use Rattle.eng_clients.specs.declared.stage.Stage.TheVariants.{Waits}
use Rattle.eng_state.specs.declared.array.Array.{Array}
use Rattle.eng_clients.specs.Desk.{desk_at, item_at}
use Rattle.eng_state.specs.Doing.{AreFree}
use Rattle.eng_plan.specs.Asked.{lease_for}
use Rattle.eng_state.specs.Serves.{Serves, CanTake}
use Rattle.eng_state.proofs.Served.{same-op, same-file}

module _ {L D : Type 0} (lay : LayoutGhosts L) (core : Array L D) (c : ℕ) (op : Op) (file : Option ℕ) (serves : Serves core.graphs.items (lay.shape core.layout) (desk_at core.clients c) op file) where
  abbrev pub Fits : Type 0
  Fits = lease_for (lay.shape core.layout) core.graphs.items op file ≤ length core.pool.free

  pub take-free : CanTake lay core c → AreFree lay core c op
  take-free can = λ k s m ne concerns held. can.is_free op file serves.item k s m ne concerns held

  pub take-fits : CanTake lay core c → Fits
  take-fits can = can.fits op file serves.item

  pub take-from : core.lost ≡ None → (desk_at core.clients c).stage ≡ Waits → AreFree lay core c op → Fits → CanTake lay core c
  take-from not_lost waits free fits = record {
    not_lost = not_lost;
    waits = waits;
    is_free = λ o f is. subst (AreFree lay core c) (same-op op o file f (item_at (desk_at core.clients c)) serves.item is) free;
    fits = λ o f is. subst (λ (a : Op). lease_for (lay.shape core.layout) core.graphs.items a f ≤ length core.pool.free) (same-op op o file f (item_at (desk_at core.clients c)) serves.item is)
        (subst (λ (a : Option ℕ). lease_for (lay.shape core.layout) core.graphs.items op a ≤ length core.pool.free) (same-file op o file f (item_at (desk_at core.clients c)) serves.item is) fits);
  }
