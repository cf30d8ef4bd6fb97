-- A core is steady after an event of one client, which goes on as it was planned or comes to rest.
use Rattle.std.proofs.Common.{◌≡◌, ℕ, ◌<◌, List, length, subst, sym}
use Rattle.blk_disk.specs.declared.disk.Disk.{Ghosts as DiskGhosts}
use Rattle.lay_core.specs.declared.layout.Layout.{Ghosts as LayoutGhosts}
use Rattle.eng_world.specs.declared.item.Traced.{Traced}
use Rattle.eng_state.specs.declared.array.Array.{Array}
use Rattle.eng_array.specs.Changed.{Changed}
use Rattle.eng_clients.specs.Desk.{Desk, desk_at}
use Rattle.eng_array.specs.Serving.{IsServing}
use Rattle.eng_state.specs.Sound.{IsSound}
use Rattle.eng_array.specs.Steady.{IsSteady}
use Rattle.eng_state.specs.Steps.{Follows}
use Rattle.eng_array.proofs.Kept.{Goes, goes-items, goes-serving}
use Rattle.eng_array.proofs.OneServing.{each-set, items-set}
use Rattle.eng_array.proofs.Steady.{IsEvent, Keeps, steady-on}

module _ {L D : Type 0} (lay : LayoutGhosts L) (disk : DiskGhosts D) (old new : Array L D) (c : ℕ) (d : Desk) (e : Traced) (steady : IsSteady lay disk old) (among : c < length old.clients) (g : Goes (desk_at old.clients c) d) (changed : Changed old c d e new) where
  pub changed-keeps : Keeps lay disk old e new
  changed-keeps = record {
    layout = changed.layout;
    graphs = changed.graphs;
    log = changed.log;
    there = changed.there;
    items = λ k. subst (λ (l : List Desk). (desk_at l k).items ≡ (desk_at old.clients k).items) (sym changed.clients) (items-set old.clients c d among (goes-items (desk_at old.clients c) d g) k);
    serving = λ k. subst (λ (l : List Desk). IsServing (lay.shape old.layout) old.graphs.items (desk_at l k)) (sym changed.clients)
        (each-set (IsServing (lay.shape old.layout) old.graphs.items) old.clients c d among (goes-serving (lay.shape old.layout) old.graphs.items (desk_at old.clients c) d g (steady.serving c)) steady.serving k);
  }

  pub changed-steady : IsEvent e → IsSound lay disk new → Follows lay disk old e new → IsSteady lay disk new
  changed-steady is sound follows = steady-on lay disk old new e is steady sound follows changed-keeps
