-- An event of one client.
use Rattle.std.specs.Prelude.{◌≡◌, ℕ, length, slice_set}
use Rattle.eng_world.specs.declared.item.Traced.{Traced}
use Rattle.eng_state.specs.declared.array.Array.{Array}
use Rattle.eng_clients.specs.Desk.{Desk}
use Rattle.eng_array.specs.Run.{Notes}

-- by a traced event client c alone has become another, and as many buffers are there; of devices, columns, leases, locks and lists nothing is said
pub record Changed {L D : Type 0} (old : Array L D) (c : ℕ) (d : Desk) (event : Traced) (new : Array L D) : Type 0 where
  pub clients : new.clients ≡ slice_set old.clients c d
  pub layout : new.layout ≡ old.layout
  pub graphs : new.graphs ≡ old.graphs
  pub log : Notes old.log event new.log
  pub there : length new.pool.seats ≡ length old.pool.seats
