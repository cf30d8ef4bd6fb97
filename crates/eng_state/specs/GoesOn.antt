-- What the end of a node leaves of the core: its layout, its graphs, how many clients were handed in, how many buffers are there, and what its clients serve.
use Rattle.std.specs.Prelude.{◌≡◌, ℕ, length}
use Rattle.eng_clients.specs.declared.stage.Stage.TheVariants.{Runs}
use Rattle.eng_state.specs.declared.array.Array.{Array}
use Rattle.eng_clients.specs.Desk.{Desk, desk_at}

-- the new desk has the same items, and where it runs it runs as the old one did
pub record ServesOn (old new : Desk) : Type 0 where
  pub items : new.items ≡ old.items
  pub ran : new.stage ≡ Runs → old.stage ≡ Runs
  pub replies : new.stage ≡ Runs → new.replies ≡ old.replies
  pub map : new.stage ≡ Runs → new.map ≡ old.map
  pub lease : new.stage ≡ Runs → new.lease ≡ old.lease
  pub graph : new.stage ≡ Runs → new.run.graph ≡ old.run.graph

-- each client serves on
pub record GoesOn {L D : Type 0} (old new : Array L D) : Type 0 where
  pub layout : new.layout ≡ old.layout
  pub graphs : new.graphs ≡ old.graphs
  pub spare : new.spare ≡ old.spare
  pub there : length new.pool.seats ≡ length old.pool.seats
  pub desks : (k : ℕ) → ServesOn (desk_at old.clients k) (desk_at new.clients k)
