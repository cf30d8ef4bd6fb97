-- A chain of cores, each one event on from the one before.
use Rattle.std.specs.Prelude.{◌≡◌, ◌≤◌, ℕ, List, [], ◌∷◌, length}
use Rattle.blk_disk.specs.declared.disk.Disk.{Ghosts as DiskGhosts}
use Rattle.lay_core.specs.declared.layout.Layout.{Ghosts as LayoutGhosts}
use Rattle.eng_world.specs.declared.item.Traced.{Traced}
use Rattle.eng_rest.specs.Left.{IsLater}
use Rattle.eng_clients.specs.declared.stage.Stage.TheVariants.{Runs}
use Rattle.eng_state.specs.declared.array.Array.{Array}
use Rattle.eng_clients.specs.Desk.{desk_at}
use Rattle.eng_state.specs.Steps.{graphs_of, Follows}

module _ {L D : Type 0} where
  -- an operation that runs client c's item i has a graph of at most m nodes
  abbrev pub HasFewNodes : ℕ → ℕ → ℕ → Array L D → Type 0
  HasFewNodes m c i core = (desk_at core.clients c).stage ≡ Runs → length (desk_at core.clients c).replies ≡ i → length (desk_at core.clients c).run.graph.nodes ≤ m

  module _ (lay : LayoutGhosts L) (disk : DiskGhosts D) where
    -- the event, by which no rebuild begins, led from core to core; layout and graphs stayed
    pub record Leads (old : Array L D) (event : Traced) (new : Array L D) : Type 0 where
      pub later : IsLater event
      pub shape : lay.shape new.layout ≡ lay.shape old.layout
      pub graphs : graphs_of new.graphs.items ≡ graphs_of old.graphs.items
      pub follows : Follows lay disk old event new

    -- these events, the newest first, led from core to core
    abbrev pub Chain : Array L D → List Traced → Array L D → Type 0
    Chain old [] new = new ≡ old
    Chain old (event ∷ events) new = (mid : Array L D) × Chain old events mid × Leads mid event new

    module _ (m c i : ℕ) where
      -- the item's graphs have at most m nodes in each core of the chain, first and last included
      abbrev pub HaveFewNodes : (old : Array L D) (events : List Traced) (new : Array L D) → Chain old events new → Type 0
      HaveFewNodes old [] new chain = HasFewNodes m c i new
      HaveFewNodes old (event ∷ events) new chain = HaveFewNodes old events chain.0 chain.1 × HasFewNodes m c i new
