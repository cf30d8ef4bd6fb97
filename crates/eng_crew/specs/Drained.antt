-- How many events of one item a chain of cores has.
use Rattle.std.specs.Prelude.{◌≡◌, ◌<◌, ◌≤◌, ◌+◌, ◌*◌, ℕ, List, [], ◌∷◌, length}
use Rattle.blk_disk.specs.declared.disk.Disk.{Ghosts as DiskGhosts}
use Rattle.lay_core.specs.declared.layout.Layout.{Ghosts as LayoutGhosts}
use Rattle.eng_world.specs.declared.item.Traced.{Traced}
use Rattle.eng_rest.specs.Left.{alive}
use Rattle.eng_rest.specs.Few.{count_of}
use Rattle.eng_state.specs.declared.array.Array.{Array}
use Rattle.eng_array.specs.Chain.{HasFewNodes}
use Rattle.eng_clients.specs.Desk.{desk_at}
use Rattle.eng_array.specs.Tickets.{Goes, After}

module _ {L D : Type 0} (lay : LayoutGhosts L) (disk : DiskGhosts D) where
  module _ (m c i : ℕ) where
    -- the graphs of client c's item i have at most m nodes in each core of the chain, first and last included
    abbrev pub HaveFew : (old : Array L D) (events : List Traced) (new : Array L D) → Goes lay disk old events new → Type 0
    HaveFew old [] new goes = HasFewNodes m c i new
    HaveFew old (event ∷ events) new goes = HaveFew old events goes.0 goes.1 × HasFewNodes m c i new

  -- The one core comes after the other by events of clients, of which an item has at most two for each node of its greatest graph and four besides, and as many again for each column that died meanwhile.
  pub record Drained (old new : Array L D) : Type 0 where
    pub after : After lay disk old new
    pub few : (m c i deaths : ℕ) → i < length (desk_at old.clients c).items → HaveFew m c i old after.events new after.goes → alive old.cols.states ≡ alive new.cols.states + deaths → count_of after.events c i ≤ (1 + deaths) * (2 * m + 4)
