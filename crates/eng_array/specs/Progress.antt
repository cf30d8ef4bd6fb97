-- How much a core has left to do: a number that each event of an operation lowers, so that a core which makes one event after another comes to rest.
use Rattle.std.specs.Prelude.{◌<◌, ℕ, [], false, Option}
use Rattle.eng_cols.specs.declared.spot.Loss.{Loss}
use Rattle.eng_world.specs.World.{Current, Client, World, Nothing as Idles, Waits as IsWaiting, Runs as IsRunning}
use Rattle.eng_rest.specs.Left.{left, all_left}
use Rattle.eng_clients.specs.declared.stage.Stage.{Stage}
use Rattle.eng_clients.specs.declared.stage.Stage.TheVariants.{Nothing, Waits, Runs}
use Rattle.eng_state.specs.declared.array.Array.{Array}
use Rattle.eng_clients.specs.Desk.{Desk, desk_at}
use Rattle.eng_state.specs.Shows.{running_as}
use Rattle.eng_clients.specs.Replied.{replies_of}

-- ## What is left

-- what the item does that is served now or next, with zeros in its buffers
abbrev pub current_at : Stage → Desk → Current
current_at Nothing d = Idles
current_at Waits d = IsWaiting
current_at Runs d = IsRunning (running_as d (λ b o k. 0))

-- the client of the desk, to which nothing is handed out
abbrev pub client_at : Option Loss → Desk → Client
client_at lost d = record { items = d.items; replies = replies_of lost d; handed = λ i b k. 0; current = current_at d.stage d }

-- the most nodes of a graph that runs
abbrev pub most_nodes : ℕ → ℕ → ℕ
most_nodes c i = 2048

module _ {L D : Type 0} where
  -- A world of the core's columns and clients alone, blank otherwise. What is left is the same in each world that the core shows.
  abbrev pub clients_seen : Array L D → World
  clients_seen core = record {
    contents = λ d n k. 0;
    failed = λ d. false;
    calls = λ d. [];
    columns = core.cols.states;
    clients = λ c. client_at core.lost (desk_at core.clients c);
    free = 0;
    out = 0;
    rebuilt = 0;
    blocks = λ b k. 0;
    history = [];
    lost = core.lost;
  }

  -- how many events client c's item i has left, at most, where none of its graphs has more than m nodes
  unfoldable pub item_left_of : ℕ → Array L D → ℕ → ℕ → ℕ
  item_left_of m core c i = left m (clients_seen core) c i

  -- how many events all operations have left, at most
  unfoldable pub left_of : Array L D → ℕ
  left_of core = all_left most_nodes (clients_seen core) 17

  -- less is left
  abbrev pub Falls : Array L D → Array L D → Type 0
  Falls old new = left_of new < left_of old
