-- What is promised of a script and of graphs that were read, in the words of the core that serves them.
use Rattle.std.specs.Prelude.{◌≡◌, ◌≤◌, ◌++◌, ℕ, List, length, map, All}
use Rattle.graph_mean.specs.Graph.{Held, View}
use Rattle.graph_text.specs.Format.{Named}
use Rattle.graph_text.specs.FormatForm.{AreGraphs}
use Rattle.item_list.specs.ItemList.{ItemList}
use Rattle.eng_log.specs.Laid.{items_before, sectors_before}
use Rattle.eng_events.specs.Opened.{FitThePool}
use Rattle.eng_state.specs.Steps.{graphs_of}
use Rattle.raid_script.specs.Asked.{Asked, AreFew, seen}
use Rattle.raid_script.specs.Replies as replies

-- what the clients' items ask for
abbrev pub asked_of : List ItemList → List (List Asked)
asked_of given = map (λ items. map seen items.items) given

-- at most 16 clients, 65,536 items, and 262,144 sectors that are read, as a core counts them
pub record HasRoomFor (given : List ItemList) : Type 0 where
  pub clients : length given ≤ 16
  pub items : items_before given 16 ≤ 65536
  pub sectors : sectors_before given 16 ≤ 262144

-- a script within its limits is one that a core has room for
abbrev pub FewItemsHaveRoom : Type 0
FewItemsHaveRoom = (given : List ItemList) → AreFew (asked_of given) → HasRoomFor given

-- the sectors of the clients before this one are counted alike where replies are printed and where a core lays them out
abbrev pub SectorsAreCountedAlike : Type 0
SectorsAreCountedAlike = (given : List ItemList) (c : ℕ) → replies.sectors_before given c ≡ sectors_before given c

-- a graph has no more buffers than the pool
abbrev pub IsSmall : View → Type 0
IsSmall g = length g.bufs ≤ 2048

-- the graphs of a file, without their names, and small ones behind them, each fit the pool of a core
abbrev pub FileGraphsFitThePool : Type 0
FileGraphsFitThePool = (book : List Named) (joined : List View) (graphs : List Held) → AreGraphs book → All IsSmall joined
    → map (λ g. g.drawn) graphs ≡ map (λ g. g.graph) book ++ joined
    → FitThePool (graphs_of graphs)
