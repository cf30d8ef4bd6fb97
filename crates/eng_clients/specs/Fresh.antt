-- A client before anything has begun.
use Rattle.std.specs.Prelude.{◌≡◌, ◌<◌, ℕ, List, [], Option, Some, None, length, replicate, slice_index_or}
use Rattle.lay_core.specs.Touched.{nothing}
use Rattle.graph_mean.specs.declared.step.Phase.TheVariants as phase
use Rattle.graph_mean.specs.Graph.{blank}
use Rattle.graph_mean.specs.Task.{no_task}
use Rattle.eng_world.specs.declared.item.Item.{Item}
use Rattle.item_list.specs.ItemList.{ItemList}
use Rattle.eng_clients.specs.declared.stage.Stage.TheVariants.{Nothing}
use Rattle.eng_clients.specs.Desk.{Desk}
use Rattle.eng_log.specs.Given.{items_at}

-- a client with these items that has begun none
abbrev pub new_desk : List Item → Desk
new_desk items = record {
  items = items;
  replies = [];
  stage = Nothing;
  run = record { graph = blank; marks = []; phase = phase.Undone };
  graph = record { drawn = blank; node_room = 2048; buf_room = 2048; edge_room = 16384 };
  task = no_task;
  map = nothing;
  missing = [];
  lease = [];
  spots = replicate 2048 None;
  by = None;
  file = None;
}

-- Each of the seventeen clients has room for as many items as it has of these.
pub record AreRoomsFor (given : List ItemList) (rooms : List (Option ℕ)) : Type 0 where
  pub count : length rooms ≡ 17
  pub each : (c : ℕ) → c < 17 → slice_index_or rooms c None ≡ Some (length (items_at given c))
