-- A client as contracts see it.
use Rattle.std.specs.Prelude.{◌≡◌, ◌<◌, ℕ, List, [], ◌∷◌, ◌++◌, length, Option, Some, None, slice_get, slice_set, slice_index, slice_index_or}
use Rattle.lay_core.specs.Touched.{Touched, nothing}
use Rattle.graph_mean.specs.declared.step.Status.TheVariants as status
use Rattle.graph_mean.specs.declared.step.Phase.TheVariants as phase
use Rattle.graph_mean.specs.Graph.{Held, View, blank}
use Rattle.graph_mean.specs.Task.{Aim, no_task, missing_of}
use Rattle.eng_one.specs.Control.{Control, begun, ended, rolled_back}
use Rattle.blk_plain.specs.declared.op.Outcome.{Outcome}
use Rattle.eng_cols.specs.declared.spot.Spot.{Spot}
use Rattle.eng_world.specs.declared.item.Item.{Item}
use Rattle.eng_world.specs.declared.item.Reply.{Reply}
use Rattle.eng_world.specs.World.{Plan}
use Rattle.eng_clients.specs.declared.stage.Stage.{Stage}
use Rattle.eng_clients.specs.declared.stage.Stage.TheVariants.{Nothing, Waits, Runs}

-- A client: its items and replies, and what it does now. While an operation runs: the run of its graph, its task, stripes and missing units, the seats of its lease, where the unit of each fired node stood, by which device it was abandoned, and the number of its graph if it is one of the file; else `graph` is its graph.
pub record Desk : Type 0 where
  pub items : List Item
  pub replies : List Reply
  pub stage : Stage
  pub run : Control
  pub graph : Held
  pub task : Aim
  pub map : Touched
  pub missing : List (Option ℕ)
  pub lease : List ℕ
  pub spots : List (Option Spot)
  pub by : Option ℕ
  pub file : Option ℕ

-- what stands at a number past the last client: one without items
abbrev pub no_desk : Desk
no_desk = record {
  items = [];
  replies = [];
  stage = Nothing;
  run = record { graph = blank; marks = []; phase = phase.Undone };
  graph = record { drawn = blank; node_room = 0; buf_room = 0; edge_room = 0 };
  task = no_task;
  map = nothing;
  missing = [];
  lease = [];
  spots = [];
  by = None;
  file = None;
}

abbrev pub desk_at : List Desk → ℕ → Desk
desk_at desks c = slice_index_or desks c no_desk

-- the item that is served now or next
abbrev pub item_at : Desk → Option Item
item_at d = slice_get d.items (length d.replies)

-- where the unit of a node stood as it was fired
abbrev pub spot_at : Desk → ℕ → Option Spot
spot_at d n = slice_index_or d.spots n None

-- the operation as it was planned
abbrev pub plan_of : Desk → Plan
plan_of d = record {
  index = length d.replies;
  graph = d.run.graph;
  task = d.task;
  stripe = λ q. slice_index d.map.stripes q;
  missing = missing_of d.missing;
  lease = length d.lease;
}

-- the graph that the client lends for its run
abbrev pub graph_of : List Held → Desk → View
graph_of graphs d = view_of d.file
  where
    view_of : Option ℕ → View
    view_of None = d.graph.drawn
    view_of (Some n) = (slice_index_or graphs n d.graph).drawn

-- it lends the graph that its run was started with
pub record Lends (graphs : List Held) (d : Desk) : Type 0 where
  pub there : (n : ℕ) → d.file ≡ Some n → n < length graphs
  pub same : graph_of graphs d ≡ d.run.graph

-- ## What becomes of a client

-- a node was fired there
abbrev pub with_fired : Desk → ℕ → Option Spot → Desk
with_fired d n at = record d { run = record d.run { marks = slice_set d.run.marks n status.Out }; spots = slice_set d.spots n at }

-- a node ended
abbrev pub with_ended : Desk → ℕ → Outcome → Desk
with_ended d n outcome = record d { run = ended d.run n outcome }

-- its item was replied, and it has no operation any more
abbrev pub with_reply : Desk → Reply → Desk
with_reply d reply = record d { replies = d.replies ++ reply ∷ []; stage = Nothing; lease = [] }

-- a node was skipped there
abbrev pub with_skipped : Desk → ℕ → Desk
with_skipped d n = record d { run = record d.run { marks = slice_set d.run.marks n status.Skipped } }

-- its next item waits for its stripes and buffers
abbrev pub with_waiting : Desk → Desk
with_waiting d = record d { stage = Waits }

-- the operation was abandoned by this device
abbrev pub with_abandoned : Desk → ℕ → Desk
with_abandoned d device = record d { run = rolled_back d.run; by = Some device }

-- its graph is run from the beginning
abbrev pub with_started : List Held → Desk → Desk
with_started graphs d = record d { stage = Runs; run = begun (graph_of graphs d); by = None }

-- it leases these buffers
abbrev pub with_lease : Desk → List ℕ → Desk
with_lease d lease = record d { lease = lease }
