-- An operation as it is planned.
use Rattle.std.specs.Prelude.{◌≡◌, ◌<◌, ℕ, List, length, map, true, Option, Some, None, slice_index}
use Rattle.blk_plain.specs.declared.op.Op.{Op}
use Rattle.lay_core.specs.Layout.{Shape}
use Rattle.graph_mean.specs.Graph.{Held, View}
use Rattle.graph_mean.specs.Task.{task_of, missing_of}
use Rattle.graph_mean.specs.declared.refusal.Refusal.{Refusal}
use Rattle.graph_mean.specs.Refused.{IsRefused, IsFree}
use Rattle.graph_mean.specs.Ordered.{Accepted}
use Rattle.graph_lib.specs.Library.{library}
use Rattle.graph_lib.specs.Laws.{HasFewBufs}
use Rattle.eng_cols.specs.Cols.{ColumnState}
use Rattle.eng_world.specs.World.{Plan}
use Rattle.eng_world.specs.Planning.{kind_of, missing_for}
use Rattle.eng_clients.specs.Desk.{Desk, graph_of}
use Rattle.eng_plan.specs.Asked.{IsOpSplit}

-- the plan of a desk by this graph, with so many buffers
abbrev pub plan_with : Desk → View → ℕ → Plan
plan_with d g lease = record {
  index = length d.replies;
  graph = g;
  task = d.task;
  stripe = λ q. slice_index d.map.stripes q;
  missing = missing_of d.missing;
  lease = lease;
}

-- the library's graph, or the one of the file
abbrev pub IsDrawn : List Held → Option ℕ → Desk → Type 0
IsDrawn graphs None d = graph_of graphs d ≡ library d.task (missing_of d.missing) true
IsDrawn graphs (Some n) d = n < length graphs

-- The desk has its operation's stripes and their touched parts, its task, the units missing while the columns stand like this, and its graph.
pub record IsPlanned (y : Shape) (graphs : List Held) (cols : List ColumnState) (op : Op) (file : Option ℕ) (d : Desk) : Type 0 where
  pub split : IsOpSplit y op d.map
  pub task : d.task ≡ task_of y (kind_of y cols op) d.map
  pub missing : d.missing ≡ map (missing_for y cols op) d.map.stripes
  pub file_is : d.file ≡ file
  pub drawn : IsDrawn graphs file d

-- its graph may be run; one of the library has few buffers
pub record CanRun (graphs : List Held) (d : Desk) : Type 0 where
  pub accepted : Accepted (graph_of graphs d) d.task (missing_of d.missing)
  pub free : IsFree (graph_of graphs d) d.task (missing_of d.missing)
  pub bufs : d.file ≡ None → HasFewBufs (graph_of graphs d) d.task

-- the checker refuses its graph, which is one of the file
abbrev pub IsRefusedFor : List Held → Option ℕ → Desk → Refusal → Type 0
IsRefusedFor graphs file d cause = (n : ℕ) × (file ≡ Some n) × IsRefused (graph_of graphs d) d.task (missing_of d.missing) cause

-- it was planned: its stripes, its task, what is missing and its graph alone have changed
pub record Replanned (y : Shape) (graphs : List Held) (cols : List ColumnState) (op : Op) (file : Option ℕ) (old new : Desk) : Type 0 where
  pub planned : IsPlanned y graphs cols op file new
  pub rest : new ≡ record old { map = new.map; missing = new.missing; task = new.task; graph = new.graph; file = file }
