-- What an operation is planned to be while the columns stand like this, and what becomes of one that isn't.
use Rattle.std.specs.Prelude.{◌≡◌, ℕ, List, Option, true, map}
use Rattle.blk_plain.specs.declared.op.Op.{Op}
use Rattle.lay_core.specs.Layout.{Shape}
use Rattle.lay_core.specs.Touched.{Touched}
use Rattle.graph_lib.specs.Library.{library}
use Rattle.graph_mean.specs.Graph.{Held, View}
use Rattle.graph_mean.specs.Task.{Aim, task_of, missing_of}
use Rattle.eng_cols.specs.Cols.{ColumnState}
use Rattle.eng_plan.specs.Asked.{IsOpSplit}
use Rattle.eng_world.specs.Planning.{IsLong, IsOut, kind_of, missing_for}
use Rattle.top_plan.specs.declared.judging.Outside.{Outside}
use Rattle.top_plan.specs.declared.judging.Outside.TheVariants as outside

-- an operation's stripes and their touched parts, the units of them that are missing, its task, and its graph
pub record Sketch : Type 0 where
  pub touched : Touched
  pub missing : List (Option ℕ)
  pub task : Aim
  pub graph : Held

-- It is that of this operation, by the library's graph.
pub record IsSketch (y : Shape) (cols : List ColumnState) (op : Op) (s : Sketch) : Type 0 where
  pub split : IsOpSplit y op s.touched
  pub task : s.task ≡ task_of y (kind_of y cols op) s.touched
  pub missing : s.missing ≡ map (missing_for y cols op) s.touched.stripes
  pub drawn : s.graph.drawn ≡ library s.task (missing_of s.missing) true

-- the graph is the one that the planner makes of this operation
abbrev pub IsPlannedAs : Shape → List ColumnState → Op → View → Type 0
IsPlannedAs y cols op v = (s : Sketch) × IsSketch y cols op s × (v ≡ s.graph.drawn)

-- it isn't planned: it is out of range, or else over too many stripes
abbrev pub IsOutside : Shape → Op → Outside → Type 0
IsOutside y op outside.Range = IsOut y op
IsOutside y op outside.Long = (IsOut y op → ⊥) × IsLong y op

-- it is
abbrev pub IsWithin : Shape → Op → Type 0
IsWithin y op = (IsOut y op → ⊥) × (IsLong y op → ⊥)
