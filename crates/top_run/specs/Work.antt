-- What clients ask of an array, and what is told of it.
use Rattle.std.specs.Prelude.{ℕ, List, Bool, Option, Vec}
use Rattle.std.specs.declared.alloc.Global.{Global}
use Rattle.blk_plain.specs.declared.op.OpId.{OpId}
use Rattle.lay_core.specs.Layout.{Shape}
use Rattle.graph_mean.specs.Graph.{View}
use Rattle.eng_cols.specs.declared.column.Column.{Column}
use Rattle.eng_cols.specs.declared.spot.Loss.{Loss}
use Rattle.item_list.specs.ItemList.{ItemList}
use Rattle.eng_world.specs.declared.item.Reply.{Reply}
use Rattle.eng_world.specs.declared.item.Traced.{Traced}
use Rattle.eng_array.specs.declared.start.Start.{Start}
use Rattle.raid_script.specs.Asked.{Asked as Item}
use Rattle.top_run.specs.declared.service.Line.{Line}

-- The layout, the columns as the array is opened, what each client asks for, the graphs of the file, whether a trace is kept, and which rebuild begins before any of it, if one does.
pub record Work : Type 0 where
  pub layout : Shape
  pub columns : List Column
  pub clients : List (List Item)
  pub graphs : List View
  pub trace : Bool
  pub start : Option Start

-- The columns in the end, and what the array was lost by, if it was.
pub record Ending : Type 0 where
  pub columns : List Column
  pub lost : Option Loss

-- What a run tells: of each client its items and their replies, the sectors of those that are data, the history, the trace where it is kept, what became of a rebuild, if one was asked for, and how it ended.
pub record Service : Type 0 where
  pub clients : List ItemList
  pub replies : List (Vec Reply Global)
  pub sectors : List ℕ
  pub history : List OpId
  pub trace : List Traced
  pub line : Option Line
  pub ending : Ending
