-- That what a trace is judged to have room for has room in a core's trace.
use Rattle.std.specs.Prelude.{◌≡◌, ◌≤◌, ◌+◌, ℕ, List, length, map, All}
use Rattle.lay_core.specs.Layout.{Shape}
use Rattle.lay_core.specs.declared.layout.Layout.{Ghosts as LayoutGhosts}
use Rattle.graph_mean.specs.Graph.{Held, View}
use Rattle.eng_cols.specs.Cols.{ColumnState}
use Rattle.item_list.specs.ItemList.{ItemList}
use Rattle.eng_parts.specs.declared.setup.Setup.{Setup}
use Rattle.eng_array.specs.Fitting as core
use Rattle.raid_script.specs.Asked.{IsAsked}
use Rattle.top_bound.specs.Bound.{trace_sum}
use Rattle.top_bound.specs.Words.{rebuilds_sum}
use Rattle.top_bound.specs.Laws.{asked_of}

-- the items are a script's, of at most 16 clients, for so many columns, and these are its graphs
pub record AreScriptAndGraphs (columns : ℕ) (views : List View) (graphs : List Held) (given : List ItemList) : Type 0 where
  pub clients : length given ≤ 16
  pub asked : All (All (IsAsked columns (length views))) (asked_of given)
  pub graphs_are : map (λ g. g.drawn) graphs ≡ views

-- the sum by which a trace is judged is the one that a core counts
abbrev pub TraceIsCountedAlike : Type 0
TraceIsCountedAlike = (y : Shape) (views : List View) (graphs : List Held) (devices columns : ℕ) (given : List ItemList) → AreScriptAndGraphs columns views graphs given
    → trace_sum y views devices (asked_of given) ≡ core.trace_sum y graphs devices given

-- a setup of such items and graphs, over at least as many devices as columns, has room in its trace for what is judged to fit
abbrev pub WhatFitsHasRoom : {L D : Type 0} → LayoutGhosts L → Setup L D → Type 0
WhatFitsHasRoom lay setup = (views : List View) (devices columns : ℕ) → length setup.columns.items ≡ (lay.shape setup.layout).columns → (lay.shape setup.layout).columns ≤ devices
    → AreScriptAndGraphs columns views setup.graphs.items setup.clients.items
    → trace_sum (lay.shape setup.layout) views devices (asked_of setup.clients.items) ≤ 1048576 → core.FitsTrace lay setup

-- so it has for the rebuild of a column too that begins with these columns, where no more rebuilds are begun of those that are asked, and so many are judged to fit beside the items
abbrev pub WhatFitsARebuild : {L D : Type 0} → LayoutGhosts L → Setup L D → Type 0
WhatFitsARebuild lay setup = (views : List View) (cols : List ColumnState) (devices columns column asked rebuilds : ℕ) → length setup.columns.items ≡ (lay.shape setup.layout).columns → (lay.shape setup.layout).columns ≤ devices
    → AreScriptAndGraphs columns views setup.graphs.items setup.clients.items
    → length cols ≡ (lay.shape setup.layout).columns
    → core.BeginsAtMost (lay.shape setup.layout) cols column asked rebuilds
    → trace_sum (lay.shape setup.layout) views devices (asked_of setup.clients.items) + rebuilds_sum (lay.shape setup.layout) devices rebuilds ≤ 1048576
    → core.FitsRebuilding lay setup cols column asked
