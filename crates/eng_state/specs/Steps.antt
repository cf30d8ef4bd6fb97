-- What a call of the core promises: it is one event of the world.
use Rattle.std.specs.Prelude.{List, true, slice_index_or}
use Rattle.blk_disk.specs.declared.disk.Disk.{Ghosts as DiskGhosts}
use Rattle.lay_core.specs.declared.layout.Layout.{Ghosts as LayoutGhosts}
use Rattle.graph_mean.specs.Graph.{Held}
use Rattle.graph_lib.specs.Library.{library}
use Rattle.eng_world.specs.declared.item.Traced.{Traced}
use Rattle.eng_world.specs.World.{World}
use Rattle.eng_world.specs.Planning.{Graphs}
use Rattle.eng_world.specs.Step.{Step}
use Rattle.eng_state.specs.declared.array.Array.{Array}
use Rattle.eng_state.specs.Shows.{Shows}
use Rattle.eng_plan.specs.Asked.{no_graph}

-- the graphs of the file, and the library's, in which a rebuild without target has its unit counted as there
abbrev pub graphs_of : List Held → Graphs
graphs_of held = record {
  file = λ n. (slice_index_or held n no_graph).drawn;
  library = λ t missing. library t missing true;
}

-- Whatever world the old core shows, the event leads from there to one that the new core shows.
abbrev pub Follows : {L D : Type 0} → LayoutGhosts L → DiskGhosts D → Array L D → Traced → Array L D → Type 0
Follows lay disk old event new = (w : World) → Shows disk old w → (x : World) × Shows disk new x × Step (lay.shape old.layout) (graphs_of old.graphs.items) event w x
