-- That the reader reads exactly the files of the form, and each canonical text as what was printed.
use Rattle.std.specs.Prelude.{◌≡◌, ◌≤◌, IsTrue, List, [], ◌∷◌, Ok, flat_map, length}
use Rattle.raid_text.specs.Text.{Text, lines_in}
use Rattle.graph_text.specs.Format.{Named, is_name}
use Rattle.graph_text.specs.Texts.{graphs_of}
use Rattle.graph_text.specs.FormatForm.{AreGraphs, HasForm, IsWritable, file_lines, graph_text}

-- the canonical texts of graphs, one behind the other
abbrev pub file_text : List Named → Text
file_text graphs = flat_map graph_text graphs

-- what is read as graphs is of their form
abbrev pub FileIsOfTheForm : Type 0
FileIsOfTheForm = (text : Text) (graphs : List Named) → graphs_of text ≡ Ok graphs → AreGraphs graphs × HasForm (file_lines graphs) (lines_in text)

-- each text of their form is read as the graphs
abbrev pub FileIsRead : Type 0
FileIsRead = (text : Text) (graphs : List Named) → AreGraphs graphs → HasForm (file_lines graphs) (lines_in text) → graphs_of text ≡ Ok graphs

-- their canonical texts too
abbrev pub FileTextIsRead : Type 0
FileTextIsRead = (graphs : List Named) → AreGraphs graphs → graphs_of (file_text graphs) ≡ Ok graphs

-- the canonical text of a graph is short enough to be read, and is read as this graph alone
pub record IsReadAs (graph : Named) : Type 0 where
  pub short : length (graph_text graph) ≤ 16777216
  pub read : graphs_of (graph_text graph) ≡ Ok (graph ∷ [])

-- each graph that a file can hold is
abbrev pub GraphTextIsRead : Type 0
GraphTextIsRead = (graph : Named) → IsTrue (is_name graph.name) → IsWritable graph.graph → IsReadAs graph
