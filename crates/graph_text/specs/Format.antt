-- What the functions that read a graph file find line by line; Texts says it in one.
use Rattle.std.specs.Prelude.{ℕ, ◌+◌, Bool, ◌==◌, ◌&&◌, ◌||◌, not, List, [], ◌∷◌, ◌++◌, Option, Some, None, Result, Ok, Err, if◌then◌else◌, nat_le, nat_lt, nat_eq, codes, length}
use Rattle.std.specs.List.{list_all, list_any}
use Rattle.std.specs.Str.{bytes_eq}
use Rattle.raid_text.specs.Text.{Text, Numbered, is_sound, words_of}
use Rattle.graph_mean.specs.Graph.{View, blank, edge_count, edges_at}
use Rattle.graph_text.specs.FormatLines.{buffer_of, node_of, return_of}
use Rattle.text_steps.specs.Steps.{◌>>=◌, only_if, next_word, at_end, at_line}
use Rattle.text_steps.specs.declared.at.At.{At}

-- a graph of a file, with its name
pub record Named : Type 0 where
  pub name : Text
  pub graph : View

-- ---- names

-- 1 to 32 of the bytes `a` to `z`, `0` to `9`, `_` and `-`
unfoldable pub is_name : Text → Bool
is_name word = (nat_le 1 (length word) && nat_le (length word) 32) && list_all
    (λ b. (nat_le 97 b && nat_le b 122)
    || ((nat_le 48 b && nat_le b 57) || (b == 95 || b == 45))) word

-- ---- one line

-- the name of a graph that begins behind these: code 1 where it is no name, 4 where one of them has it, 5 where they are 64
unfoldable pub start_of : List Named → List Text → Result Text ℕ
start_of graphs words = do
  name ← next_word words
  named ← only_if (is_name name.0) 1
  differs ← only_if (not (list_any (λ g. bytes_eq g.name name.0) graphs)) 4
  end ← at_end name.1
  room ← only_if (nat_lt (length graphs) 64) 5
  Ok name.0

-- the graph with the buffer of a line: code 1 behind a node or a return, 5 where it has 2,048 buffers
unfoldable pub with_buffer_line : View → List Text → Result View ℕ
with_buffer_line g words = do
  order ← only_if (nat_eq (length g.nodes) 0 && nat_eq (length g.rets) 0) 1
  buf ← buffer_of (length g.bufs) words
  room ← only_if (nat_lt (length g.bufs) 2048) 5
  Ok (record g { bufs = g.bufs ++ buf ∷ [] })

-- the graph with the node of a line: code 1 behind a return, 5 where it has 2,048 nodes, or would have more than 16,384 sources and antecedents
unfoldable pub with_node_line : View → List Text → Result View ℕ
with_node_line g words = do
  order ← only_if (nat_eq (length g.rets) 0) 1
  node ← node_of (length g.nodes) words
  room ← only_if (nat_lt (length g.nodes) 2048 && nat_le (edge_count g + edges_at node) 16384) 5
  Ok (record g { nodes = g.nodes ++ node ∷ [] })

-- the graph with the return of a line: code 5 where it has 2,048 returns
unfoldable pub with_return_line : View → List Text → Result View ℕ
with_return_line g words = do
  ret ← return_of words
  room ← only_if (nat_lt (length g.rets) 2048) 5
  Ok (record g { rets = g.rets ++ ret ∷ [] })

-- the graphs that have ended, and the one that goes on
pub record Read : Type 0 where
  pub ended : List Named
  pub current : Option Named

-- after a line between graphs, which begins one
unfoldable pub outside_line : List Named → Text → List Text → Result Read ℕ
outside_line ended first words =
    if bytes_eq first (codes "graph") then (start_of ended words >>= λ name. Ok (record { ended = ended; current = Some (record { name = name; graph = blank }) }))
    else Err 1

-- after a line of a graph
unfoldable pub inside_line : List Named → Named → Text → List Text → Result Read ℕ
inside_line ended g first words =
    if bytes_eq first (codes "buffer") then (with_buffer_line g.graph words >>= λ more. Ok (record { ended = ended; current = Some (record g { graph = more }) }))
    else (if bytes_eq first (codes "node") then (with_node_line g.graph words >>= λ more. Ok (record { ended = ended; current = Some (record g { graph = more }) }))
    else (if bytes_eq first (codes "return") then (with_return_line g.graph words >>= λ more. Ok (record { ended = ended; current = Some (record g { graph = more }) }))
    else (if bytes_eq first (codes "end") then (at_end words >>= λ end. Ok (record { ended = ended ++ g ∷ []; current = None }))
    else Err 1)))

-- after a line of this first word
abbrev pub placed_line : List Named → Option Named → Text → List Text → Result Read ℕ
placed_line ended None first words = outside_line ended first words
placed_line ended (Some g) first words = inside_line ended g first words

-- after a line, which code 1 refuses where a byte outside its comment neither separates words nor may stand in one
unfoldable pub after_line : Read → Numbered → Result Read ℕ
after_line read line = do
  sound ← only_if (is_sound line.body) 1
  first ← next_word (words_of line.body)
  placed_line read.ended read.current first.0 first.1

-- ---- all lines

-- after these lines
unfoldable pub after_lines : Read → List Numbered → Result Read At
after_lines read [] = Ok read
after_lines read (line ∷ lines) = at_line line.at (after_line read line) >>= λ next. after_lines next lines

-- the graphs of a text of n lines: code 6 where it ends within a graph, at the line behind the last
abbrev pub at_text_end : ℕ → List Named → Option Named → Result (List Named) At
at_text_end n ended None = Ok ended
at_text_end n ended (Some g) = Err (record { line = n + 1; code = 6 })
