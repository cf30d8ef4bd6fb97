-- Graph files: the graphs of a text, or the first line that is refused and the code of its refusal.
use Rattle.std.specs.Prelude.{ℕ, ◌+◌, ◌&&◌, List, [], ◌∷◌, ◌++◌, length, Option, Some, None, Result, Ok, Err, if◌then◌else◌, nat_eq, nat_le, nat_lt, codes}
use Rattle.std.specs.Str.{bytes_eq}
use Rattle.raid_text.specs.Text.{Text, Numbered, lines_in, raw_lines}
use Rattle.text_steps.specs.Steps.{◌>>=◌, after_number, after_word, at_end, at_line, next_number, next_word, number_in, numbers_of, only_if, words_in}
use Rattle.text_steps.specs.declared.at.At.{At}
use Rattle.graph_mean.specs.declared.graph.Node.{Node}
use Rattle.graph_mean.specs.declared.graph.Node.TheVariants.{Rd, Wr, Xor, Cmt, Trm}
use Rattle.graph_mean.specs.Graph.{Vertex, View, blank, edge_count, edges_at}
use Rattle.graph_text.specs.FormatSteps.{next_pair}
use Rattle.graph_text.specs.FormatLines.{buffer_of}
use Rattle.graph_text.specs.Format.{Named, start_of}

-- ---- nodes

-- the antecedents behind `after`, of which there is one at least, or none at the line's end; code 1
-- where another word comes
unfoldable pub antes_in : List Text → Result (List ℕ) ℕ
antes_in [] = Ok []
antes_in (word ∷ words) = do
  after ← only_if (bytes_eq word (codes "after")) 1
  first ← next_number words
  more ← numbers_of first.1
  Ok (first.0 ∷ more)

-- the sources up to `after` or to the line's end, and the words from there on; code 2 where a word is
-- neither a number nor `after`
unfoldable pub sources_in : List Text → Result (List ℕ × List Text) ℕ
sources_in [] = Ok ([], [])
sources_in (word ∷ words) =
    if bytes_eq word (codes "after") then Ok ([], word ∷ words)
    else (number_in word >>= λ n. sources_in words >>= λ more. Ok (n ∷ more.0, more.1))

-- what a node does and what it sums up, behind the word that says its kind, and the words behind that
unfoldable pub kind_by : Text → List Text → Result (Node × List ℕ × List Text) ℕ
kind_by kind words =
    if bytes_eq kind (codes "read") then (next_pair words >>= λ pair. Ok (Rd pair.0 pair.1, [], pair.2))
    else (if bytes_eq kind (codes "write") then (next_pair words >>= λ pair. Ok (Wr pair.0 pair.1, [], pair.2))
    else (if bytes_eq kind (codes "xor") then (do
      target ← next_number words
      sources ← sources_in target.1
      Ok (Xor target.0, sources.0, sources.1))
    else (if bytes_eq kind (codes "commit") then Ok (Cmt, [], words)
    else (if bytes_eq kind (codes "terminate") then Ok (Trm, [], words)
    else Err 1))))

-- `I KIND ..`, and `after A ..` behind it where it has antecedents: the n-th node
unfoldable pub node_by : ℕ → List Text → Result Vertex ℕ
node_by n words = do
  kind_word ← after_number n 3 words
  kind ← next_word kind_word
  node ← kind_by kind.0 kind.1
  antes ← antes_in node.2
  Ok (record { kind = node.0; sources = node.1; antes = antes })

-- ---- lines

-- The graph after one of its lines, and none after `end`. Code 1 refuses a buffer behind a node or a
-- return, and a node behind a return; code 5 where it has 2,048 of them, or would have more than
-- 16,384 sources and antecedents.
unfoldable pub graph_by : View → List Text → Result (Option View) ℕ
graph_by g words = do
  first ← next_word words
  if bytes_eq first.0 (codes "buffer") then (do
    order ← only_if (nat_eq (length g.nodes) 0 && nat_eq (length g.rets) 0) 1
    buf ← buffer_of (length g.bufs) first.1
    room ← only_if (nat_lt (length g.bufs) 2048) 5
    Ok (Some (record g { bufs = g.bufs ++ buf ∷ [] })))
      else (if bytes_eq first.0 (codes "node") then (do
        order ← only_if (nat_eq (length g.rets) 0) 1
        node ← node_by (length g.nodes) first.1
        room ← only_if (nat_lt (length g.nodes) 2048 && nat_le (edge_count g + edges_at node) 16384) 5
        Ok (Some (record g { nodes = g.nodes ++ node ∷ [] })))
      else (if bytes_eq first.0 (codes "return") then (do
        pair ← next_pair first.1
        end ← at_end pair.2
        room ← only_if (nat_lt (length g.rets) 2048) 5
        Ok (Some (record g { rets = g.rets ++ (record { unit = pair.0; buf = pair.1 }) ∷ [] })))
      else (if bytes_eq first.0 (codes "end") then (at_end first.1 >>= λ end. Ok None)
      else Err 1)))

-- The graphs that have ended, and behind them those of the lines, the first of which goes on with a
-- graph, where one has begun. Between graphs stands `graph NAME`. Code 6 where the text, of n lines,
-- ends within a graph, at the line behind the last.
unfoldable pub graphs_behind : ℕ → List Named → Option Named → List Numbered → Result (List Named) At
graphs_behind n ended None [] = Ok ended
graphs_behind n ended (Some g) [] = Err (record { line = n + 1; code = 6 })
graphs_behind n ended None (line ∷ lines) = do
  name ← at_line line.at (words_in line >>= after_word (codes "graph") 1 >>= start_of ended)
  graphs_behind n ended (Some (record { name = name; graph = blank })) lines
graphs_behind n ended (Some g) (line ∷ lines) = do
  graph ← at_line line.at (words_in line >>= graph_by g.graph)
  elim graph [
    | None ↦ graphs_behind n (ended ++ g ∷ []) None lines
    | Some more ↦ graphs_behind n ended (Some (record g { graph = more })) lines
  ]

-- the graphs of a text, in their order
unfoldable pub graphs_of : Text → Result (List Named) At
graphs_of text = graphs_behind (length (raw_lines text)) [] None (lines_in text)
