-- What the functions that read a graph file find piece by piece; Format and FormatLines say it
-- in one.
use Rattle.std.specs.Prelude.{ℕ, Bool, ◌==◌, ◌&&◌, ◌||◌, List, [], None, nat_le, nat_eq, length, Result, Ok}
use Rattle.std.specs.List.{list_any}
use Rattle.std.specs.Str.{bytes_eq}
use Rattle.raid_text.specs.Text.{Text, lines_in, raw_lines}
use Rattle.text_steps.specs.declared.at.At.{At}
use Rattle.graph_text.specs.Format.{Named, Read, after_lines, at_text_end}
use Rattle.graph_mean.specs.declared.graph.Node.TheVariants.{Rd, Wr, Xor}
use Rattle.graph_mean.specs.Graph.{Vertex}
use Rattle.graph_text.specs.FormatSteps.{next_pair}
use Rattle.text_steps.specs.Steps.{next_number, ◌>>=◌}
use Rattle.graph_text.specs.FormatLines.{antes_of, sources_of, plain_of}

-- `a` to `z`, `0` to `9`, `_` and `-`
abbrev pub is_name_byte : ℕ → Bool
is_name_byte b = (nat_le 97 b && nat_le b 122) || ((nat_le 48 b && nat_le b 57) || (b == 95 || b == 45))

-- whether one of the graphs has this name
unfoldable pub has_name : List Named → Text → Bool
has_name graphs name = list_any (λ g. bytes_eq g.name name) graphs

-- nothing stands there yet
abbrev pub is_empty : {A : Type 0} → List A → Bool
is_empty xs = nat_eq (length xs) 0

-- before the first line
abbrev pub nothing_read : Read
nothing_read = record { ended = []; current = None }

-- `UNIT BUFFER` of a read, and its antecedents
unfoldable pub read_of : List Text → Result Vertex ℕ
read_of words = do
  pair ← next_pair words
  plain_of (Rd pair.0 pair.1) pair.2

-- `UNIT BUFFER` of a write, and its antecedents
unfoldable pub write_of : List Text → Result Vertex ℕ
write_of words = do
  pair ← next_pair words
  plain_of (Wr pair.0 pair.1) pair.2

-- `TARGET SOURCE ..` of an exclusive-or, and its antecedents
unfoldable pub xor_of : List Text → Result Vertex ℕ
xor_of words = do
  target ← next_number words
  sources ← sources_of target.1
  antes ← antes_of sources.1
  Ok (record { kind = Xor target.0; sources = sources.0; antes = antes })

-- the graphs of a text, line after line
unfoldable pub graphs_in : Text → Result (List Named) At
graphs_in text =
    after_lines nothing_read (lines_in text)
    >>= λ read. at_text_end (length (raw_lines text)) read.ended read.current
