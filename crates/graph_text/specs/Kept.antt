-- Of a node line's numbers the reader keeps no more than it takes to see that a graph can't have them.
use Rattle.std.specs.Prelude.{ℕ, Bool, true, false, List, ◌++◌, Option, Some, None, Result, Ok, take}
use Rattle.raid_text.specs.Text.{Text}
use Rattle.graph_mean.specs.declared.graph.Node.{Node}
use Rattle.graph_mean.specs.Graph.{Vertex}
use Rattle.text_steps.specs.Steps.{◌>>=◌}
use Rattle.graph_text.specs.Answers.{Gives}

-- the first 16,385 numbers
unfoldable pub firsts : List ℕ → List ℕ
firsts ns = take 16385 ns

-- what is kept once these numbers come behind those that were kept
abbrev pub with_kept : List ℕ → Result (List ℕ) ℕ → Result (List ℕ) ℕ
with_kept kept read = read >>= λ ns. Ok (firsts (kept ++ ns))

-- the same of an exclusive-or's sources, with the words behind them
abbrev pub with_kept_sources : List ℕ → Result (List ℕ × Option (List Text)) ℕ → Result (List ℕ × Option (List Text)) ℕ
with_kept_sources kept read = read >>= λ s. Ok (firsts (kept ++ s.0), s.1)

-- the words behind `after`, where it was passed
abbrev pub behind : Bool → List Text → Option (List Text)
behind true words = Some words
behind false words = None

-- a node with the numbers of its line that are kept
abbrev pub kept_node : Result Vertex ℕ → Result Vertex ℕ
kept_node read = read >>= λ v. Ok (record v { sources = firsts v.sources; antes = firsts v.antes })

-- the node that a line has, with the numbers that are kept, or the code by which the line is refused
abbrev pub GivesNode : Result Node ℕ → List ℕ → List ℕ → Result Vertex ℕ → Type 0
GivesNode node sources antes read = Gives (λ kind. record { kind = kind; sources = sources; antes = antes }) node (kept_node read)
