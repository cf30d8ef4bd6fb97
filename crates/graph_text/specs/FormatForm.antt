-- The form of a graph file: what stands at each place of each of its lines.
use Rattle.std.specs.Prelude.{◌≡◌, ◌≢◌, ℕ, ◌+◌, ◌<◌, ◌≤◌, ◌^◌, false, IsTrue, List, [], ◌∷◌, ◌++◌, Option, Some, None, codes, length, map, decimal, All, slice_index_or}
use Rattle.std.specs.Option.{ForSome}
use Rattle.std.specs.List.{flat_map}
use Rattle.raid_text.specs.Text.{Text, Numbered, number_of, sound_words}
use Rattle.raid_text.specs.Printed.{text_of}
use Rattle.graph_mean.specs.declared.graph.Buf.{Buf}
use Rattle.graph_mean.specs.declared.graph.Ret.{Ret}
use Rattle.graph_mean.specs.declared.graph.Node.{Node}
use Rattle.graph_mean.specs.declared.graph.Node.TheVariants.{Rd, Wr, Xor, Cmt, Trm}
use Rattle.graph_mean.specs.Graph.{View, Vertex, edge_count, is_xor}
use Rattle.graph_text.specs.Format.{Named, is_name}

-- what stands at a word's place: this word, or a number
pub data Place : Type 0 where
  Literal : Text → Place
  Number : ℕ → Place

-- a word that may stand there: a number may have leading zeros
abbrev pub Fills : Place → Text → Type 0
Fills (Literal text) word = word ≡ text
Fills (Number n) word = number_of word ≡ Some n

-- the words fill the places, one by one
abbrev pub FillsAll : List Place → List Text → Type 0
FillsAll [] [] = Unit {0}
FillsAll [] (word ∷ words) = ⊥
FillsAll (place ∷ places) [] = ⊥
FillsAll (place ∷ places) (word ∷ words) = Fills place word × FillsAll places words

-- the line has such words, and no other bytes outside its comment
abbrev pub IsLineOf : List Place → Numbered → Type 0
IsLineOf places line = (words : List Text) × (sound_words line ≡ Some words) × FillsAll places words

-- the lines are of these forms, one by one
abbrev pub HasForm : List (List Place) → List Numbered → Type 0
HasForm [] [] = Unit {0}
HasForm [] (line ∷ lines) = ⊥
HasForm (places ∷ more) [] = ⊥
HasForm (places ∷ more) (line ∷ lines) = IsLineOf places line × HasForm more lines

-- ---- the places of each line

-- `graph NAME`
abbrev pub start_places : Text → List Place
start_places name = Literal (codes "graph") ∷ Literal name ∷ []

-- `new U` of a buffer that is filled with new data
abbrev pub new_places : Option ℕ → List Place
new_places None = []
new_places (Some unit) = Literal (codes "new") ∷ Number unit ∷ []

-- `buffer I stripe S from O count L`
abbrev pub buffer_places : ℕ → Buf → List Place
buffer_places n buf = Literal (codes "buffer") ∷ Number n ∷ Literal (codes "stripe") ∷ Number buf.stripe ∷ Literal (codes "from") ∷ Number buf.from ∷ Literal (codes "count") ∷ Number buf.count ∷ new_places buf.new_of

-- what a node does, with its unit and buffer, or its target
abbrev pub kind_places : Node → List Place
kind_places (Rd unit buf) = Literal (codes "read") ∷ Number unit ∷ Number buf ∷ []
kind_places (Wr unit buf) = Literal (codes "write") ∷ Number unit ∷ Number buf ∷ []
kind_places (Xor to) = Literal (codes "xor") ∷ Number to ∷ []
kind_places Cmt = Literal (codes "commit") ∷ []
kind_places Trm = Literal (codes "terminate") ∷ []

-- numbers one after another
abbrev pub number_places : List ℕ → List Place
number_places numbers = map Number numbers

-- `after A ..` of a node that has antecedents
abbrev pub after_places : List ℕ → List Place
after_places [] = []
after_places (ante ∷ antes) = Literal (codes "after") ∷ number_places (ante ∷ antes)

-- `node I KIND ..`
abbrev pub node_places : ℕ → Vertex → List Place
node_places n v = Literal (codes "node") ∷ Number n ∷ (kind_places v.kind ++ (number_places v.sources ++ after_places v.antes))

-- `return UNIT BUFFER`
abbrev pub return_places : Ret → List Place
return_places ret = Literal (codes "return") ∷ Number ret.unit ∷ Number ret.buf ∷ []

-- `end`
abbrev pub end_places : List Place
end_places = Literal (codes "end") ∷ []

-- the lines of buffers, the first of which is the n-th
unfoldable pub buffer_lines : ℕ → List Buf → List (List Place)
buffer_lines n [] = []
buffer_lines n (buf ∷ bufs) = buffer_places n buf ∷ buffer_lines (n + 1) bufs

-- the lines of nodes, the first of which is the n-th
unfoldable pub node_lines : ℕ → List Vertex → List (List Place)
node_lines n [] = []
node_lines n (v ∷ vs) = node_places n v ∷ node_lines (n + 1) vs

-- the lines of returns
abbrev pub return_lines : List Ret → List (List Place)
return_lines rets = map return_places rets

-- the lines of a graph behind its first
unfoldable pub body_lines : View → List (List Place)
body_lines g = buffer_lines 0 g.bufs ++ (node_lines 0 g.nodes ++ (return_lines g.rets ++ end_places ∷ []))

-- the lines of a graph
unfoldable pub graph_lines : Named → List (List Place)
graph_lines g = start_places g.name ∷ body_lines g.graph

-- the lines of a file
unfoldable pub file_lines : List Named → List (List Place)
file_lines graphs = flat_map graph_lines graphs

-- ---- the graphs of a file

-- numbers that a word can be
abbrev pub IsWordBuf : Buf → Type 0
IsWordBuf buf = (buf.stripe < 2 ^ 32) × (buf.from < 2 ^ 32) × (buf.count < 2 ^ 32) × ForSome buf.new_of (λ unit. unit < 2 ^ 32)

abbrev pub IsWordRet : Ret → Type 0
IsWordRet ret = (ret.unit < 2 ^ 32) × (ret.buf < 2 ^ 32)

abbrev pub IsWordKind : Node → Type 0
IsWordKind (Rd unit buf) = (unit < 2 ^ 32) × (buf < 2 ^ 32)
IsWordKind (Wr unit buf) = (unit < 2 ^ 32) × (buf < 2 ^ 32)
IsWordKind (Xor to) = to < 2 ^ 32
IsWordKind Cmt = Unit {0}
IsWordKind Trm = Unit {0}

-- sources at an exclusive-or alone, and numbers that a word can be
pub record IsWordNode (v : Vertex) : Type 0 where
  pub kind : IsWordKind v.kind
  pub sources : All (λ n. n < 2 ^ 32) v.sources
  pub antes : All (λ n. n < 2 ^ 32) v.antes
  pub sums : is_xor v.kind ≡ false → v.sources ≡ []

-- a graph within the limits of a file
pub record IsInLimits (g : View) : Type 0 where
  pub bufs : length g.bufs ≤ 2048
  pub nodes : length g.nodes ≤ 2048
  pub rets : length g.rets ≤ 2048
  pub edges : edge_count g ≤ 16384

-- a graph that a file can hold
pub record IsWritable (g : View) : Type 0 where
  pub limits : IsInLimits g
  pub bufs : All IsWordBuf g.bufs
  pub nodes : All IsWordNode g.nodes
  pub rets : All IsWordRet g.rets

-- no two of them have the same name
abbrev pub Differ : List Named → Type 0
Differ graphs = (i j : ℕ) (g h : Named) → i < j → j < length graphs → (slice_index_or graphs i g).name ≢ (slice_index_or graphs j h).name

-- the graphs of a file
pub record AreGraphs (graphs : List Named) : Type 0 where
  pub few : length graphs ≤ 64
  pub named : All (λ g. IsTrue (is_name g.name)) graphs
  pub differ : Differ graphs
  pub writable : All (λ g. IsWritable g.graph) graphs

-- ---- the canonical text

-- the word that is printed at a place
abbrev pub printed : Place → Text
printed (Literal text) = text
printed (Number n) = decimal n

-- the canonical text of a form: one space between words, no leading zeros, no comments
abbrev pub canonical : List (List Place) → Text
canonical places = text_of (map (λ line. map printed line) places)

-- the canonical text of a graph of this name
abbrev pub graph_text : Named → Text
graph_text g = canonical (graph_lines g)
