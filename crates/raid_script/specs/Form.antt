-- The form of a script: what stands at each place of each of its lines.
use Rattle.std.specs.Prelude.{◌≡◌, ℕ, ◌+◌, ◌<◌, ◌≤◌, List, [], ◌∷◌, ◌++◌, Option, Some, None, codes, length, sum_by}
use Rattle.raid_text.specs.Text.{Text, Numbered, number_of, sound_words}
use Rattle.raid_text.specs.Pattern.{pattern_of}
use Rattle.graph_text.specs.Format.{Named}
use Rattle.raid_script.specs.declared.join.Join.{Join}
use Rattle.raid_script.specs.Asked.{Asked, AskedPatch, Writes, WritesAll, Reads, Syncs, Fails, Other, ArePatches, IsAsked, IsJoinOf, Request, read_sectors}
use Rattle.raid_script.specs.Steps.{graph_of, joined_in}

-- what stands at a word's place: this word, a number, the digits of a pattern, or the name of a graph of the book
pub data Place : Type 0 where
  Literal : Text → Place
  Number : ℕ → Place
  Digits : List ℕ → Place
  Graph : ℕ → Place

-- a word that may stand there: numbers may have leading zeros, and digits either case
abbrev pub Fills : List Named → Place → Text → Type 0
Fills book (Literal text) word = word ≡ text
Fills book (Number n) word = number_of word ≡ Some n
Fills book (Digits bytes) word = pattern_of word ≡ Some bytes
Fills book (Graph graph) word = graph_of book word ≡ Some graph

-- the words fill the places, one by one
abbrev pub FillsAll : List Named → List Place → List Text → Type 0
FillsAll book [] [] = Unit {0}
FillsAll book [] (word ∷ words) = ⊥
FillsAll book (place ∷ places) [] = ⊥
FillsAll book (place ∷ places) (word ∷ words) = Fills book place word × FillsAll book places words

-- the line has such words, and no other bytes outside its comment
abbrev pub IsLineOf : List Named → List Place → Numbered → Type 0
IsLineOf book places line = (words : List Text) × (sound_words line ≡ Some words) × FillsAll book places words

-- ---- the places of each line

-- `use NAME`, where a graph of the file is named
abbrev pub use_places : Option ℕ → List Place
use_places None = []
use_places (Some graph) = Literal (codes "use") ∷ Graph graph ∷ []

-- FIRST, COUNT and PATTERN of each span
abbrev pub patch_places : List AskedPatch → List Place
patch_places [] = []
patch_places (patch ∷ patches) = Number patch.span.first ∷ Number patch.span.count ∷ Digits patch.bytes ∷ patch_places patches

-- the places behind the client
abbrev pub asked_places : Asked → List Place
asked_places (Writes first count bytes graph) = use_places graph ++ (Literal (codes "write") ∷ Number first ∷ Number count ∷ Digits bytes ∷ [])
asked_places (WritesAll patches graph) = use_places graph ++ (Literal (codes "writes") ∷ patch_places patches)
asked_places (Reads first count graph) = use_places graph ++ (Literal (codes "read") ∷ Number first ∷ Number count ∷ [])
asked_places (Syncs stripe) = Literal (codes "sync") ∷ Number stripe ∷ []
asked_places (Fails column) = Literal (codes "fail") ∷ Number column ∷ []
asked_places Other = []

-- `join`, and twice NAME FIRST COUNT PATTERN
abbrev pub join_places : Join → List AskedPatch → List Place
join_places join [] = []
join_places join (one ∷ []) = []
join_places join (one ∷ other ∷ []) =
    Literal (codes "join")
    ∷ Graph join.first ∷ Number one.span.first ∷ Number one.span.count ∷ Digits one.bytes
    ∷ Graph join.second ∷ Number other.span.first ∷ Number other.span.count ∷ Digits other.bytes ∷ []
join_places join (one ∷ other ∷ patch ∷ patches) = []

-- the spans of a write of several
abbrev pub patches_in : Asked → List AskedPatch
patches_in (Writes first count bytes graph) = []
patches_in (WritesAll patches graph) = patches
patches_in (Reads first count graph) = []
patches_in (Syncs stripe) = []
patches_in (Fails column) = []
patches_in Other = []

-- the places behind the client, of a join line too
abbrev pub said_places : Asked → Option Join → List Place
said_places asked None = asked_places asked
said_places asked (Some join) = join_places join (patches_in asked)

-- `C write FIRST COUNT PATTERN` and so on
abbrev pub places : Request → List Place
places r = Number r.client ∷ said_places r.asked r.joined

-- ---- the items of a script

-- The item of a join line, the one of this number, where j are before it: it writes two spans by the graph behind those of the file and of the lines before. There are at most 64 such lines.
pub record IsJoin (graphs j line : ℕ) (asked : Asked) (join : Join) : Type 0 where
  pub one : AskedPatch
  pub other : AskedPatch
  pub is : asked ≡ WritesAll (one ∷ other ∷ []) (Some (graphs + j))
  pub are : ArePatches (one ∷ other ∷ [])
  pub of : IsJoinOf graphs join
  pub line_is : join.line ≡ line
  pub few : j < 64

-- an item that may stand in this line of a script
abbrev pub IsSaid : (columns graphs j line : ℕ) → Asked → Option Join → Type 0
IsSaid columns graphs j line asked None = IsAsked columns graphs asked
IsSaid columns graphs j line asked (Some join) = IsJoin graphs j line asked join

-- a client's item
abbrev pub IsRequest : (columns graphs j line : ℕ) → Request → Type 0
IsRequest columns graphs j line r = (r.client < 16) × IsSaid columns graphs j line r.asked r.joined

-- the lines are those of these items, one by one, behind j join lines
abbrev pub AreLinesOf : List Named → ℕ → ℕ → List Request → List Numbered → Type 0
AreLinesOf book columns j [] [] = Unit {0}
AreLinesOf book columns j [] (line ∷ lines) = ⊥
AreLinesOf book columns j (r ∷ requests) [] = ⊥
AreLinesOf book columns j (r ∷ requests) (line ∷ lines) =
    IsRequest columns (length book) j line.at r × IsLineOf book (places r) line
    × AreLinesOf book columns (j + length (joined_in r.joined)) requests lines

-- at most 65,536 items, whose reads have at most 262,144 sectors together
pub record AreRequests (requests : List Request) : Type 0 where
  pub few : length requests ≤ 65536
  pub sectors : sum_by (λ r. read_sectors r.asked) requests ≤ 262144
