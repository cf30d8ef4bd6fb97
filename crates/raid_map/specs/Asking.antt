-- In which regions the items of a script may write.
use Rattle.std.specs.Prelude.{◌≡◌, ◌<◌, ◌≤◌, ◌⊎◌, ◌↔◌, ℕ, List, All, length, Bool, true, false, Option, Some, None, slice_get, slice_index_or}
use Rattle.blk_plain.specs.declared.op.Op.{Op}
use Rattle.blk_plain.specs.declared.op.Op.TheVariants.{Write, Writes, Read, Rebuild, Sync}
use Rattle.blk_plain.specs.Plain.{AreSound, spans_of}
use Rattle.lay_core.specs.Layout.{Shape}
use Rattle.graph_mean.specs.declared.graph.Node.{Node}
use Rattle.graph_mean.specs.declared.graph.Node.TheVariants.{Rd, Wr, Xor, Cmt, Trm}
use Rattle.graph_mean.specs.declared.task.Kind.TheVariants as kind
use Rattle.graph_mean.specs.Graph.{View, Held, blank}
use Rattle.graph_mean.specs.Task.{Aim, Missing}
use Rattle.eng_world.specs.declared.item.Item.{Item}
use Rattle.eng_world.specs.declared.item.Item.TheVariants as item
use Rattle.eng_world.specs.World.{World, IsRead}
use Rattle.eng_world.specs.Planning.{Graphs, InReach, Concerns}
use Rattle.item_list.specs.ItemList.{ItemList}
use Rattle.raid_map.specs.Regions.{region_of, Marks, is_marked}
use Rattle.raid_map.specs.Mapped.{HasWrite}

-- the node is a write
abbrev pub node_writes : Node → Bool
node_writes (Rd unit buf) = false
node_writes (Wr unit buf) = true
node_writes (Xor to) = false
node_writes Cmt = false
node_writes Trm = false

-- the graphs of the file by number; past the last there is a blank one
abbrev pub file_of : List Held → ℕ → View
file_of held n = (slice_index_or held n (record { drawn = blank; node_room = 0; buf_room = 0; edge_room = 0 })).drawn

-- a graph of the file is named, and has a write
abbrev pub FileWrites : (ℕ → View) → Option ℕ → Type 0
FileWrites file None = ⊥
FileWrites file (Some n) = HasWrite (file n)

-- what is so of an operation wherever it is asked: its spans have blocks, and those of one write share none
abbrev pub HasSpans : Op → Type 0
HasSpans (Write span pattern) = 1 ≤ span.count
HasSpans (Writes patches) = AreSound patches × All (λ s. 1 ≤ s.count) (spans_of patches)
HasSpans (Read span) = 1 ≤ span.count
HasSpans (Rebuild stripe) = Unit {0}
HasSpans (Sync stripe) = Unit {0}

abbrev pub IsSpanned : Item → Type 0
IsSpanned (item.Run op graph) = HasSpans op
IsSpanned (item.Fail column) = Unit {0}

-- the operation is in reach, and concerns stripe s
abbrev pub Reaches : Shape → Op → ℕ → Type 0
Reaches y op s = InReach y op × Concerns y op s

-- the operation may write: it is no read, or it names a graph of the file that has a write
abbrev pub MayWriteBy : (ℕ → View) → Op → Option ℕ → Type 0
MayWriteBy file op graph = (IsRead (Some op) → ⊥) ⊎ FileWrites file graph

-- the item may write stripe s: its operation may write, is in reach, and concerns the stripe
abbrev pub MayWriteIn : Shape → (ℕ → View) → Item → ℕ → Type 0
MayWriteIn y file (item.Run op graph) s = MayWriteBy file op graph × Reaches y op s
MayWriteIn y file (item.Fail column) s = ⊥

-- one of these items may
abbrev pub SomeMayWrite : Shape → (ℕ → View) → List Item → ℕ → Type 0
SomeMayWrite y file items s = (n : ℕ) × (asked : Item) × (slice_get items n ≡ Some asked) × MayWriteIn y file asked s

-- one of these clients' items may
abbrev pub ScriptMayWrite : Shape → (ℕ → View) → List ItemList → ℕ → Type 0
ScriptMayWrite y file clients s = (c : ℕ) × (items : ItemList) × (slice_get clients c ≡ Some items) × SomeMayWrite y file items.items s

-- The map marks what it marked, and the regions of these stripes.
pub record MarksAlso (stripes : ℕ → Type 0) (old new : Marks) : Type 0 where
  pub stripes_same : new.stripes ≡ old.stripes
  pub serial : new.serial ≡ old.serial
  pub count : length new.marks ≡ length old.marks
  pub marks : (r : ℕ) → (is_marked new.marks r ≡ true) ↔ ((is_marked old.marks r ≡ true) ⊎ ((s : ℕ) × (s < old.stripes) × stripes s × (region_of old.stripes s ≡ r)))

-- ## What is asked for

-- no graph of the library's for a read has a write
abbrev pub LibraryOnlyReads : Graphs → Type 0
LibraryOnlyReads graphs = (t : Aim) (missing : Missing) → t.kind ≡ kind.Read → HasWrite (graphs.library t missing) → ⊥

-- it is one of these clients' items
abbrev pub IsItemOf : List ItemList → Item → Type 0
IsItemOf clients asked = (c : ℕ) × (items : ItemList) × (slice_get clients c ≡ Some items) × (n : ℕ) × (slice_get items.items n ≡ Some asked)

-- the regions of these stripes are marked
abbrev pub AreMarkedFor : Shape → (ℕ → Bool) → (ℕ → Type 0) → Type 0
AreMarkedFor y regions stripes = (s : ℕ) → s < y.stripes → stripes s → regions (region_of y.stripes s) ≡ true

-- it is the rebuild of a stripe whose region is marked
abbrev pub IsMarkedRebuild : Shape → (ℕ → Bool) → Item → Type 0
IsMarkedRebuild y regions asked = (stripe : ℕ) × (graph : Option ℕ) × (asked ≡ item.Run (Rebuild stripe) graph) × (regions (region_of y.stripes stripe) ≡ true)

-- each item is one of the script's, or the rebuild of a stripe whose region is marked
abbrev pub AreItemsOf : Shape → List ItemList → (ℕ → Bool) → World → Type 0
AreItemsOf y clients regions w = (c n : ℕ) (asked : Item) → slice_get (w.clients c).items n ≡ Some asked → IsItemOf clients asked ⊎ IsMarkedRebuild y regions asked
