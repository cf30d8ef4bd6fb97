-- What is told of the plans of a script's items. Each line about an item is a comment of a graph file,
-- so that all of it is one.
use Rattle.std.specs.Prelude.{◌≡◌, ◌⊎◌, ℕ, zero, suc, List, [], ◌∷◌, ◌++◌, Some, codes, decimal, slice_get}
use Rattle.blk_plain.specs.declared.op.Op.{Op}
use Rattle.lay_core.specs.Layout.{Shape}
use Rattle.eng_plan.specs.Asked.{HasBlocks}
use Rattle.graph_mean.specs.Fewest.{read_sectors}
use Rattle.graph_mean.specs.Graph.{View}
use Rattle.graph_text.specs.FormatForm.{graph_text}
use Rattle.eng_cols.specs.Cols.{ColumnState}
use Rattle.eng_world.specs.declared.item.Item.{Item}
use Rattle.eng_world.specs.declared.item.Item.TheVariants.{Run, Fail}
use Rattle.put_line.specs.Line.{line}
use Rattle.top_plan.specs.Counts.{sum_sectors, write_sectors}
use Rattle.top_plan.specs.Sketched.{IsOutside, IsPlannedAs, IsWithin}
use Rattle.top_plan.specs.declared.judging.Outside.{Outside}
use Rattle.top_plan.specs.declared.judging.Outside.TheVariants as outside

-- item I of client C
abbrev pub item_word : ℕ → ℕ → List ℕ
item_word c i = line (codes "# item " ∷ decimal c ∷ codes "." ∷ decimal i ∷ [])

-- the name of its graph
unfoldable pub graph_name : ℕ → ℕ → List ℕ
graph_name c i = line (codes "g" ∷ decimal c ∷ codes "-" ∷ decimal i ∷ [])

-- what its graph reads, sums and writes
unfoldable pub counts_line : ℕ → ℕ → View → List ℕ
counts_line c i v = line
    (codes "# item " ∷ decimal c ∷ codes "." ∷ decimal i
    ∷ codes " reads " ∷ decimal (read_sectors v) ∷ codes " sums " ∷ decimal (sum_sectors v)
    ∷ codes " writes " ∷ decimal (write_sectors v) ∷ codes "\n" ∷ [])

-- a line of an item that has no graph
unfoldable pub other_line : ℕ → ℕ → List ℕ → List ℕ
other_line c i word = line
    (codes "# item " ∷ decimal c ∷ codes "." ∷ decimal i ∷ word ∷ codes "\n" ∷ [])

-- the reply of one that is refused
abbrev pub outside_word : Outside → List ℕ
outside_word outside.Range = codes " refused R1"
outside_word outside.Long = codes " refused R2"

-- the line of the counts, and the graph
unfoldable pub plan_text : ℕ → ℕ → View → List ℕ
plan_text c i v = counts_line c i v ++ graph_text (record { name = graph_name c i; graph = v })

-- What is told of an operation: the graph that the planner makes of it, or the reply by which it is refused.
abbrev pub IsRunTold : Shape → List ColumnState → ℕ → ℕ → Op → List ℕ → Type 0
IsRunTold y cols c i op told =
    ((o : Outside) × IsOutside y op o × (told ≡ other_line c i (outside_word o)))
    ⊎ ((v : View) × IsWithin y op × IsPlannedAs y cols op v × (told ≡ plan_text c i v))

-- of an item; a column that fails has no graph
abbrev pub IsToldOf : Shape → List ColumnState → ℕ → ℕ → Item → List ℕ → Type 0
IsToldOf y cols c i (Fail column) told = told ≡ other_line c i (codes " fails a column")
IsToldOf y cols c i (Run op graph) told = IsRunTold y cols c i op told

-- an item that may be asked: its spans have blocks
abbrev pub CanBeAsked : Item → Type 0
CanBeAsked (Fail column) = Unit {0}
CanBeAsked (Run op graph) = HasBlocks op

-- of the first n items of a client
abbrev pub AreToldOf : Shape → List ColumnState → ℕ → List Item → ℕ → List ℕ → Type 0
AreToldOf y cols c items zero told = told ≡ []
AreToldOf y cols c items (suc n) told =
    (front : List ℕ) × (one : List ℕ) × (item : Item) × (slice_get items n ≡ Some item)
    × AreToldOf y cols c items n front × IsToldOf y cols c n item one × (told ≡ front ++ one)
