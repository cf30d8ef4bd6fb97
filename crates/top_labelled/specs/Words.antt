-- Words by which code and proofs go, of what the statement of a run says in its place.
use Rattle.std.specs.Prelude.{◌≡◌, ◌⊎◌, ◌↔◌, ◌<◌, ℕ, List, ◌∷◌, ◌++◌, Contains, Bool, true, false, ◌==◌, ◌&&◌, ◌||◌, not, if◌then◌else◌, Option, Some, None, IsSomeAnd, MatchOption, option_map, slice_get}
use Rattle.std.specs.Option.{option_map_or}
use Rattle.blk_disk.specs.declared.disk.Call.{Call}
use Rattle.blk_disk.specs.declared.disk.Disk.{Ghosts}
use Rattle.blk_disk.specs.Disk.{call_of}
use Rattle.blk_disk.specs.Devices.{contents_of}
use Rattle.graph_mean.specs.Graph.{View}
use Rattle.lay_core.specs.Layout.{Blocks, Shape, offset_of, stripe_of, unit_of}
use Rattle.lay_core.specs.Touched.{count_below}
use Rattle.eng_cols.specs.declared.column.Column.{Column}
use Rattle.eng_cols.specs.declared.column.Column.TheVariants as column
use Rattle.eng_cols.specs.declared.spot.Loss.{Loss}
use Rattle.eng_cols.specs.Cols.{ColumnState, device_set}
use Rattle.eng_cols.specs.Contents.{Contents, byte_of, decode, xor_others}
use Rattle.eng_cols.specs.Stripes.{is_stripe_of, states_of}
use Rattle.eng_array.specs.Starts.{column_of, most_of}
use Rattle.eng_array.specs.declared.start.Start.{Start}
use Rattle.item_list.specs.ItemList.{ItemList}
use Rattle.raid_label.specs.declared.label.Label.{Label}
use Rattle.raid_map.specs.Asking.{ScriptMayWrite}
use Rattle.raid_map.specs.Regions.{Marks as Map, is_marked, region_of}
use Rattle.top_acts.specs.Begun.{HasBegun}
use Rattle.top_acts.specs.Failed.{StaysBegun}
use Rattle.top_acts.specs.Mapped.{is_any_marked}
use Rattle.top_acts.specs.Sweeps.{Sweeps, Notice, Round, Marks}
use Rattle.top_run.specs.declared.service.Line.{Line}
use Rattle.top_run.specs.declared.service.Told.{Told}
use Rattle.top_run.specs.declared.service.Told.TheVariants as told
use Rattle.top_run.specs.Work.{Work}
use Rattle.top_labelled.specs.Begun.{IsUnmade, is_in_place}
use Rattle.top_labelled.specs.Ran.{told_of}
use Rattle.top_labelled.specs.Maps.{IsMarkedIn, WritesMap, WritesRows}
use Rattle.top_labelled.specs.Marked.{StripesFrom, done_on}

-- ## How an array is begun

-- each block as the sum of its stripe's other units
abbrev pub sums_of_others : Shape → Contents → List ColumnState → Blocks
sums_of_others y contents cols b k = xor_others (λ j. byte_of y contents cols (stripe_of y b) j (offset_of y b) k) (unit_of y b) y.width

-- the column is live on this device, or filling it
abbrev pub lives_on : Option Column → ℕ → Bool
lives_on column d = option_map_or (λ e. e == d) (device_set column) false

-- Of what is to be rebuilt, what is begun: none of it where the device onto which it goes has failed, before, or since it was the column's own and the column has died.
abbrev pub began_of : Bool → Option Start → List Column → List Column → Option Start
began_of faulty s columns begun = if faulty || (is_in_place s columns && not (is_in_place s begun)) then None else s

-- by what it is announced that sectors of the rows are going to be written: by a map with these marks, where one is kept
abbrev pub notice_in : Bool → Map → Notice
notice_in keeps marks = if keeps then Marks marks else Round

-- maps are written in the call, and cleared in the end: one is kept, or the union of those that were read has a mark
abbrev pub writes_maps : Bool → Map → Bool
writes_maps keeps union = keeps || is_any_marked union

-- An array that isn't lost is begun; one that is, as its maps were read, is left as it is.
abbrev pub BeginsUnless : {D : Type 0} → Ghosts D → Option Loss → Notice → Sweeps → Shape → Label → Label → List Column → List Column → List (Option D) → List (Option D) → Option Loss → ℕ → Type 0
BeginsUnless g unread notice sweeps y newest first columns after old new lost n = MatchOption unread (HasBegun g notice sweeps y newest first columns after old new lost n)
    (λ loss. StaysBegun g newest first columns after old new × (lost ≡ Some loss))

module _ {D : Type 0} (g : Ghosts D) (a : Work) (newest : Label) (taken opened : List (Option D)) (begun : List Column) where
  -- the block is what the devices held as they were taken; or, where the labels said that the array was in use, or the union of its maps had marks, and the block's unit was made missing, the sum of the others of its stripe as they were held then
  abbrev pub IsBlockOf : Map → Blocks → ℕ → Type 0
  IsBlockOf union blocks b = ((k : ℕ) → k < 512 → blocks b k ≡ decode a.layout (contents_of g taken) (states_of a.layout a.columns) b k)
      ⊎ (((newest.clean ≡ 0) ⊎ (is_any_marked union ≡ true)) × IsUnmade g a newest taken opened begun b × ((k : ℕ) → k < 512 → blocks b k ≡ sums_of_others a.layout (contents_of g taken) (states_of a.layout a.columns) b k))

-- ## The marks of a map

-- stripe s is to be rebuilt, by the columns as they are when the maps are marked
abbrev pub RebuildMayWrite : Shape → List Column → Option Start → ℕ → Type 0
RebuildMayWrite y columns how s = IsSomeAnd how (λ rebuild. StripesFrom y (states_of y columns) (column_of rebuild) (done_on rebuild columns) (most_of rebuild) s)

-- Marked are the regions that the union marks, those in which the items of clients may write, and those of the stripes that are to be rebuilt; and no others, where nothing was marked before.
pub record MarksAsked (y : Shape) (file : ℕ → View) (clients : List ItemList) (columns : List Column) (how : Option Start) (union old new : Map) : Type 0 where
  pub stripes : new.stripes ≡ old.stripes
  pub serial : new.serial ≡ old.serial
  pub marks : (r : ℕ) → (is_marked new.marks r ≡ true) ↔ ((is_marked old.marks r ≡ true) ⊎ ((is_marked union.marks r ≡ true)
      ⊎ ((s : ℕ) × (s < old.stripes) × (ScriptMayWrite y file clients s ⊎ RebuildMayWrite y columns how s) × (region_of old.stripes s ≡ r))))

-- ## The end of a run

-- the map by which maps are cleared, if they are to be
abbrev pub clear_if : Bool → Map → Option Map
clear_if clears map = if clears then Some map else None

-- the label of a round that says that the array was closed in order
abbrev pub closing_label : Label → Label
closing_label label = record label { clean = 1 }

-- what is told of a rebuild that was asked, and goes onto this device or into the spare places, where a core was closed with these columns, and the array ended so
abbrev pub line_of : Shape → Option Start → Option ℕ → List Column → Option Loss → Option Line
line_of y start device kept lost =
    option_map (λ (how : Start). record { column = column_of how; device = device; told = told_of y kept lost (column_of how) (slice_get kept (column_of how)) }) start

-- how far the rebuild of a column came, by what that is as it is kept: done with the number of its stripes
abbrev pub told_on : Shape → List Column → ℕ → Option Column → Told
told_on y kept c None = told.Stopped
told_on y kept c (Some column.Dead) = told.Stopped
told_on y kept c (Some (column.Live d)) = told.Done (count_below (is_stripe_of y (states_of y kept) c) y.stripes)
told_on y kept c (Some (column.Filling d m)) = told.Paused m
told_on y kept c (Some column.Spread) = told.Done (count_below (is_stripe_of y (states_of y kept) c) y.stripes)

-- and once the array has ended: where it is lost, no rebuild is paused
abbrev pub told_at_end : Option Loss → Told → Told
told_at_end None told = told
told_at_end (Some loss) (told.Done n) = told.Done n
told_at_end (Some loss) (told.Paused m) = told.Stopped
told_at_end (Some loss) told.Stopped = told.Stopped

-- what is told of a rebuild that was asked, and goes onto this device or into the spare places, where a core was closed with these columns
abbrev pub line_kept : Shape → Option Start → Option ℕ → List Column → Option Line
line_kept y None device kept = None
line_kept y (Some s) device kept = Some (record { column = column_of s; device = device; told = told_on y kept (column_of s) (slice_get kept (column_of s)) })

-- and once the array has ended
abbrev pub line_at_end : Option Loss → Option Line → Option Line
line_at_end lost None = None
line_at_end lost (Some line) = Some (record line { told = told_at_end lost line.told })

-- ## The order of writes

-- each write to the rows comes behind a write of the map and a settle behind that
abbrev pub MarksFirst : List Call → Type 0
MarksFirst calls = (before after : List Call) (call : Call) → calls ≡ before ++ call ∷ after → WritesRows call → IsMarkedIn before

-- The last write of the map comes behind a settle that went well, and no write to the rows comes behind that settle.
abbrev pub ClearsLast : List Call → Type 0
ClearsLast calls = (before after : List Call) (call : Call) → calls ≡ before ++ call ∷ after → WritesMap call → ((later : Call) → Contains after later → WritesMap later → ⊥)
    → (front : List Call) × (back : List Call) × (before ≡ front ++ call_of 2 0 0 true ∷ back) × ((later : Call) → Contains (back ++ call ∷ after) later → WritesRows later → ⊥)
