-- What may be done with an array as it was opened.
use Rattle.std.specs.Prelude.{◌≡◌, ◌≤◌, ◌<◌, ◌+◌, ◌*◌, ℕ, true, List, length, Option, Some, None, IsSome, All, count_by, slice_get}
use Rattle.blk_disk.specs.Devices.{size_of}
use Rattle.blk_disk.specs.declared.disk.Disk.{Ghosts}
use Rattle.eng_array.specs.Fitting.{BeginsAtMost}
use Rattle.eng_array.specs.Starts.{begun_by, column_of, most_of}
use Rattle.eng_array.specs.declared.start.Start.{Start}
use Rattle.eng_array.specs.declared.start.Start.TheVariants as start
use Rattle.eng_cols.specs.declared.column.Column.TheVariants as column
use Rattle.eng_cols.specs.Cols.{ColumnState, is_set_filling, is_set_spread, HasDeviceOn}
use Rattle.eng_cols.specs.Laws.{HaveSpares}
use Rattle.raid_conf.specs.Layouts.{shape_of}
use Rattle.raid_label.specs.declared.label.Label.{Label}
use Rattle.top_bay.specs.Asked.{Asked}
use Rattle.top_open.specs.Opening.{Opened}
use Rattle.top_rounds.specs.Labels.{IsLabelFor, IsNumbered}
use Rattle.eng_cols.specs.Stripes.{states_of}
use Rattle.top_duty.specs.Duty.{rebuilds_by}
use Rattle.top_duty.specs.Steps.{with_dead}
use Rattle.top_duty.specs.Opening.{AreTableRows, needs_of, stripes_on}

-- There is one column for each of the configuration; at most one is filling, which has stripes left to do, and at most one is spread, where each stripe has a spare place. Each device of a column is that of no other; it is a column's disk or a spare; it has a sector, and room for the rows. The rows are those of whole tables. The newest label is one that a sector may hold, and its counter has room where labels are to be written.
pub record IsFit {D : Type 0} (g : Ghosts D) (k : Asked) (o : Opened) (devices : List (Option D)) : Type 0 where
  pub entries : length o.columns ≡ k.conf.columns
  pub filling : count_by is_set_filling o.columns ≤ 1
  pub left : (c d m : ℕ) → slice_get o.columns c ≡ Some (column.Filling d m) → m < stripes_on (shape_of k.conf o.rows) o.columns c
  pub spread : count_by is_set_spread o.columns ≤ 1
  pub spares : HaveSpares (shape_of k.conf o.rows) (states_of (shape_of k.conf o.rows) o.columns)
  pub apart : (c e d : ℕ) → HasDeviceOn o.columns c d → HasDeviceOn o.columns e d → c ≡ e
  pub sized : (c d : ℕ) → HasDeviceOn o.columns c d → 1 ≤ size_of g devices d
  pub large : (c d : ℕ) → HasDeviceOn o.columns c d → 64 + o.rows * k.conf.unit ≤ size_of g devices d
  pub numbered : All (IsNumbered (length o.columns)) o.columns
  pub rows : AreTableRows k.conf o.rows
  pub newest : (l : Label) → o.newest ≡ Some l → IsLabelFor o.columns l × ((needs_of k).writes ≡ true → l.counter ≤ 4294901760)

-- A device onto which a column may be rebuilt has room for the rows, is in no other column, and is a column's disk or a spare.
pub record IsTarget {D : Type 0} (g : Ghosts D) (k : Asked) (o : Opened) (devices : List (Option D)) (c d : ℕ) : Type 0 where
  pub large : 64 + o.rows * k.conf.unit ≤ size_of g devices d
  pub apart : (e : ℕ) → HasDeviceOn o.columns e d → e ≡ c
  pub numbered : IsNumbered (length o.columns) (column.Live d)

-- A column may be rebuilt into the spare places where no column is spread, and each stripe has one.
pub record HaveSparePlaces (k : Asked) (o : Opened) : Type 0 where
  pub none_spread : count_by is_set_spread o.columns ≡ 0
  pub each : (s : ℕ) → s < (shape_of k.conf o.rows).stripes → IsSome ((shape_of k.conf o.rows).spare s)

abbrev pub MayGo : {D : Type 0} → Ghosts D → Asked → Opened → List (Option D) → Start → Type 0
MayGo g k o devices (start.Fill c device most) = ((needs_of k).excused ≡ Some c) × IsTarget g k o devices c device
MayGo g k o devices (start.Resume c most) = ((needs_of k).excused ≡ None) × (d : ℕ) × (m : ℕ) × (slice_get o.columns c ≡ Some (column.Filling d m))
MayGo g k o devices (start.Spread c) = ((needs_of k).excused ≡ Some c) × HaveSparePlaces k o

-- the columns behind the start
abbrev pub begun_in : Asked → Opened → Start → List ColumnState
begun_in k o s = begun_by (record { states = states_of (shape_of k.conf o.rows) (with_dead (needs_of k).excused o.columns); stripes = (shape_of k.conf o.rows).stripes }) s

-- Where a column is rebuilt, the array has labels; the column is the one that the action names, and no other is filling, or it is the one that is filling; and it has at most as many stripes to do as rebuilds are counted, or no more are asked.
pub record IsStart {D : Type 0} (g : Ghosts D) (k : Asked) (o : Opened) (devices : List (Option D)) (s : Start) : Type 0 where
  pub labelled : o.newest ≡ None → ⊥
  pub alone : (c d m : ℕ) → slice_get o.columns c ≡ Some (column.Filling d m) → c ≡ column_of s
  pub within : column_of s < k.conf.columns
  pub may : MayGo g k o devices s
  pub few : BeginsAtMost (shape_of k.conf o.rows) (begun_in k o s) (column_of s) (most_of s)
      (rebuilds_by (shape_of k.conf o.rows) (with_dead (needs_of k).excused o.columns) (Some s))

-- a column may be rebuilt so, if one is
abbrev pub IsStartIf : {D : Type 0} → Ghosts D → Asked → Opened → List (Option D) → Option Start → Type 0
IsStartIf g k o devices None = Unit {0}
IsStartIf g k o devices (Some s) = IsStart g k o devices s
