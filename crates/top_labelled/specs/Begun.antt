-- How an array that has labels is begun: what its devices and columns are as a core is opened, and what the blocks are then.
use Rattle.std.specs.Prelude.{◌≡◌, ◌⊎◌, ◌<◌, ◌+◌, ℕ, List, Bool, true, false, ◌&&◌, if◌then◌else◌, Option, Some, None, ◌==◌, slice_get, slice_set, ◌%◌, MatchOption}
use Rattle.std.specs.Option.{option_map_or}
use Rattle.blk_disk.specs.declared.disk.Disk.{Ghosts}
use Rattle.blk_disk.specs.Devices.{contents_of}
use Rattle.lay_core.specs.Layout.{Blocks, blocks_in, stripe_of, unit_of}
use Rattle.eng_cols.specs.declared.column.Column.{Column}
use Rattle.eng_cols.specs.declared.column.Column.TheVariants as column
use Rattle.eng_cols.specs.declared.spot.Loss.{Loss}
use Rattle.eng_cols.specs.Cols.{is_set_filling, passes, device_set}
use Rattle.eng_cols.specs.Contents.{InSync, byte_of, decode, xor_others}
use Rattle.eng_cols.specs.Seats.{is_available, is_unit_of}
use Rattle.eng_array.specs.Starts.{column_of}
use Rattle.eng_array.specs.declared.start.Start.{Start}
use Rattle.eng_array.specs.declared.start.Start.TheVariants as start
use Rattle.raid_label.specs.declared.label.Label.{Label}
use Rattle.raid_recon.specs.declared.kind.Sweep.TheVariants as sweep
use Rattle.raid_map.specs.Regions.{Marks as Map, region_of, is_marked}
use Rattle.raid_map.specs.Union.{IsUnsound, UnionMarks}
use Rattle.top_acts.specs.Begun.{HasBegun}
use Rattle.top_acts.specs.Failed.{StaysBegun}
use Rattle.top_acts.specs.Mapped.{LooksAtMaps, is_any_marked, unmarked}
use Rattle.top_acts.specs.Sweeps.{Sweeps, Nothing, Over, Marked, Round, Marks}
use Rattle.eng_cols.specs.Stripes.{states_of}
use Rattle.top_close.specs.Ended.{IsLossBy}
use Rattle.top_run.specs.Work.{Work}
use Rattle.top_run.specs.Ran.{WasInSync}
use Rattle.eng_cols.specs.Deaths.{LosesDevice}

-- which check units are rewritten: all then; else those of the stripes that the union of the maps marks, if it marks any
abbrev pub sweeps_in : Label → Map → Sweeps
sweeps_in newest union =
    if newest.clean == 0 then Over sweep.Sync
    else (if is_any_marked union then Marked (λ s. is_marked union.marks (region_of union.stripes s)) else Nothing)

-- ## A rebuild

-- its column is one of n
abbrev pub IsColumnWithin : Option Start → ℕ → Type 0
IsColumnWithin None n = Unit {0}
IsColumnWithin (Some s) n = column_of s < n

-- no other column is filling
abbrev pub IsAlone : Option Start → List Column → Type 0
IsAlone None columns = Unit {0}
IsAlone (Some s) columns = (c d m : ℕ) → slice_get columns c ≡ Some (column.Filling d m) → c ≡ column_of s

-- of n columns, the device has a seat onto which the rebuild goes
abbrev pub IsSeated : ℕ → Start → Type 0
IsSeated n (start.Fill c d most) = d < n + 8
IsSeated n (start.Resume c most) = Unit {0}
IsSeated n (start.Spread c) = Unit {0}

abbrev pub IsSeatedIf : ℕ → Option Start → Type 0
IsSeatedIf n None = Unit {0}
IsSeatedIf n (Some s) = IsSeated n s

-- the column is to be rebuilt anew
abbrev pub IsAnew : Option Start → ℕ → Type 0
IsAnew None c = ⊥
IsAnew (Some (start.Fill column device most)) c = column ≡ c
IsAnew (Some (start.Resume column most)) c = ⊥
IsAnew (Some (start.Spread column)) c = column ≡ c

-- which column that is, if one is
abbrev pub anew_of : Option Start → Option ℕ
anew_of None = None
anew_of (Some (start.Fill c d most)) = Some c
anew_of (Some (start.Resume c most)) = None
anew_of (Some (start.Spread c)) = Some c

-- the columns once that is dead which is to be rebuilt anew; one that is filling and goes on stays so
abbrev pub without : Option Start → List Column → List Column
without None columns = columns
without (Some (start.Fill c d most)) columns = slice_set columns c column.Dead
without (Some (start.Resume c most)) columns = columns
without (Some (start.Spread c)) columns = slice_set columns c column.Dead

-- the column that is to be rebuilt is live on the device onto which it is rebuilt, or filling it; one that goes on is filling
abbrev pub is_in_place : Option Start → List Column → Bool
is_in_place None columns = false
is_in_place (Some (start.Fill c d most)) columns = option_map_or (λ e. e == d) (device_set (slice_get columns c)) false
is_in_place (Some (start.Resume c most)) columns = passes is_set_filling (slice_get columns c)
is_in_place (Some (start.Spread c)) columns = false

-- what is asked, of an array whose columns are these by now, and of which this rebuild begins
abbrev pub opened_as : Work → List Column → Option Start → Work
opened_as a columns began = record a { columns = columns; start = began }

-- a map is kept of an array that was closed in order, where one is asked for
abbrev pub is_kept : Bool → Label → Bool
is_kept map newest = map && (newest.clean == 1)

module _ {D : Type 0} (g : Ghosts D) (a : Work) (newest : Label) (taken : List (Option D)) where
  -- The check units fit the data; or the labels say that the array was in use, and wasn't closed; or they say that it was closed in order, and each stripe that lacks no unit by `columns` and doesn't sum to zero lies in a region that the maps mark of those devices in use that could be read, which the columns `read` have.
  abbrev pub WasSound : (columns read : List Column) → Type 0
  WasSound columns read = WasInSync g a taken ⊎ ((newest.clean ≡ 0) ⊎ ((newest.clean ≡ 1)
      × ((s : ℕ) → IsUnsound a.layout (states_of a.layout columns) (contents_of g taken) s
      → UnionMarks a.layout newest.serial (states_of a.layout read) (contents_of g taken) (region_of a.layout.stripes s))))

  module _ (opened : List (Option D)) (begun : List Column) where
    -- The array was begun: the maps of its devices were read, which left the columns `read` and the devices `looked`; unless it was lost by that, as which it is left as it is, labels were written in an opening round, or, where a map is kept, each device in use got the map `marks` in the place of that; and then check units were swept: all where the newest label said that the array was in use, else those of the stripes that its maps mark. By the columns that are left the array is lost or isn't.
    pub record BeginsLabelled (keeps : Bool) (first : Label) (lost : Option Loss) : Type 0 where
      pub looked : List (Option D)
      pub read : List Column
      pub unread : Option Loss
      pub union : Map
      pub looks : LooksAtMaps g a.layout (unmarked a.layout.stripes newest.serial) union a.columns read taken looked unread
      pub marks : Map
      pub found : ℕ
      pub has : MatchOption unread (HasBegun g (if keeps then Marks marks else Round) (sweeps_in newest union) a.layout newest first read begun looked opened lost found)
          (λ loss. StaysBegun g newest first read begun looked opened × (lost ≡ Some loss))
      pub lost_is : IsLossBy a.layout None (states_of a.layout begun) lost

    -- The block's unit was available, and is of a column that has died since; or it stands there, as the unit of a spread one.
    pub record IsUnmade (b : ℕ) : Type 0 where
      pub col : ℕ
      pub of_column : is_unit_of a.layout (states_of a.layout a.columns) (stripe_of a.layout b) (unit_of a.layout b) col ≡ true
      pub was : is_available a.layout (states_of a.layout a.columns) (stripe_of a.layout b) (unit_of a.layout b) ≡ true
      pub dead : slice_get begun col ≡ Some column.Dead
      pub loses : LosesDevice g a.columns taken opened col

    -- Where it was sound by the columns that were left as maps were read, the array is in sync as the core is opened, once the column is dead that is to be rebuilt; and where it was so by all columns, its blocks are what the devices held as they were taken; or, where the labels said that the array was in use, or the union of its maps had marks, and the block's unit was made missing, the sum of the others of its stripe as they were held then. Where the check units fitted the data then, they are what the devices held.
    pub record HoldsBlocks (read : List Column) (union : Map) (start : Blocks) : Type 0 where
      pub in_sync : g.tells → WasSound read read → InSync a.layout (contents_of g opened) (states_of a.layout (without a.start begun))
      pub blocks : g.tells → WasSound a.columns read → (b : ℕ) → b < blocks_in a.layout
          → ((k : ℕ) → k < 512 → start b k ≡ decode a.layout (contents_of g taken) (states_of a.layout a.columns) b k)
          ⊎ (((newest.clean ≡ 0) ⊎ (is_any_marked union ≡ true)) × IsUnmade b × ((k : ℕ) → k < 512 → start b k
          ≡ xor_others (λ j. byte_of a.layout (contents_of g taken) (states_of a.layout a.columns) (stripe_of a.layout b) j (b % a.layout.unit_sectors) k) (unit_of a.layout b) a.layout.width))
      pub same : g.tells → WasInSync g a taken → (b k : ℕ) → b < blocks_in a.layout → k < 512 → start b k ≡ decode a.layout (contents_of g taken) (states_of a.layout a.columns) b k
