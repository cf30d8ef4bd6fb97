-- The maps of a labelled array, and how they are read as it is begun with.
use Rattle.std.specs.Prelude.{◌≡◌, ◌≤◌, ◌*◌, ◌++◌, ℕ, List, All, length, Bool, false, Option, None, count_by, nat_lt, replicate}
use Rattle.blk_disk.specs.declared.disk.Call.{Call}
use Rattle.blk_disk.specs.Disk.{call_of}
use Rattle.blk_disk.specs.declared.disk.Disk.{Ghosts}
use Rattle.lay_core.specs.Layout.{Shape}
use Rattle.eng_cols.specs.declared.column.Column.{Column}
use Rattle.eng_cols.specs.declared.spot.Loss.{Loss}
use Rattle.eng_cols.specs.Stripes.{states_of}
use Rattle.raid_map.specs.Reading.{AreRead, Grows, IsUnion}
use Rattle.raid_map.specs.Regions.{Marks as Map, regions_in}
use Rattle.top_close.specs.Ended.{IsLossBy}
use Rattle.top_rounds.specs.Rounds.{in_end}
use Rattle.top_acts.specs.Sweeps.{Notice, Round, Marks}
use Rattle.top_acts.specs.declared.maps.Maps.{Maps}
use Rattle.top_acts.specs.declared.opening.Sweeps as declared_sweeps
use Rattle.top_acts.specs.declared.opening.Sweeps.TheVariants as sweeps

-- a map without marks, for so many stripes of the array of this serial
abbrev pub unmarked : (stripes serial : ℕ) → Map
unmarked stripes serial = record { stripes = stripes; serial = serial; marks = replicate (regions_in stripes) false }

-- a region is marked
abbrev pub is_any_marked : Map → Bool
is_any_marked m = nat_lt 0 (count_by (λ b. b) m.marks)

-- They are maps of an array of this layout, and there is room for the sweep of what is marked.
pub record AreMaps (y : Shape) (m : Maps) : Type 0 where
  pub union : m.union.stripes ≡ y.stripes
  pub marks : m.marks.stripes ≡ y.stripes
  pub room : 1024 * y.unit_sectors ≤ m.room

-- the map by which it is announced is one of an array of this layout
abbrev pub IsOpeningFor : Shape → Notice → Type 0
IsOpeningFor y Round = Unit {0}
IsOpeningFor y (Marks map) = map.stripes ≡ y.stripes

-- so is that whose stripes are swept
abbrev pub FitsLayout : Shape → Notice → declared_sweeps.Sweeps → Type 0
FitsLayout y notice (sweeps.Nothing) = IsOpeningFor y notice
FitsLayout y notice (sweeps.Over kind) = IsOpeningFor y notice
FitsLayout y notice (sweeps.Marked map) = IsOpeningFor y notice × (map.now.stripes ≡ y.stripes)

-- neither of them has a mark
pub record AreUnmarked (y : Shape) (serial : ℕ) (m : Maps) : Type 0 where
  pub union : m.union ≡ unmarked y.stripes serial
  pub marks : m.marks ≡ unmarked y.stripes serial
  pub room : 1024 * y.unit_sectors ≤ m.room

-- The map of each device in use was read, and the union marks what it did and what they mark together. No sector has changed; a column has died where its device failed, and then one that was filling, where the array is lost by that; `read` are the columns between the two.
pub record LooksAtMaps {D : Type 0} (g : Ghosts D) (y : Shape) (before union : Map) (columns after : List Column) (old new : List (Option D)) (lost : Option Loss) : Type 0 where
  pub any : Bool
  pub read : List Column
  pub reads : AreRead g (length columns) columns read old new
  pub grows : Grows before union
  pub union_is : g.tells → IsUnion g y read new before union any
  pub after_is : after ≡ in_end lost read
  pub lost_is : IsLossBy y None (states_of y after) lost

-- ## The calls

-- such reads, and behind them calls of which this is so
abbrev pub ReadsMap : (List Call → Type 0) → List Call → Type 0
ReadsMap P calls =
    (read : List Call) × (rest : List Call) × (calls ≡ read ++ rest)
    × All (λ call. (good : Bool) × (call ≡ call_of 0 1 512 good)) read × P rest
