-- What the union of the parity maps is found to be, where an array is shown.
use Rattle.std.specs.Prelude.{◌≡◌, List, length, Bool, Option, Some, None, count_by, if◌then◌else◌}
use Rattle.blk_disk.specs.declared.disk.Disk.{Ghosts}
use Rattle.lay_core.specs.Layout.{Shape}
use Rattle.eng_cols.specs.declared.column.Column.{Column}
use Rattle.raid_map.specs.Reading.{AreRead, IsUnion}
use Rattle.raid_map.specs.Regions.{Marks, regions_in}
use Rattle.top_looks.specs.declared.map.Marked.{Marked}

module _ {D : Type 0} (g : Ghosts D) where
  -- The maps of the devices in use were read: each of these had one call more, to read its sector 1, and its column is dead where that failed; no sector has changed. Into a map that had no marks came what the union of the maps marks, and it is told how many regions there are and how many of them are marked, unless no device has a map.
  pub record IsUnionFound (map : Marks) (columns after : List Column) (old new : List (Option D)) (found : Option Marked) : Type 0 where
    pub marks : Marks
    pub any : Bool
    pub read : AreRead g (length columns) columns after old new
    pub union : g.tells → (y : Shape) → y.stripes ≡ map.stripes → IsUnion g y after new map marks any
    pub found_is : found ≡ (if any then Some (record { regions = regions_in marks.stripes; marked = count_by (λ b. b) marks.marks }) else None)
