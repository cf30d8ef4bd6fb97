-- Devices in use are marked with a map, or cleared by one without marks.
use Rattle.std.specs.Prelude.{◌≡◌, ◌⊎◌, ℕ, List, All, length, Bool, Option}
use Rattle.blk_disk.specs.declared.disk.Call.{Call}
use Rattle.blk_disk.specs.declared.disk.Disk.{Ghosts}
use Rattle.blk_disk.specs.Disk.{call_of}
use Rattle.blk_disk.specs.Devices.{sector_of}
use Rattle.eng_cols.specs.declared.column.Column.{Column}
use Rattle.raid_map.specs.Marking.{AreMarked}
use Rattle.raid_map.specs.Regions.{Marks as Map, IsBytesOf}
use Rattle.top_acts.specs.Stages.{IsClosing}
use Rattle.top_acts.specs.Sweeps.{Notice, Round, Marks}
use Rattle.eng_cols.specs.Cols.{HasDeviceOn}

-- the calls by which it is announced: label writes and settles; and writes of sector 1 alone, whether they went well or not, where maps are written
abbrev pub AreNotice : Notice → List Call → Type 0
AreNotice Round calls = All IsClosing calls
AreNotice (Marks map) calls = All (λ call. ((good : Bool) × (call ≡ call_of 1 1 512 good)) ⊎ IsClosing call) calls

module _ {D : Type 0} (g : Ghosts D) where
  -- The map was written on each device in use, which was then settled; a column has died where its device failed one of the two, and no other died. Whatever a stop leaves of a device that is in use still, its sector 1 is the map.
  pub record MarksAll (map : Map) (columns after : List Column) (old new : List (Option D)) : Type 0 where
    pub bytes : List ℕ
    pub are : IsBytesOf map bytes
    pub marked : AreMarked g (length columns) bytes columns after old new
    pub held : (c d : ℕ) → HasDeviceOn after c d → g.tells → IsBytesOf map (sector_of g new d 1)
