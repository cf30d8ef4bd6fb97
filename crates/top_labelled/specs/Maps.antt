-- Sector 1 of the devices of an array with labels: what it holds behind a run, and when it is written.
use Rattle.std.specs.Prelude.{◌≡◌, ◌⊎◌, ◌≤◌, ℕ, List, ◌∷◌, ◌++◌, Bool, true, false, Option, Some, None, Contains, slice_index}
use Rattle.blk_disk.specs.declared.disk.Call.{Call}
use Rattle.blk_disk.specs.declared.disk.Disk.{Ghosts}
use Rattle.blk_disk.specs.Disk.{call_of}
use Rattle.blk_disk.specs.Devices.{RisesOn, calls_of, sector_of, size_of}
use Rattle.eng_cols.specs.declared.column.Column.{Column}
use Rattle.eng_cols.specs.declared.spot.Loss.{Loss}
use Rattle.eng_world.specs.Planning.{Graphs}
use Rattle.eng_world.specs.World.{World}
use Rattle.raid_label.specs.declared.label.Label.{Label}
use Rattle.raid_map.specs.Regions.{Marks as Map, IsBytesOf, IsMap}
use Rattle.top_acts.specs.Mapped.{is_any_marked, unmarked}
use Rattle.top_run.specs.Work.{Service, Work}
use Rattle.top_labelled.specs.Begun.{is_kept}
use Rattle.top_labelled.specs.Marked.{MarksExactly}
use Rattle.eng_cols.specs.Cols.{HasDeviceOn}

module _ {D : Type 0} (g : Ghosts D) (a : Work) (newest : Label) (taken : List (Option D)) where
  -- sector 1 of device d is what it was, or a map without marks of the array; or, of an array that was closed in order, it is some map of it
  abbrev pub IsKeptOrMap : List (Option D) → ℕ → Type 0
  IsKeptOrMap back d = ((sector_of g back d 1 ≡ sector_of g taken d 1) ⊎ IsBytesOf (unmarked a.layout.stripes newest.serial) (sector_of g back d 1))
      ⊎ ((newest.clean ≡ 1) × ((marks : ℕ → Bool) × IsMap newest.serial a.layout.stripes marks (slice_index (sector_of g back d 1))))

  -- What sector 1 of the devices holds in the end, where it is told, and a device has one. Where no map is asked for and the union of the maps as they were read had no mark, it is what it was. Where one is kept, or the union had a mark, each device in use in the end has a map without marks, unless the array is lost. Where one is asked for, and the array was lost as the core closed, each device that is in use in the end and was as the array was opened has one map, which marks exactly what the union marked and what is asked. All other sectors, of devices whose count of faults didn't rise, are what they were, or maps of the array.
  pub record MapsEnd (s : Service) (back : List (Option D)) (map : Bool) (read : List Column) (union marks : Map) (graphs : Graphs) (now : World) : Type 0 where
    pub untouched : g.tells → map ≡ false → is_any_marked union ≡ false → (d : ℕ) → 2 ≤ size_of g taken d → sector_of g back d 1 ≡ sector_of g taken d 1
    pub cleared : g.tells → (is_kept map newest ≡ true) ⊎ (is_any_marked union ≡ true) → s.ending.lost ≡ None
        → (c d : ℕ) → HasDeviceOn s.ending.columns c d → IsBytesOf (unmarked a.layout.stripes newest.serial) (sector_of g back d 1)
    pub asked : newest.clean ≡ 1 → map ≡ true → MarksExactly a.layout graphs now read a.start union marks
    pub exact : g.tells → newest.clean ≡ 1 → map ≡ true → (loss : Loss) → now.lost ≡ Some loss
        → (c e d : ℕ) → HasDeviceOn a.columns c d → HasDeviceOn s.ending.columns e d → IsBytesOf marks (sector_of g back d 1)
    pub others : g.tells → (d : ℕ) → 2 ≤ size_of g taken d → (RisesOn g taken back d → ⊥) → IsKeptOrMap back d

-- ## The order of writes

-- the call writes a sector of the array's rows
abbrev pub WritesRows : Call → Type 0
WritesRows call = (call.kind ≡ 1) × (64 ≤ call.first)

-- it writes the map
abbrev pub WritesMap : Call → Type 0
WritesMap call = (call.kind ≡ 1) × (call.first ≡ 1)

-- among these calls there is one that writes the map, and a settle that went well behind it
pub record IsMarkedIn (calls : List Call) : Type 0 where
  pub before : List Call
  pub write : Call
  pub between : List Call
  pub after : List Call
  pub split : calls ≡ before ++ write ∷ (between ++ call_of 2 0 0 true ∷ after)
  pub writes : WritesMap write

module _ {D : Type 0} (g : Ghosts D) (a : Work) (taken : List (Option D)) (s : Service) (back : List (Option D)) where
  -- Of each device that tells its calls, by those that came since it was taken: on one that was in use as the array was opened, each write to the rows comes behind a write of the map and a settle behind that. And unless the array is lost, on each device in use in the end whose count of faults didn't rise, the last write of the map comes behind a settle that went well, and no write to the rows comes behind that settle.
  pub record MapsInOrder : Type 0 where
    pub marked : (c d : ℕ) (was came : List Call) → HasDeviceOn a.columns c d → calls_of g taken d ≡ Some was → calls_of g back d ≡ Some (was ++ came)
        → (before after : List Call) (call : Call) → came ≡ before ++ call ∷ after → WritesRows call → IsMarkedIn before
    pub cleared : s.ending.lost ≡ None → (c d : ℕ) (was came : List Call) → HasDeviceOn s.ending.columns c d → (RisesOn g taken back d → ⊥)
        → calls_of g taken d ≡ Some was → calls_of g back d ≡ Some (was ++ came)
        → (before after : List Call) (call : Call) → came ≡ before ++ call ∷ after → WritesMap call → ((later : Call) → Contains after later → WritesMap later → ⊥)
        → (front : List Call) × (back : List Call) × (before ≡ front ++ call_of 2 0 0 true ∷ back) × ((later : Call) → Contains (back ++ call ∷ after) later → WritesRows later → ⊥)
