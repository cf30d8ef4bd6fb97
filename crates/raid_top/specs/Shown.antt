-- Words by which code and proofs go: what the parity map of an array is found to be, where the array is shown, and what is printed of it.
use Rattle.std.specs.Prelude.{◌≡◌, ℕ, List, Bool, false, Option, Some, None, MatchOption, if◌then◌else◌, nat_lt}
use Rattle.std.specs.Option.{option_map_or}
use Rattle.blk_disk.specs.declared.disk.Disk.{Ghosts}
use Rattle.lay_core.specs.Layout.{Shape}
use Rattle.eng_cols.specs.declared.column.Column.{Column}
use Rattle.raid_conf.specs.declared.conf.Conf.{Conf}
use Rattle.raid_label.specs.declared.label.Label.{Label}
use Rattle.raid_map.specs.Regions.{Marks}
use Rattle.top_acts.specs.Mapped.{unmarked}
use Rattle.top_looks.specs.Maps.{map_text}
use Rattle.top_looks.specs.Show.{show_text}
use Rattle.top_looks.specs.declared.map.Marked.{Marked}
use Rattle.top_open.specs.declared.fronts.Front.{Front}
use Rattle.top_open.specs.Opening.{Opened}
use Rattle.raid_top.specs.Found.{IsUnionFound}

-- there is one exactly where the array has labels
abbrev pub IsEmptyMap : Shape → Option Label → Option Marks → Type 0
IsEmptyMap y None map = map ≡ None
IsEmptyMap y (Some l) map = map ≡ Some (unmarked y.stripes l.serial)

module _ {D : Type 0} (g : Ghosts D) where
  -- the same where there is a map to read them into; else no device was called
  abbrev pub MapIs : Option Marks → List Column → List Column → List (Option D) → List (Option D) → Option Marked → Type 0
  MapIs None columns after old new found = (after ≡ columns) × (new ≡ old) × (found ≡ None)
  MapIs (Some map) columns after old new found = IsUnionFound g map columns after old new found

  -- of an array with labels, by its layout and serial; an array without labels has no map
  abbrev pub AreMapsFound : Shape → Option Label → List Column → List Column → List (Option D) → List (Option D) → Option Marked → Type 0
  AreMapsFound y newest columns after old new found = MatchOption newest ((after ≡ columns) × (new ≡ old) × (found ≡ None))
      (λ l. IsUnionFound g (unmarked y.stripes l.serial) columns after old new found)

-- ## What is printed

-- a region is marked
abbrev pub is_any_marked : Option Marked → Bool
is_any_marked found = option_map_or (λ (m : Marked). nat_lt 0 m.marked) found false

-- the map, where that is asked for; else columns, spares and parity
abbrev pub shown_text : (map : Bool) → Conf → Opened → List ℕ → List Front → Option Marked → List ℕ
shown_text map conf o sizes fronts found = if map then map_text found else show_text conf o sizes fronts (is_any_marked found)
