-- What a scan finds, or how it is refused.
use Rattle.std.specs.Prelude.{◌≡◌, ◌≤◌, ◌⊎◌, List, length, map, Option, Result, Ok, []}
use Rattle.blk_disk.specs.declared.disk.Disk.{Ghosts}
use Rattle.raid_assemble.specs.Sets.{IsGrouping}
use Rattle.raid_assemble.specs.declared.sets.Set.{Set}
use Rattle.raid_assemble.specs.declared.sets.Standing.{Standing}
use Rattle.raid_text.specs.Text.{Text, lines_in}
use Rattle.top_fetch.specs.Fetched.{there_are, or_status}
use Rattle.top_open.specs.declared.fronts.Front.{Front}
use Rattle.top_scan.specs.List.{names_behind}
use Rattle.top_status.specs.Refusals.{Refused, ◌then◌, text_in}
use Rattle.top_status.specs.declared.status.Status.TheVariants as status
use Rattle.top_open.specs.Labels.{label_of}
use Rattle.top_scan.specs.Looks.{AreLookedAt}

-- the names of the list of this name
unfoldable pub list_in : (Text → Option Text) → Text → Result (List Text) Refused
list_in texts list =
    text_in texts list then λ text.
    or_status (λ at. status.Conf at.line at.code) (names_behind [] (lines_in text))

-- those whose devices are all at home
unfoldable pub names_in : {D : Type 0} → (Text → Option Text) → (Text → Option D) → Text
    → Result (List Text) Refused
names_in texts home list =
    list_in texts list then λ names. there_are home names then λ there. Ok names

-- A scan that was refused has called no device; or these are the names of the list, and of the first of them each device was looked at, and no other was called.
abbrev pub IsScannedInPart : {D : Type 0} → Ghosts D → (tells : Type 0) → (Text → Option Text)
    → (home now : Text → Option D) → Text → Type 0
IsScannedInPart g tells texts home now list = ((n : Text) → now n ≡ home n)
    ⊎ ((names : List Text) × (list_in texts list ≡ Ok names) × (fronts : List Front) × AreLookedAt g tells home now names fronts)

-- There is a front for each name, at most 1,024; and these are the sets of their labels.
pub record IsComplete (names : List Text) (fronts : List Front) (sets : List Set)
    (places : List Standing) : Type 0 where
  pub count : length fronts ≡ length names
  pub few : length names ≤ 1024
  pub grouping : IsGrouping (map label_of fronts) sets places
