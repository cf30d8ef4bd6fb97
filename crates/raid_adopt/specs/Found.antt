-- What an opening that adopts finds of an array whose labels were being written as it was stopped.
use Rattle.std.specs.Prelude.{◌≡◌, ◌⊎◌, ℕ, ◌+◌, ◌<◌, ◌≤◌, ◌==◌, List, [], length, Bool, true, Option, Some, None, if◌then◌else◌, option_map, slice_get, slice_index}
use Rattle.eng_cols.specs.declared.column.Column.{Column}
use Rattle.eng_cols.specs.declared.column.Column.TheVariants as column
use Rattle.eng_cols.specs.Cols.{HasDeviceOn}
use Rattle.eng_cols.specs.Contents.{Contents}
use Rattle.raid_label.specs.declared.label.Label.{Label}
use Rattle.top_open.specs.declared.fronts.Front.{Front}
use Rattle.top_open.specs.declared.fronts.Front.TheVariants.{Away, Unread, Held}
use Rattle.top_open.specs.declared.plan.Plan.{Plan}
use Rattle.top_open.specs.Labels.{label_at}
use Rattle.top_open.specs.Plan.{is_present}
use Rattle.top_rounds.specs.Labels.{seating_in, seating_of}
use Rattle.raid_map.specs.Stops.{Stored}
use Rattle.raid_adopt.specs.Rounds.{IsOf, Reads}

-- the device is the column's own disk, which isn't absent, or one of the spares
abbrev pub IsPlaced : Plan → List Bool → ℕ → ℕ → Type 0
IsPlaced p present c d = ((d ≡ c) × (is_present present c ≡ true)) ⊎ ((length present ≤ d) × (d < length present + p.spares))

-- the configuration can have such a column
abbrev pub IsConfigured : Plan → List Bool → ℕ → Column → Type 0
IsConfigured p present c (column.Live d) = IsPlaced p present c d
IsConfigured p present c column.Dead = Unit {0}
IsConfigured p present c (column.Filling d m) = IsPlaced p present c d
IsConfigured p present c column.Spread = p.level ≡ 68

-- The configuration has these columns, each with a device of its own, of which at most one is filling and at most one spread; and the label is one of a round that was begun with them.
pub record IsRound (p : Plan) (present : List Bool) (began : List Column) (r : Label) : Type 0 where
  pub seating : seating_in r ≡ seating_of began
  pub count : length began ≡ length present
  pub most : length began ≤ 32
  pub configured : (c : ℕ) (x : Column) → slice_get began c ≡ Some x → IsConfigured p present c x
  pub apart : (c k d : ℕ) → HasDeviceOn began c d → HasDeviceOn began k d → c ≡ k
  pub filling : (c k d e m n : ℕ) → slice_get began c ≡ Some (column.Filling d m) → slice_get began k ≡ Some (column.Filling e n) → c ≡ k
  pub spread : (c k : ℕ) → slice_get began c ≡ Some column.Spread → slice_get began k ≡ Some column.Spread → c ≡ k

-- the device of each column has a label of that column, of whatever round
abbrev pub HaveLabels : List Column → Label → List Front → Type 0
HaveLabels began r fronts = (c d : ℕ) → HasDeviceOn began c d → (own : Label) × (label_at fronts d ≡ Some own) × IsOf r c own

-- how a column is opened again: one that was filling is so where the labels are clean, and else dead
abbrev pub reopened : Label → Column → Column
reopened r (column.Live d) = column.Live d
reopened r column.Dead = column.Dead
reopened r (column.Filling d m) = if r.clean == 1 then column.Filling d m else column.Dead
reopened r column.Spread = column.Spread

-- each of the columns that were opened is that of the round
abbrev pub AreReopened : Label → (began opened : List Column) → Type 0
AreReopened r began opened = (c : ℕ) → slice_get opened c ≡ option_map (reopened r) (slice_get began c)

-- the front of device d is what stands in its sector 0, where that was read
abbrev pub IsFrontIn : Contents → ℕ → Front → Type 0
IsFrontIn image d Away = Unit {0}
IsFrontIn image d Unread = Unit {0}
IsFrontIn image d (Held bytes) = (length bytes ≡ 512) × ((k : ℕ) → k < 512 → slice_index bytes k ≡ image d 0 k)

-- The fronts are what was read of the image, and each device in use was read.
pub record AreFrontsIn (image : Contents) (began : List Column) (fronts : List Front) : Type 0 where
  pub each : (d : ℕ) (front : Front) → slice_get fronts d ≡ Some front → IsFrontIn image d front
  pub read : (c d : ℕ) → HasDeviceOn began c d → (bytes : List ℕ) × (slice_get fronts d ≡ Some (Held bytes))

-- ## As an array is opened

-- nothing is logged of the devices: a stop leaves what they hold
pub record AreSettled (start : ℕ → Stored) : Type 0 where
  pub same : (d n k : ℕ) → (start d).settled n k ≡ (start d).now n k
  pub none : (d : ℕ) → (start d).logged ≡ []

-- The fronts are what was read of the devices, and one that wasn't read has no label.
pub record AreAllRead (start : ℕ → Stored) (fronts : List Front) : Type 0 where
  pub each : (d : ℕ) (front : Front) → slice_get fronts d ≡ Some front → IsFrontIn (λ k. (start k).now) d front
  pub read : (d : ℕ) → ((bytes : List ℕ) × (slice_get fronts d ≡ Some (Held bytes))) ⊎ ((l : Label) → Reads ((start d).now 0) l → ⊥)
