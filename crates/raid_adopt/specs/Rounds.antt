-- A round of labels, in which nothing but labels is written, and what a stop of the power leaves of it.
use Rattle.std.specs.Prelude.{◌≡◌, ◌≢◌, ℕ, ◌<◌, List, [], ◌∷◌, length, Option, Some, None, slice_index}
use Rattle.eng_cols.specs.declared.column.Column.{Column}
use Rattle.eng_cols.specs.Cols.{HasDeviceOn}
use Rattle.raid_label.specs.declared.label.Label.{Label}
use Rattle.raid_label.specs.Bytes.{bytes_of, label_in}
use Rattle.raid_label.specs.Judged.{fault_in}
use Rattle.raid_map.specs.Stops.{Logged, Stored, SameSector, MayHold}
use Rattle.raid_map.specs.Mapped.{OtherDevices, Settles}

-- The label of a column is written on its device; a device is settled, and answers that it is. A stop may come after any of them.
pub data Event : Type 0 where
  Write : (column device : ℕ) → Event
  Settle : (device : ℕ) → Event

-- who reads 512 bytes that are these has this label
abbrev pub Reads : (ℕ → ℕ) → Label → Type 0
Reads content l = (bytes : List ℕ) → length bytes ≡ 512 → ((k : ℕ) → k < 512 → slice_index bytes k ≡ content k) → label_in bytes ≡ Some l

-- a label of the same array for column c, of whatever round
abbrev pub IsOf : Label → ℕ → Label → Type 0
IsOf r c own = fault_in (Some own) 1 (record r { column = c }) ≡ None

-- they are the bytes of the round's label for column c
abbrev pub IsLabelOf : Label → ℕ → (ℕ → ℕ) → Type 0
IsLabelOf r c content = SameSector content (slice_index (bytes_of (record r { column = c })))

module _ (r : Label) (began : List Column) where
  -- Sector 0 of the column's device is written with the column's label, and no other sector.
  pub record Labels (c d : ℕ) (old new : ℕ → Stored) : Type 0 where
    pub live : HasDeviceOn began c d
    pub others : OtherDevices d old new
    pub rest : (n k : ℕ) → n ≢ 0 → (new d).now n k ≡ (old d).now n k
    pub settled : (n k : ℕ) → (new d).settled n k ≡ (old d).settled n k
    pub entry : Logged
    pub logged : (new d).logged ≡ entry ∷ (old d).logged
    pub sector : entry.sector ≡ 0
    pub label : IsLabelOf r c entry.bytes
    pub now : IsLabelOf r c ((new d).now 0)

  abbrev pub Leads : Event → (ℕ → Stored) → (ℕ → Stored) → Type 0
  Leads (Write c d) old new = Labels c d old new
  Leads (Settle d) old new = Settles d old new

  -- these events lead from start to now, the newest first; columns are labelled in any order, and any of them
  abbrev pub RoundRun : (ℕ → Stored) → List Event → (ℕ → Stored) → Type 0
  RoundRun start [] now = (d : ℕ) → now d ≡ start d
  RoundRun start (e ∷ events) now = (mid : ℕ → Stored) × RoundRun start events mid × Leads e mid now

  -- How a round finds the devices, whatever a stop leaves of them: what they hold is one of these; each device in use has a label of its column, of an earlier round; and no device has one that is as new as the round's.
  pub record MayBegin (start : ℕ → Stored) : Type 0 where
    pub may_hold : (d n : ℕ) → MayHold (start d) n ((start d).now n)
    pub own : (c d : ℕ) (content : ℕ → ℕ) → HasDeviceOn began c d → MayHold (start d) 0 content → (l : Label) × Reads content l × IsOf r c l
    pub older : (d : ℕ) (content : ℕ → ℕ) (l : Label) → MayHold (start d) 0 content → Reads content l → l.counter < r.counter
