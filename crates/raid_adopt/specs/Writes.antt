-- A run without a map: rows that are written behind its opening round, and what a stop of the power leaves of it.
use Rattle.std.specs.Prelude.{◌≡◌, ◌≢◌, ℕ, ◌≤◌, List, [], ◌∷◌, ◌++◌, Contains}
use Rattle.eng_cols.specs.declared.column.Column.{Column}
use Rattle.eng_cols.specs.Cols.{ColumnState, HasDevice, HasDeviceOn}
use Rattle.raid_map.specs.Stops.{Logged, Stored}
use Rattle.raid_map.specs.Mapped.{OtherDevices, Settles}
use Rattle.raid_adopt.specs.Rounds.{Event, Write, Settle}

-- A sector of the rows is written on a device, well or not; a device is settled, and answers that it is. A stop may come after any of them.
pub data RowEvent : Type 0 where
  WriteRow : (device : ℕ) → RowEvent
  SettleRows : (device : ℕ) → RowEvent

-- One sector of the device's rows is written, or a part of it, and no other sector.
pub record WritesRow (d : ℕ) (old new : ℕ → Stored) : Type 0 where
  pub others : OtherDevices d old new
  pub entry : Logged
  pub row : 64 ≤ entry.sector
  pub rest : (n k : ℕ) → n ≢ entry.sector → (new d).now n k ≡ (old d).now n k
  pub settled : (n k : ℕ) → (new d).settled n k ≡ (old d).settled n k
  pub logged : (new d).logged ≡ entry ∷ (old d).logged

abbrev pub RowLeads : RowEvent → (ℕ → Stored) → (ℕ → Stored) → Type 0
RowLeads (WriteRow d) old new = WritesRow d old new
RowLeads (SettleRows d) old new = Settles d old new

-- these events lead from start to now, the newest first
abbrev pub RowsRun : (ℕ → Stored) → List RowEvent → (ℕ → Stored) → Type 0
RowsRun start [] now = (d : ℕ) → now d ≡ start d
RowsRun start (e ∷ events) now = (mid : ℕ → Stored) × RowsRun start events mid × RowLeads e mid now

-- the device got the column's label, and was settled behind the last one that it got
pub record IsSettledBehind (events : List Event) (c d : ℕ) : Type 0 where
  pub later : List Event
  pub before : List Event
  pub split : events ≡ later ++ Settle d ∷ before
  pub labelled : Contains before (Write c d)
  pub last : (k : ℕ) → Contains later (Write k d) → ⊥

-- so it is of each device in use
abbrev pub AreSettledBehind : List Column → List Event → Type 0
AreSettledBehind began events = (c d : ℕ) → HasDeviceOn began c d → IsSettledBehind events c d

-- the device was settled behind the last write of its rows
pub record IsAtRest (events : List RowEvent) (d : ℕ) : Type 0 where
  pub later : List RowEvent
  pub before : List RowEvent
  pub split : events ≡ later ++ SettleRows d ∷ before
  pub last : Contains later (WriteRow d) → ⊥

-- so it is of each device in use
abbrev pub AreAtRest : List ColumnState → List RowEvent → Type 0
AreAtRest cols events = (c d : ℕ) → HasDevice cols c d → IsAtRest events d
