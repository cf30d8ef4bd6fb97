-- What a sweep has changed and counted, said of the stripes as they are before it and behind it.
use Rattle.std.specs.Prelude.{◌≡◌, ℕ, ◌+◌, ◌*◌, ◌<◌, ◌≤◌, Bool, true, ◌⊎◌, All, List, [], ◌∷◌, ◌++◌, Option, Some}
use Rattle.blk_disk.specs.declared.disk.Call.{Call}
use Rattle.blk_disk.specs.declared.disk.Disk.{Ghosts}
use Rattle.blk_disk.specs.Devices.{contents_of}
use Rattle.lay_core.specs.Layout.{Shape, data_units}
use Rattle.eng_cols.specs.declared.column.Column.{Column}
use Rattle.eng_cols.specs.declared.spot.Spot.{Spot}
use Rattle.eng_cols.specs.Cols.{ColumnState}
use Rattle.eng_cols.specs.Seats.{is_available, seat}
use Rattle.eng_cols.specs.Contents.{byte_of}
use Rattle.raid_recon.specs.declared.kind.Sweep.{Sweep}
use Rattle.raid_recon.specs.declared.kind.Sweep.TheVariants.{Check, Sync, Init}
use Rattle.eng_cols.specs.Stripes.{states_of}
use Rattle.raid_recon.specs.Array.{IsComplete, IsCheckSector}
use Rattle.raid_recon.specs.Sums.{IsNotZero, HoldsSum}
use Rattle.raid_recon.specs.Turns.{Rewrites, call_at}
use Rattle.lay_core.specs.Touched.{count_below}
use Rattle.blk_disk.specs.Disk.{ToldOn}

-- a stripe that lacks no unit is to be counted: at an initialisation any, else one whose sum isn't zero
abbrev pub IsToCount : Sweep → Type 0 → Type 0
IsToCount Check not_zero = not_zero
IsToCount Sync not_zero = not_zero
IsToCount Init not_zero = Unit {0}

-- Each check unit of a stripe that lacked no unit, if it is available in the end, holds the sum of its stripe's data units, or what it held.
abbrev pub ChecksHold : {D : Type 0} → Ghosts D → Shape → (columns after : List Column) (old new : List (Option D)) → Type 0
ChecksHold g y columns after old new = (s : ℕ) → s < y.stripes → IsComplete y (states_of y columns) s → is_available y (states_of y after) s (data_units y) ≡ true
    → HoldsSum y (contents_of g new) (states_of y columns) s ⊎ ((o k : ℕ) → o < y.unit_sectors → byte_of y (contents_of g new) (states_of y columns) s (data_units y) o k ≡ byte_of y (contents_of g old) (states_of y columns) s (data_units y) o k)

module _ {D : Type 0} (g : Ghosts D) (kind : Sweep) (y : Shape) where
  -- Sector n of device d is one of the check unit of a stripe that lacked no unit, and that this sweep rewrites.
  pub record MayRewrite (columns : List Column) (old : List (Option D)) (d n : ℕ) : Type 0 where
    pub stripe : ℕ
    pub within : stripe < y.stripes
    pub complete : IsComplete y (states_of y columns) stripe
    pub why : Rewrites kind (g.tells → IsNotZero y (contents_of g old) (states_of y columns) stripe)
    pub sector : IsCheckSector y (states_of y columns) stripe d n

  -- Counted were at most the stripes that lacked no unit and were due, and at least those of them that still lack none.
  pub record IsCounted (columns after : List Column) (old : List (Option D)) (n : ℕ) : Type 0 where
    pub most : (p : ℕ → Bool) → ((s : ℕ) → s < y.stripes → IsComplete y (states_of y columns) s → IsToCount kind (g.tells → IsNotZero y (contents_of g old) (states_of y columns) s) → p s ≡ true) → n ≤ count_below p y.stripes
    pub least : (p : ℕ → Bool) → ((s : ℕ) → s < y.stripes → p s ≡ true → IsComplete y (states_of y after) s × IsToCount kind (g.tells × IsNotZero y (contents_of g old) (states_of y columns) s)) → count_below p y.stripes ≤ n

-- ## Calls

-- each call that has another behind it was good
abbrev pub AreGoodButLast : List Call → Type 0
AreGoodButLast [] = Unit {0}
AreGoodButLast (c ∷ []) = Unit {0}
AreGoodButLast (c ∷ (d ∷ cs)) = (c.good ≡ true) × AreGoodButLast (d ∷ cs)

-- A read of a whole unit that stands on the device, or a write of a whole check unit there.
pub record IsUnitCall (y : Shape) (cols : List ColumnState) (d : ℕ) (call : Call) : Type 0 where
  pub stripe : ℕ
  pub unit : ℕ
  pub at : Spot
  pub in_array : stripe < y.stripes
  pub in_stripe : unit < y.width
  pub stands : seat y cols stripe unit ≡ Some at
  pub device : d ≡ at.device
  pub call_is : (kind : ℕ) × (call ≡ call_at y.unit_sectors at kind call.good) × ((kind ≡ 0) ⊎ ((kind ≡ 1) × (unit ≡ data_units y)))

-- Where the calls are told, those that came are of whole units, and none is behind one that failed.
abbrev pub CallsUnits : Shape → List ColumnState → ℕ → Option (List Call) → Option (List Call) → Type 0
CallsUnits y cols d before now = ToldOn (λ (was : List Call) (is : List Call). (more : List Call) × (is ≡ was ++ more) × AreGoodButLast more × All (IsUnitCall y cols d) more) before now

-- A read of rows that begins with a unit that stands on the device, and goes no further than the rows do, at most 64 KiB or one unit; or a write of a whole check unit there.
pub record IsRowsCall (y : Shape) (cols : List ColumnState) (d : ℕ) (call : Call) : Type 0 where
  pub stripe : ℕ
  pub unit : ℕ
  pub at : Spot
  pub in_array : stripe < y.stripes
  pub in_stripe : unit < y.width
  pub stands : seat y cols stripe unit ≡ Some at
  pub device : d ≡ at.device
  pub call_is : ((rows : ℕ) × (1 ≤ rows) × (rows * y.unit_sectors ≤ 128) × (at.row + rows ≤ y.rows) × (call ≡ record { kind = 0; first = 64 + at.row * y.unit_sectors; count = rows * y.unit_sectors; good = call.good }))
      ⊎ ((unit ≡ data_units y) × (call ≡ call_at y.unit_sectors at 1 call.good))

-- Where the calls are told, those that came are such, and none is behind one that failed.
abbrev pub CallsRows : Shape → List ColumnState → ℕ → Option (List Call) → Option (List Call) → Type 0
CallsRows y cols d before now = ToldOn (λ (was : List Call) (is : List Call). (more : List Call) × (is ≡ was ++ more) × AreGoodButLast more × All (IsRowsCall y cols d) more) before now
