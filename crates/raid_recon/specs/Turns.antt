-- What becomes of one stripe as a sweep comes to it.
use Rattle.std.specs.Prelude.{◌≡◌, ℕ, zero, suc, ◌+◌, ◌*◌, ◌<◌, List, [], ◌∷◌, ◌++◌, Bool, true, false, Option, Some, None, ◌==◌, slice_set}
use Rattle.blk_disk.specs.declared.disk.Call.{Call}
use Rattle.blk_disk.specs.declared.disk.Disk.{Ghosts}
use Rattle.blk_disk.specs.Devices.{RisesOn, Changes, contents_of, calls_of}
use Rattle.lay_core.specs.Layout.{Shape, data_units}
use Rattle.eng_cols.specs.declared.column.Column.{Column}
use Rattle.eng_cols.specs.declared.column.Column.TheVariants as column
use Rattle.eng_cols.specs.declared.spot.Spot.{Spot}
use Rattle.eng_cols.specs.Cols.{ColumnState}
use Rattle.eng_cols.specs.Seats.{seat, is_available}
use Rattle.eng_cols.specs.Contents.{Contents}
use Rattle.raid_recon.specs.declared.kind.Sweep.{Sweep}
use Rattle.raid_recon.specs.declared.kind.Sweep.TheVariants.{Check, Sync, Init}
use Rattle.eng_cols.specs.Stripes.{states_of}
use Rattle.raid_recon.specs.Array.{IsComplete, IsCheckSector}
use Rattle.raid_recon.specs.Sums.{IsZero, IsNotZero, HoldsSum}
use Rattle.blk_disk.specs.Disk.{ToldOn}
use Rattle.std.specs.Option.{option_map_or}

-- A stripe's turn. It lacked a unit and was left alone; or the read of this unit failed; or its units were read, and their sum was zero or wasn't, and nothing was written; or its check unit was written, or that write failed.
pub data Turn : Type 0 where
  Left : Turn
  Unread : (unit : ℕ) → Turn
  Sound : Turn
  Unsound : Turn
  Written : Turn
  Unwritten : Turn

-- ## Calls

-- Where the calls are told now, they were told before, and have these behind them.
abbrev pub TellsMore : Option (List Call) → Option (List Call) → List Call → Type 0
TellsMore before now calls = ToldOn (λ (was : List Call) (is : List Call). is ≡ was ++ calls) before now

-- a call of a whole unit of u sectors, of a kind, where it stands
abbrev pub call_at : ℕ → Spot → ℕ → Bool → Call
call_at u at kind good = record { kind = kind; first = 64 + at.row * u; count = u; good = good }

-- the calls of device d that this call is: itself, or none where it is another device's
abbrev pub call_if : Bool → Call → List Call
call_if true call = call ∷ []
call_if false call = []

abbrev pub seat_calls : Shape → Option Spot → ℕ → Bool → ℕ → List Call
seat_calls y None kind good d = []
seat_calls y (Some at) kind good d = call_if (d == at.device) (call_at y.unit_sectors at kind good)

-- the calls of device d as the stripe's first n units are read, one call a unit
abbrev pub read_calls : Shape → List ColumnState → ℕ → ℕ → ℕ → List Call
read_calls y cols s zero d = []
read_calls y cols s (suc n) d = read_calls y cols s n d ++ seat_calls y (seat y cols s n) 0 true d

-- how many units of a stripe are read, before anything is written: all, or the data units alone where the check unit is made whatever it held
abbrev pub units_read : Sweep → Shape → ℕ
units_read Check y = y.width
units_read Sync y = y.width
units_read Init y = data_units y

-- the calls of device d in a stripe's turn: its reads, and then at most one write
abbrev pub turn_calls : Sweep → Shape → List ColumnState → ℕ → Turn → ℕ → List Call
turn_calls kind y cols s Left d = []
turn_calls kind y cols s (Unread i) d = read_calls y cols s i d ++ seat_calls y (seat y cols s i) 0 false d
turn_calls kind y cols s Sound d = read_calls y cols s (units_read kind y) d
turn_calls kind y cols s Unsound d = read_calls y cols s (units_read kind y) d
turn_calls kind y cols s Written d = read_calls y cols s (units_read kind y) d ++ seat_calls y (seat y cols s (data_units y)) 1 true d
turn_calls kind y cols s Unwritten d = read_calls y cols s (units_read kind y) d ++ seat_calls y (seat y cols s (data_units y)) 1 false d

-- ## What a turn does

-- it counts: the stripe was found not to be in sync, or its check unit was rewritten, and it met no failure
abbrev pub does_count : Turn → Bool
does_count Left = false
does_count (Unread i) = false
does_count Sound = false
does_count Unsound = true
does_count Written = true
does_count Unwritten = false

-- its check unit was written, or that was tried
abbrev pub does_write : Turn → Bool
does_write Left = false
does_write (Unread i) = false
does_write Sound = false
does_write Unsound = false
does_write Written = true
does_write Unwritten = true

-- where the call was made that failed
abbrev pub failed_at : Shape → List ColumnState → ℕ → Turn → Option Spot
failed_at y cols s Left = None
failed_at y cols s (Unread i) = seat y cols s i
failed_at y cols s Sound = None
failed_at y cols s Unsound = None
failed_at y cols s Written = None
failed_at y cols s Unwritten = seat y cols s (data_units y)

-- the column whose device failed is dead
abbrev pub dead_at : List Column → Option Spot → List Column
dead_at columns place = option_map_or (λ (at : Spot). slice_set columns at.column column.Dead) place columns

-- the columns behind a stripe's turn
abbrev pub columns_after : Shape → List Column → ℕ → Turn → List Column
columns_after y columns s turn = dead_at columns (failed_at y (states_of y columns) s turn)

-- ## Which turn a stripe has

-- a sweep rewrites the check unit: a check doesn't, a sync where the sum isn't zero, an initialisation always
abbrev pub Rewrites : Sweep → Type 0 → Type 0
Rewrites Check not_zero = ⊥
Rewrites Sync not_zero = not_zero
Rewrites Init not_zero = Unit {0}

-- it leaves a sum that isn't zero
abbrev pub is_check : Sweep → Bool
is_check Check = true
is_check Sync = false
is_check Init = false

-- it looks at the sum
abbrev pub is_init : Sweep → Bool
is_init Check = false
is_init Sync = false
is_init Init = true

-- What is so of the turn, by these columns and contents, where contents are told. A stripe that was left alone lacks a unit.
abbrev pub IsTurn : Type 0 → Sweep → Shape → Contents → List ColumnState → ℕ → Turn → Type 0
IsTurn told kind y contents cols s Left = (i : ℕ) × (i < y.width) × (is_available y cols s i ≡ false)
IsTurn told kind y contents cols s (Unread i) = IsComplete y cols s × (i < units_read kind y)
IsTurn told kind y contents cols s Sound = IsComplete y cols s × ((is_init kind ≡ false) × (told → IsZero y contents cols s))
IsTurn told kind y contents cols s Unsound = IsComplete y cols s × ((is_check kind ≡ true) × (told → IsNotZero y contents cols s))
IsTurn told kind y contents cols s Written = IsComplete y cols s × Rewrites kind (told → IsNotZero y contents cols s)
IsTurn told kind y contents cols s Unwritten = IsComplete y cols s × Rewrites kind (told → IsNotZero y contents cols s)

-- One stripe's turn: which it is, what changed (sectors of its check unit, where that was written), what the check unit then holds, whose device failed, and that these calls were made.
pub record IsVisitBy {D : Type 0} (g : Ghosts D) (kind : Sweep) (y : Shape) (cols : List ColumnState) (s : ℕ) (old new : List (Option D)) (turn : Turn) (calls : ℕ → List Call) : Type 0 where
  pub is : IsTurn g.tells kind y (contents_of g old) cols s turn
  pub frame : Changes g (λ d n. (does_write turn ≡ true) × IsCheckSector y cols s d n) old new
  pub sum : g.tells → turn ≡ Written → HoldsSum y (contents_of g new) cols s
  pub cause : (at : Spot) → failed_at y cols s turn ≡ Some at → RisesOn g old new at.device
  pub told : (d : ℕ) → TellsMore (calls_of g old d) (calls_of g new d) (calls d)

-- one where each unit was read by a call of its own
abbrev pub IsVisit : {D : Type 0} → Ghosts D → Sweep → Shape → List ColumnState → ℕ → (old new : List (Option D)) → Turn → Type 0
IsVisit g kind y cols s old new turn = IsVisitBy g kind y cols s old new turn (turn_calls kind y cols s turn)
