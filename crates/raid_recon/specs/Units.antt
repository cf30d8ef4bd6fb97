-- One call of a whole unit, and the calls by which a stripe is read and its check unit written.
use Rattle.std.specs.Prelude.{◌≡◌, ℕ, suc, ◌+◌, ◌*◌, ◌<◌, ◌++◌, ◌==◌, List, Bool, true, false, Option, Some, None, Result, Ok, Err, is_ok, IfErr, length, slice_index}
use Rattle.blk_disk.specs.declared.disk.Call.{Call}
use Rattle.blk_disk.specs.declared.disk.Disk.{Ghosts}
use Rattle.blk_disk.specs.Sectors.{put}
use Rattle.blk_disk.specs.Devices.{RisesOn, Changes, contents_of, calls_of}
use Rattle.lay_core.specs.Layout.{Shape, data_units}
use Rattle.eng_cols.specs.declared.column.Column.{Column}
use Rattle.eng_cols.specs.declared.spot.Spot.{Spot}
use Rattle.eng_cols.specs.Cols.{ColumnState}
use Rattle.eng_cols.specs.Seats.{seat}
use Rattle.eng_cols.specs.Contents.{Contents, byte_of}
use Rattle.raid_recon.specs.declared.ahead.ColumnWindows.{ColumnWindows}
use Rattle.raid_recon.specs.declared.ahead.Rows.{Rows}
use Rattle.raid_recon.specs.declared.kind.FailedAt.{FailedAt}
use Rattle.raid_recon.specs.declared.kind.Sweep.{Sweep}
use Rattle.eng_cols.specs.Stripes.{states_of}
use Rattle.raid_recon.specs.Sums.{sum_of, IsZero, IsNotZero}
use Rattle.raid_recon.specs.Turns.{Turn, TellsMore, call_if, call_at, failed_at, does_count, columns_after, turn_calls, IsVisitBy}
use Rattle.raid_recon.specs.Ahead.{Agrees, Holds, seat_rows, seat_reads, read_rows, reads_ahead, turn_rows, turn_ahead}

-- sector n of device d is one of the unit of u sectors that stands there
pub record IsThere (at : Spot) (u d n : ℕ) : Type 0 where
  pub offset : ℕ
  pub device : d ≡ at.device
  pub within : offset < u
  pub sector : n ≡ 64 + at.row * u + offset

-- the bytes are the sum of the stripe's first n units
abbrev pub IsSum : Shape → Contents → List ColumnState → ℕ → ℕ → List ℕ → Type 0
IsSum y contents cols s n bytes = (o k : ℕ) → o < y.unit_sectors → k < 512 → slice_index bytes (512 * o + k) ≡ sum_of y contents cols s n o k

-- a call on so many sectors, from the first of the unit of u sectors that stands there
abbrev pub call_from : ℕ → Spot → (kind count : ℕ) → Bool → Call
call_from u at kind count good = record { kind = kind; first = 64 + at.row * u; count = count; good = good }

-- the bytes from this one on are unit i of the stripe
abbrev pub IsUnitAt : Shape → Contents → List ColumnState → ℕ → ℕ → List ℕ → ℕ → Type 0
IsUnitAt y contents cols s i bytes from = (o k : ℕ) → o < y.unit_sectors → k < 512 → slice_index bytes (from + (512 * o + k)) ≡ byte_of y contents cols s i o k

-- from these places on the bytes are the stripe's first n units
abbrev pub AreUnitsAt : Shape → Contents → List ColumnState → ℕ → ℕ → List ℕ → List ℕ → Type 0
AreUnitsAt y contents cols s n bytes places = (i : ℕ) → i < n → IsUnitAt y contents cols s i bytes (slice_index places i)

module _ {D : Type 0} (g : Ghosts D) where
  -- So many sectors were read from the one on that stands there, or its device failed. No sector changed.
  pub record IsRead (at : Spot) (u count : ℕ) (old new : List (Option D)) (into : List ℕ) (good : Bool) : Type 0 where
    pub same : Changes g (λ d n. ⊥) old new
    pub bytes : good ≡ true → g.tells → (o k : ℕ) → o < count → k < 512 → slice_index into (512 * o + k) ≡ contents_of g old at.device (64 + at.row * u + o) k
    pub cause : good ≡ false → RisesOn g old new at.device
    pub told : (d : ℕ) → TellsMore (calls_of g old d) (calls_of g new d) (call_if (d == at.device) (call_from u at 0 count good))

  -- They were read into a part of these bytes, from this sector of them on; no other byte has changed.
  pub record IsReadInto (at : Spot) (u count : ℕ) (old new : List (Option D)) (first : ℕ) (before after : List ℕ) (good : Bool) : Type 0 where
    pub part : List ℕ
    pub long : length part ≡ 512 * count
    pub read : IsRead at u count old new part good
    pub put_is : after ≡ put before first part

  -- It was written, or its device failed. No other sector changed.
  pub record IsWritten (at : Spot) (u : ℕ) (old new : List (Option D)) (from : List ℕ) (good : Bool) : Type 0 where
    pub frame : Changes g (IsThere at u) old new
    pub bytes : good ≡ true → g.tells → (o k : ℕ) → o < u → k < 512 → contents_of g new at.device (64 + at.row * u + o) k ≡ slice_index from (512 * o + k)
    pub cause : good ≡ false → RisesOn g old new at.device
    pub told : (d : ℕ) → TellsMore (calls_of g old d) (calls_of g new d) (call_if (d == at.device) (call_at u at 1 good))

  -- These rows are at hand: each device's are its column's, and of the stripes from this one on they are what the devices hold.
  pub record IsAhead (y : Shape) (windows : ColumnWindows) (cols : List ColumnState) (s : ℕ) (rows : ℕ → Rows) (devices : List (Option D)) (hands : List Rows) (bytes : List ℕ) : Type 0 where
    pub agrees : Agrees cols rows hands
    pub holds : g.tells → Holds y windows (contents_of g devices) cols s rows bytes

  -- Unit i of the stripe was at hand, or was read with the rows behind it, or that device failed.
  pub record LoadsUnit (y : Shape) (windows : ColumnWindows) (cols : List ColumnState) (s i : ℕ) (rows : ℕ → Rows) (old new : List (Option D)) (hands : List Rows) (bytes : List ℕ) (result : Result ℕ FailedAt) : Type 0 where
    pub at : Spot
    pub stands : seat y cols s i ≡ Some at
    pub same : Changes g (λ d n. ⊥) old new
    pub told : (d : ℕ) → TellsMore (calls_of g old d) (calls_of g new d) (seat_reads y windows.most (Some at) (is_ok result) d (rows d))
    pub ahead : IsAhead y windows cols s (λ d. seat_rows y windows.most (Some at) (is_ok result) d (rows d)) new hands bytes
    pub unit : (from : ℕ) → result ≡ Ok from → g.tells → IsUnitAt y (contents_of g old) cols s i bytes from
    pub column : IfErr result (λ e. e.column ≡ at.column)
    pub cause : is_ok result ≡ false → RisesOn g old new at.device

  -- the check unit was written where it stands, or that device failed
  pub record WritesCheck {A : Type 0} (y : Shape) (cols : List ColumnState) (s : ℕ) (old new : List (Option D)) (from : List ℕ) (result : Result A FailedAt) : Type 0 where
    pub at : Spot
    pub stands : seat y cols s (data_units y) ≡ Some at
    pub call : IsWritten at y.unit_sectors old new from (is_ok result)
    pub column : IfErr result (λ e. e.column ≡ at.column)

  -- the stripe's first n units were read
  pub record AllRead (y : Shape) (windows : ColumnWindows) (cols : List ColumnState) (s n : ℕ) (rows : ℕ → Rows) (old new : List (Option D)) (hands : List Rows) (bytes : List ℕ) : Type 0 where
    pub same : Changes g (λ d n. ⊥) old new
    pub told : (d : ℕ) → TellsMore (calls_of g old d) (calls_of g new d) (reads_ahead y windows.most cols s n d (rows d))
    pub ahead : IsAhead y windows cols s (λ d. read_rows y windows.most cols s n d (rows d)) new hands bytes

  -- one of them couldn't be read
  pub record Stopped (y : Shape) (windows : ColumnWindows) (cols : List ColumnState) (s n : ℕ) (rows : ℕ → Rows) (old new : List (Option D)) (hands : List Rows) (bytes : List ℕ) (e : FailedAt) : Type 0 where
    pub unit : ℕ
    pub within : unit < n
    pub at : Spot
    pub stands : seat y cols s unit ≡ Some at
    pub column : e.column ≡ at.column
    pub rose : RisesOn g old new at.device
    pub same : Changes g (λ d n. ⊥) old new
    pub told : (d : ℕ) → TellsMore (calls_of g old d) (calls_of g new d) (reads_ahead y windows.most cols s unit d (rows d) ++ seat_reads y windows.most (seat y cols s unit) false d (read_rows y windows.most cols s unit d (rows d)))
    pub ahead : IsAhead y windows cols s (λ d. seat_rows y windows.most (seat y cols s unit) false d (read_rows y windows.most cols s unit d (rows d))) new hands bytes

  -- what comes of reading the first n units, each in the window of its column
  abbrev pub LoadsUnits : Shape → ColumnWindows → List ColumnState → (s n : ℕ) → (ℕ → Rows) → (old new : List (Option D)) → List Rows → List ℕ → (places : List ℕ) → Result (Unit {0}) FailedAt → Type 0
  LoadsUnits y windows cols s n rows old new hands bytes places (Ok x) = AllRead y windows cols s n rows old new hands bytes × (g.tells → AreUnitsAt y (contents_of g old) cols s n bytes places)
  LoadsUnits y windows cols s n rows old new hands bytes places (Err e) = Stopped y windows cols s n rows old new hands bytes e

  -- what comes of reading and summing the first n units
  abbrev pub SumsUnits : Shape → ColumnWindows → List ColumnState → (s n : ℕ) → (ℕ → Rows) → (old new : List (Option D)) → List Rows → List ℕ → (sum : List ℕ) → Result (Unit {0}) FailedAt → Type 0
  SumsUnits y windows cols s n rows old new hands bytes sum (Ok x) = AllRead y windows cols s n rows old new hands bytes × (g.tells → IsSum y (contents_of g old) cols s n sum)
  SumsUnits y windows cols s n rows old new hands bytes sum (Err e) = Stopped y windows cols s n rows old new hands bytes e

  -- all were read, and it is said whether their sum isn't zero
  pub record Tested (y : Shape) (windows : ColumnWindows) (cols : List ColumnState) (s : ℕ) (rows : ℕ → Rows) (old new : List (Option D)) (hands : List Rows) (bytes sum : List ℕ) (differs : Bool) : Type 0 where
    pub read : AllRead y windows cols s y.width rows old new hands bytes
    pub sums : g.tells → IsSum y (contents_of g old) cols s (data_units y) sum
    pub zero : differs ≡ false → g.tells → IsZero y (contents_of g old) cols s
    pub not_zero : differs ≡ true → g.tells → IsNotZero y (contents_of g old) cols s

  -- what comes of testing a stripe
  abbrev pub TestsUnits : Shape → ColumnWindows → List ColumnState → ℕ → (ℕ → Rows) → (old new : List (Option D)) → List Rows → List ℕ → (sum : List ℕ) → Result Bool FailedAt → Type 0
  TestsUnits y windows cols s rows old new hands bytes sum (Ok differs) = Tested y windows cols s rows old new hands bytes sum differs
  TestsUnits y windows cols s rows old new hands bytes sum (Err e) = Stopped y windows cols s y.width rows old new hands bytes e

  -- what is answered of a turn: whether it counts, or whose device failed
  abbrev pub AnswersTurn : Shape → List ColumnState → ℕ → Turn → Result Bool FailedAt → Type 0
  AnswersTurn y cols s turn (Ok counted) = (failed_at y cols s turn ≡ None) × (counted ≡ does_count turn)
  AnswersTurn y cols s turn (Err e) = (at : Spot) × (failed_at y cols s turn ≡ Some at) × (e.column ≡ at.column)

  -- The stripe had its turn, and what is at hand behind it is so of the stripes to come.
  pub record Visits (kind : Sweep) (y : Shape) (windows : ColumnWindows) (cols : List ColumnState) (s : ℕ) (rows : ℕ → Rows) (old new : List (Option D)) (hands : List Rows) (bytes : List ℕ) (result : Result Bool FailedAt) : Type 0 where
    pub turn : Turn
    pub visit : IsVisitBy g kind y cols s old new turn (λ d. turn_ahead kind y windows.most cols s turn d (rows d))
    pub answer : AnswersTurn y cols s turn result
    pub ahead : IsAhead y windows cols (suc s) (λ d. turn_rows kind y windows.most cols s turn d (rows d)) new hands bytes

  -- Its column died where a device failed; and these calls were made.
  pub record SweepsBy (calls : Turn → ℕ → List Call) (kind : Sweep) (y : Shape) (s : ℕ) (columns after : List Column) (old new : List (Option D)) (counted : Bool) : Type 0 where
    pub turn : Turn
    pub visit : IsVisitBy g kind y (states_of y columns) s old new turn (calls turn)
    pub columns_are : after ≡ columns_after y columns s turn
    pub count : counted ≡ does_count turn

  -- one where each unit was read by a call of its own
  abbrev pub SweepsStripe : Sweep → Shape → ℕ → (columns after : List Column) → (old new : List (Option D)) → Bool → Type 0
  SweepsStripe kind y s columns after old new counted = SweepsBy (turn_calls kind y (states_of y columns) s) kind y s columns after old new counted
