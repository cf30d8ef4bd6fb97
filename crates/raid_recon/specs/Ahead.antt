-- Rows that are read ahead, and which calls read the units of a sweep then.
use Rattle.std.specs.Prelude.{◌≡◌, ◌≢◌, ◌⊎◌, ℕ, zero, suc, ◌+◌, ◌*◌, ◌-◌, ◌<◌, ◌≤◌, List, [], ◌∷◌, ◌++◌, length, Bool, true, false, Option, Some, None, ◌==◌, ◌&&◌, not, min, max, ◌/◌, nat_lt, if◌then◌else◌, slice_index, slice_index_or}
use Rattle.blk_disk.specs.declared.disk.Call.{Call}
use Rattle.lay_core.specs.Layout.{Shape, data_units}
use Rattle.eng_cols.specs.declared.column.Column.{Column}
use Rattle.eng_cols.specs.declared.spot.Spot.{Spot}
use Rattle.eng_cols.specs.Cols.{ColumnState, HasDevice}
use Rattle.eng_cols.specs.Seats.{seat}
use Rattle.eng_cols.specs.Contents.{Contents, byte_at}
use Rattle.eng_cols.specs.Stripes.{states_of}
use Rattle.raid_recon.specs.declared.ahead.ColumnWindows.{ColumnWindows}
use Rattle.raid_recon.specs.declared.ahead.Rows.{Rows}
use Rattle.raid_recon.specs.declared.kind.Sweep.{Sweep}
use Rattle.raid_recon.specs.Turns.{Turn, Left, Unread, Sound, Unsound, Written, Unwritten, call_if, units_read, seat_calls}
use Rattle.raid_recon.specs.Log.{columns_in}

-- ## How many rows one call reads

-- 64 KiB of rows, or as many as there is room for on each column beside a unit's sum; one, where there isn't room for two
abbrev pub rows_in_room : (unit columns bytes : ℕ) → ℕ
rows_in_room unit columns bytes = max (min ((bytes - 512 * unit) / (512 * unit * columns)) (128 / unit)) 1

abbrev pub rows_ahead : Shape → (bytes : ℕ) → ℕ
rows_ahead y bytes = rows_in_room y.unit_sectors y.columns bytes

-- ## Where they are read into

-- how many rows the windows of two neighbouring columns lie apart in that room: as many as a call reads; none, where there isn't room for a row of each column
abbrev pub rows_apart : (unit columns bytes : ℕ) → ℕ
rows_apart unit columns bytes = min ((bytes - 512 * unit) / (512 * unit * columns)) (128 / unit)

-- where the rows of a column begin, counted in rows
abbrev pub window_at : ColumnWindows → ℕ → ℕ
window_at windows c = c * windows.apart

-- So many rows can be read by a call; all columns have one window, of one row, or theirs lie side by side; and the bytes have room for each.
pub record HasWindows (y : Shape) (windows : ColumnWindows) (bytes : ℕ) : Type 0 where
  pub some : 1 ≤ windows.most
  pub few : windows.most * y.unit_sectors ≤ 128
  pub shared : windows.apart ≡ 0 → windows.most ≡ 1
  pub beside : windows.apart ≢ 0 → windows.apart ≡ windows.most
  pub within : (c : ℕ) → c < y.columns → 512 * (y.unit_sectors * (window_at windows c + windows.most)) ≤ bytes

-- a unit stands in the window of column c, from this byte on
abbrev pub IsInWindow : Shape → ColumnWindows → (c from : ℕ) → Type 0
IsInWindow y windows c from = (512 * (y.unit_sectors * window_at windows c) ≤ from) × (from + 512 * y.unit_sectors ≤ 512 * (y.unit_sectors * (window_at windows c + windows.most)))

-- a byte is none of that window
abbrev pub IsOutside : Shape → ColumnWindows → (c n : ℕ) → Type 0
IsOutside y windows c n = (n < 512 * (y.unit_sectors * window_at windows c)) ⊎ (512 * (y.unit_sectors * (window_at windows c + windows.most)) ≤ n)

-- ## Which rows are at hand

-- those behind the first row of the last read, as far as it went
abbrev pub is_at_hand : Rows → ℕ → Bool
is_at_hand rows row = nat_lt rows.first row && nat_lt row rows.end

-- none
abbrev pub no_rows : Rows
no_rows = record { first = 0; end = 0 }

-- the rows of column c
abbrev pub rows_at : List Rows → ℕ → Rows
rows_at hands c = slice_index_or hands c no_rows

-- there is an entry for any column, and none has more rows than a call reads
pub record AreHands (most : ℕ) (hands : List Rows) : Type 0 where
  pub count : length hands ≡ 32
  pub few : (c : ℕ) → (rows_at hands c).end ≤ (rows_at hands c).first + most

-- each device that a column has is said to have the column's rows at hand
abbrev pub Agrees : List ColumnState → (ℕ → Rows) → List Rows → Type 0
Agrees cols rows hands = (c d : ℕ) → HasDevice cols c d → rows_at hands c ≡ rows d

-- the byte of the room where byte k at offset o stands of a row at hand
abbrev pub byte_in : Shape → ColumnWindows → Spot → ℕ → ℕ → ℕ → ℕ
byte_in y windows at first o k = 512 * (y.unit_sectors * (window_at windows at.column + (at.row - first)) + o) + k

-- what is at hand of the stripes from this one on is what the devices hold there
abbrev pub Holds : Shape → ColumnWindows → Contents → List ColumnState → ℕ → (ℕ → Rows) → List ℕ → Type 0
Holds y windows contents cols s rows bytes = (t i : ℕ) (at : Spot) → s ≤ t → t < y.stripes → i < y.width → seat y cols t i ≡ Some at → is_at_hand (rows at.device) at.row ≡ true
    → (o k : ℕ) → o < y.unit_sectors → k < 512 → slice_index bytes (byte_in y windows at (rows at.device).first o k) ≡ byte_at y contents at o k

-- ## The calls

-- The rows of device d behind the read of a unit: of the one on which it stands, what was at hand stays where the unit was at hand; else the rows are those that were read, and none where that failed.
abbrev pub seat_rows : Shape → ℕ → Option Spot → Bool → ℕ → Rows → Rows
seat_rows y most None good d rows = rows
seat_rows y most (Some at) good d rows =
    if d == at.device
    then (if is_at_hand rows at.row then rows
    else record { first = at.row; end = at.row + (if good then min most (y.rows - at.row) else 0) })
    else rows

-- the calls of device d as a unit is read: none where it is at hand
abbrev pub seat_reads : Shape → ℕ → Option Spot → Bool → ℕ → Rows → List Call
seat_reads y most None good d rows = []
seat_reads y most (Some at) good d rows = call_if ((d == at.device) && not (is_at_hand rows at.row))
    (record { kind = 0; first = 64 + at.row * y.unit_sectors; count = min most (y.rows - at.row) * y.unit_sectors; good = good })

-- the rows of device d behind the reads of the stripe's first n units, and its calls in them
abbrev pub read_rows : Shape → ℕ → List ColumnState → ℕ → ℕ → ℕ → Rows → Rows
read_rows y most cols s zero d rows = rows
read_rows y most cols s (suc n) d rows = seat_rows y most (seat y cols s n) true d (read_rows y most cols s n d rows)

abbrev pub reads_ahead : Shape → ℕ → List ColumnState → ℕ → ℕ → ℕ → Rows → List Call
reads_ahead y most cols s zero d rows = []
reads_ahead y most cols s (suc n) d rows = reads_ahead y most cols s n d rows ++ seat_reads y most (seat y cols s n) true d (read_rows y most cols s n d rows)

-- the rows of device d behind a stripe's turn, and its calls in it: the reads, and then at most one write
abbrev pub turn_rows : Sweep → Shape → ℕ → List ColumnState → ℕ → Turn → ℕ → Rows → Rows
turn_rows kind y most cols s Left d rows = rows
turn_rows kind y most cols s (Unread i) d rows = seat_rows y most (seat y cols s i) false d (read_rows y most cols s i d rows)
turn_rows kind y most cols s Sound d rows = read_rows y most cols s (units_read kind y) d rows
turn_rows kind y most cols s Unsound d rows = read_rows y most cols s (units_read kind y) d rows
turn_rows kind y most cols s Written d rows = read_rows y most cols s (units_read kind y) d rows
turn_rows kind y most cols s Unwritten d rows = read_rows y most cols s (units_read kind y) d rows

abbrev pub turn_ahead : Sweep → Shape → ℕ → List ColumnState → ℕ → Turn → ℕ → Rows → List Call
turn_ahead kind y most cols s Left d rows = []
turn_ahead kind y most cols s (Unread i) d rows = reads_ahead y most cols s i d rows ++ seat_reads y most (seat y cols s i) false d (read_rows y most cols s i d rows)
turn_ahead kind y most cols s Sound d rows = reads_ahead y most cols s (units_read kind y) d rows
turn_ahead kind y most cols s Unsound d rows = reads_ahead y most cols s (units_read kind y) d rows
turn_ahead kind y most cols s Written d rows = reads_ahead y most cols s (units_read kind y) d rows ++ seat_calls y (seat y cols s (data_units y)) 1 true d
turn_ahead kind y most cols s Unwritten d rows = reads_ahead y most cols s (units_read kind y) d rows ++ seat_calls y (seat y cols s (data_units y)) 1 false d

-- the rows of device d behind these turns, the newest first, and its calls in them
abbrev pub rows_in : Sweep → Shape → ℕ → List Column → List Turn → ℕ → Rows
rows_in kind y most columns [] d = record { first = 0; end = 0 }
rows_in kind y most columns (t ∷ ts) d = turn_rows kind y most (states_of y (columns_in y columns ts)) (length ts) t d (rows_in kind y most columns ts d)

abbrev pub ahead_in : Sweep → Shape → ℕ → List Column → List Turn → ℕ → List Call
ahead_in kind y most columns [] d = []
ahead_in kind y most columns (t ∷ ts) d = ahead_in kind y most columns ts d ++ turn_ahead kind y most (states_of y (columns_in y columns ts)) (length ts) t d (rows_in kind y most columns ts d)
