-- What the functions that print a line put piece by piece; Show, Labels and Maps say it in one.
use Rattle.std.specs.Prelude.{ℕ, ◌-◌, ◌++◌, List, [], ◌∷◌, length, Option, if◌then◌else◌, nat_lt, codes, decimal, flat_map, ◌==◌, Bool, false, Some, None}
use Rattle.std.specs.List.{range_with_len}
use Rattle.eng_cols.specs.declared.column.Column.{Column}
use Rattle.put_line.specs.Line.{line}
use Rattle.raid_conf.specs.declared.conf.Conf.{Conf}
use Rattle.raid_text.specs.Text.{Text}
use Rattle.top_open.specs.declared.fronts.Front.{Front}
use Rattle.top_open.specs.Opening.{Opened}
use Rattle.top_looks.specs.Show.{column_text, spare_text}
use Rattle.raid_label.specs.declared.label.Label.{Label}
use Rattle.top_looks.specs.Labels.{numbers_line}
use Rattle.top_looks.specs.declared.map.Marked.{Marked}
use Rattle.eng_cols.specs.declared.column.Column.TheVariants as column

-- a device below n serves its own column, for the columns' disks are numbered as these; behind them come the spares
unfoldable pub live_state : ℕ → ℕ → List ℕ
live_state n device = if nat_lt device n then codes "optimal" else codes "spared " ++ decimal (device - n)

-- how many stripes of a column are done that is rebuilt
unfoldable pub filling_state : ℕ → List ℕ
filling_state done = codes "rebuilding " ++ decimal done

-- How a column of n is served. A device below n serves its own column, for the columns' disks are
-- numbered as these, and behind them come the spares; of one that is rebuilt it is said how many
-- stripes are done.
abbrev pub column_state : ℕ → Option Column → List ℕ
column_state n None = codes "failed"
column_state n (Some (column.Live device)) =
    if nat_lt device n then codes "optimal" else codes "spared " ++ decimal (device - n)
column_state n (Some column.Spread) = codes "spread"
column_state n (Some column.Dead) = codes "failed"
column_state n (Some (column.Filling device done)) = codes "rebuilding " ++ decimal done

-- `column C NAME STATE`
unfoldable pub column_line : ℕ → ℕ → Text → Option Column → List ℕ
column_line n c name column = line (codes "column " ∷ decimal c ∷ codes " " ∷ name ∷ codes " " ∷ column_state n column ∷ codes "\n" ∷ [])

-- those of all columns
unfoldable pub columns_text : List Text → List Column → List ℕ
columns_text disks columns = flat_map (column_text disks columns) (range_with_len 0 (length disks))

-- `spare J NAME STATE`
unfoldable pub spare_line : ℕ → Text → List ℕ → List ℕ
spare_line j name state = line (codes "spare " ∷ decimal j ∷ codes " " ∷ name ∷ codes " " ∷ state ∷ codes "\n" ∷ [])

-- those of all spares
unfoldable pub spares_text : Conf → Opened → List ℕ → List Front → List ℕ
spares_text conf o sizes fronts = flat_map (spare_text conf o sizes fronts) (range_with_len 0 (length conf.spare_names))

-- the fields of a label but the design's and the seats
abbrev pub label_line : Label → List ℕ
label_line l = numbers_line (l.version ∷ l.serial ∷ l.counter ∷ l.column ∷ l.columns ∷ l.unit ∷ l.rows ∷ l.level ∷ l.clean ∷ [])

-- how many regions there are, and how many of them are marked
unfoldable pub marked_line : Marked → List ℕ
marked_line m = line (codes "map regions " ∷ decimal m.regions ∷ codes " marked " ∷ decimal m.marked ∷ codes "\n" ∷ [])

-- the column has this device
abbrev pub is_seat_of : ℕ → Column → Bool
is_seat_of device (column.Live of) = of == device
is_seat_of device column.Spread = false
is_seat_of device column.Dead = false
is_seat_of device (column.Filling of done) = of == device

-- those of what was found: the fields of a label but the design's and the seats
abbrev pub line_of : Option Label → List ℕ
line_of None = codes "label none\n"
line_of (Some l) = numbers_line
    (l.version ∷ l.serial ∷ l.counter ∷ l.column ∷ l.columns ∷ l.unit ∷ l.rows ∷ l.level ∷ l.clean
    ∷ [])
