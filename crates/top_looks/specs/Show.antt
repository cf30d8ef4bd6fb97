-- What is printed of how an array stands.
use Rattle.std.specs.Prelude.{ℕ, ◌+◌, ◌-◌, ◌*◌, ◌==◌, ◌&&◌, ◌++◌, Bool, false, not, List, [], ◌∷◌, length, Option, Some, None, is_none, unwrap_or, if◌then◌else◌, nat_lt, slice_get, slice_index, codes, decimal, flat_map}
use Rattle.std.specs.List.{list_any, range_with_len}
use Rattle.eng_cols.specs.declared.column.Column.{Column}
use Rattle.eng_cols.specs.declared.column.Column.TheVariants as column
use Rattle.put_line.specs.Line.{line}
use Rattle.raid_conf.specs.declared.conf.Conf.{Conf}
use Rattle.raid_conf.specs.Form.{disk_word}
use Rattle.raid_label.specs.declared.label.Label.{Label}
use Rattle.raid_text.specs.Text.{Text}
use Rattle.top_open.specs.declared.fronts.Front.{Front}
use Rattle.top_open.specs.Opening.{Opened}
use Rattle.top_open.specs.Seats.{is_unread}

-- ## The columns

-- `column C NAME STATE` of column c, where the columns' disks have these names. A device below their
-- number serves its own column, for the columns' disks are numbered as these, and behind them come
-- the spares; of one that is rebuilt it is said how many stripes are done.
abbrev pub column_text : List Text → List Column → ℕ → List ℕ
column_text disks columns c = line
    (codes "column " ∷ decimal c ∷ codes " " ∷ disk_word (unwrap_or (slice_get disks c) [])
    ∷ codes " " ∷ (elim (slice_get columns c) [
      | Some (column.Live device) ↦ if nat_lt device (length disks) then codes "optimal"
          else codes "spared " ++ decimal (device - length disks)
      | Some column.Spread ↦ codes "spread"
      | Some (column.Filling device done) ↦ codes "rebuilding " ++ decimal done
      | _ ↦ codes "failed"
    ]) ∷ codes "\n" ∷ [])

-- ## The spares

-- how a spare stands that is this device: the first that holds of these, a column has it, there are labels and its own couldn't be read, and it has fewer sectors than the rows need
unfoldable pub spare_state : ℕ → Opened → List ℕ → List Front → ℕ → List ℕ
spare_state unit o sizes fronts device =
    if list_any (elim [ column.Live of ↦ of == device | column.Filling of done ↦ of == device | _ ↦ false ]) o.seats then codes "used"
    else (if not (is_none o.newest) && is_unread (slice_get fronts device) then codes "failed"
    else (if nat_lt (slice_index sizes device) (64 + o.rows * unit) then codes "small"
    else codes "free"))

-- `spare J NAME STATE` of spare j, which is a device behind the columns' disks
abbrev pub spare_text : Conf → Opened → List ℕ → List Front → ℕ → List ℕ
spare_text conf o sizes fronts j = line
    (codes "spare " ∷ decimal j ∷ codes " " ∷ unwrap_or (slice_get conf.spare_names j) []
    ∷ codes " " ∷ spare_state conf.unit o sizes fronts (length conf.disks + j) ∷ codes "\n" ∷ [])

-- ## The whole

-- what the newest label says of the parity, and whether the parity map marks a region
abbrev pub parity_line : Option Label → Bool → List ℕ
parity_line None marked = codes "parity unlabelled\n"
parity_line (Some l) marked = if l.clean == 1 && not marked then codes "parity clean\n" else codes "parity dirty\n"

-- the columns, the spares and the parity of an array as it was opened, by the sizes and fronts of its devices, and by whether its parity map marks a region
unfoldable pub show_text : Conf → Opened → List ℕ → List Front → Bool → List ℕ
show_text conf o sizes fronts marked =
    (flat_map (column_text conf.disks o.columns) (range_with_len 0 (length conf.disks))
    ++ flat_map (spare_text conf o sizes fronts) (range_with_len 0 (length conf.spare_names)))
    ++ parity_line o.newest marked
