-- How a column is rebuilt: onto its own disk, onto a spare, or into the spare places of the other columns; or the one that is filling goes on.
use Rattle.std.specs.Prelude.{◌≡◌, ℕ, ◌+◌, ◌*◌, ◌==◌, ◌&&◌, Bool, false, not, List, Option, Some, None, if◌then◌else◌, is_none, is_some, nat_le, option_map, slice_get, slice_index, unwrap_or}
use Rattle.std.specs.List.{list_any}
use Rattle.std.specs.Option.{option_map_or, option_or}
use Rattle.eng_array.specs.declared.start.Start.{Start}
use Rattle.eng_array.specs.declared.start.Start.TheVariants as start
use Rattle.eng_cols.specs.declared.column.Column.{Column}
use Rattle.eng_cols.specs.Cols.{is_set_spread, device_set}
use Rattle.raid_conf.specs.declared.conf.Conf.{Conf}
use Rattle.top_bay.specs.Asked.{Asked}
use Rattle.top_open.specs.declared.fronts.Front.{Front}
use Rattle.top_duty.specs.First.{first_of}
use Rattle.top_duty.specs.Opening.{filling_at}
use Rattle.top_open.specs.Opening.{Opened}
use Rattle.top_open.specs.Seats.{is_unread}
use Rattle.top_words.specs.Asked.{Action, profile_of}
use Rattle.top_words.specs.declared.profile.Rebuilding.{Rebuilding}
use Rattle.top_words.specs.declared.profile.Rebuilding.TheVariants as rebuilding

-- ## A free spare

-- the first spare that is free, as a device: it is in no seat, it has so many sectors, and its sector 0 could be read; the devices of the columns' disks come before the spares
unfoldable pub free_spare : Conf → Opened → List ℕ → List Front → Option ℕ
free_spare conf o sizes fronts = option_map (λ j. conf.columns + j) (first_of (λ j.
    (not (list_any (λ x. option_map_or (λ e. e == conf.columns + j) (device_set (Some x)) false) o.seats)
    && nat_le (64 + o.rows * conf.unit) (slice_index sizes (conf.columns + j)))
    && not (is_unread (slice_get fronts (conf.columns + j)))) conf.spares)

-- ## The start

-- the spare places may be used: the level has them, and no column is spread
abbrev pub has_places : Conf → List Column → Bool
has_places conf columns = (conf.level == 68) && not (list_any is_set_spread columns)

-- how the action begins a rebuild, or goes on with one, by the array as it is opened: elsewhere is onto the free spare, if there is one, and else into the spare places, without a limit alone, if they may be used. None where it does neither, or where there is nowhere to rebuild to, or nothing to go on with
abbrev pub start_with : Option Rebuilding → Option ℕ → Option ℕ → Conf → Opened → List ℕ → List Front → Option Start
start_with None limit comp conf o sizes fronts = None
start_with (Some rebuilding.Elsewhere) limit comp conf o sizes fronts = option_map_or (λ c.
    option_or (option_map (λ device. start.Fill c device (unwrap_or limit 4294967295)) (free_spare conf o sizes fronts))
    (if is_none limit && ((conf.level == 68) && not (list_any is_set_spread o.columns)) then Some (start.Spread c) else None)) comp None
start_with (Some rebuilding.InPlace) limit comp conf o sizes fronts = option_map (λ c. start.Fill c c (unwrap_or limit 4294967295)) comp
start_with (Some rebuilding.Further) limit comp conf o sizes fronts = option_map (λ c. start.Resume c (unwrap_or limit 4294967295)) (filling_at o.columns)

abbrev pub start_in : Asked → Opened → List ℕ → List Front → Option Start
start_in k o sizes fronts = start_with (profile_of k.command.action).rebuild (profile_of k.command.action).limit k.comp k.conf o sizes fronts

-- the action rebuilds a column
abbrev pub rebuilds : Action → Bool
rebuilds action = is_some (profile_of action).rebuild

-- the column that is filling, where the action begins the rebuild of another: it isn't the one that is named
abbrev pub other_with : Option Rebuilding → Option ℕ → Option ℕ → Option ℕ
other_with None comp filling = None
other_with (Some rebuilding.Further) comp filling = None
other_with (Some anew) comp filling = option_map_or (λ c. if option_map_or (λ d. d == c) comp false then None else Some c) filling None

abbrev pub other_filling : Asked → List Column → Option ℕ
other_filling k columns = other_with (profile_of k.command.action).rebuild k.comp (filling_at columns)

-- the column that an action names is the one that is rebuilt anew; where one goes on none is named
abbrev pub IsNamedBy : Option ℕ → Start → Type 0
IsNamedBy excused (start.Fill c device most) = excused ≡ Some c
IsNamedBy excused (start.Resume c most) = excused ≡ None
IsNamedBy excused (start.Spread c) = excused ≡ Some c

-- the device that is to be filled couldn't be read; of one that goes on it was
abbrev pub has_failed : Option Start → List Front → Bool
has_failed None fronts = false
has_failed (Some (start.Fill column device most)) fronts = is_unread (slice_get fronts device)
has_failed (Some (start.Resume column most)) fronts = false
has_failed (Some (start.Spread column)) fronts = false
