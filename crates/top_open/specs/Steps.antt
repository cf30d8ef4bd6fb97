-- What the functions that open an array find piece by piece; Opening, Fronts, Labels and Plan
-- say it in one.
use Rattle.std.specs.Prelude.{ℕ, List, Option, slice_get, ◌-◌, ◌*◌, ◌/◌, ◌||◌, Bool, length, take, Some, None, Result, Ok, Err, if◌then◌else◌, unwrap_or, ◌==◌, true, nat_lt, slice_index, option_map}
use Rattle.raid_label.specs.declared.label.Label.{Label}
use Rattle.top_open.specs.declared.fronts.Front.{Front}
use Rattle.top_open.specs.declared.fault.OpenFault.{OpenFault}
use Rattle.top_open.specs.declared.plan.Plan.{Plan}
use Rattle.top_open.specs.Opening.{Opened, filled_by, labelled_in}
use Rattle.blk_disk.specs.Devices.{device_at}
use Rattle.blk_disk.specs.declared.disk.Disk.{Ghosts}
use Rattle.top_open.specs.Fronts.{IsCalledOnce}
use Rattle.std.specs.List.{list_all, list_any}
use Rattle.eng_cols.specs.declared.column.Column.{Column}
use Rattle.eng_cols.specs.declared.column.Column.TheVariants as column
use Rattle.top_open.specs.declared.fault.OpenFault.TheVariants as fault
use Rattle.top_open.specs.declared.plan.Needs.{Needs}
use Rattle.top_open.specs.First.{first_below}
use Rattle.raid_label.specs.Bytes.{version_in, label_in}
use Rattle.raid_label.specs.Judged.{unlabelled_fault, fault_in}
use Rattle.top_open.specs.declared.fronts.Front.TheVariants.{Away, Unread, Held}
use Rattle.top_open.specs.Labels.{refusal_of, label_at}
use Rattle.top_open.specs.Seats.{own_disk, seat_of, is_sound, is_unread}

-- where no label is well formed, a column whose sector was read is refused for its version or for having none
abbrev pub unlabelled_front : ℕ → Option Front → Option OpenFault
unlabelled_front c None = None
unlabelled_front c (Some Away) = None
unlabelled_front c (Some Unread) = None
unlabelled_front c (Some (Held bytes)) = Some (refusal_of c (unlabelled_fault (version_in bytes)))

abbrev pub unlabelled_at : List Front → ℕ → Option OpenFault
unlabelled_at fronts c = unlabelled_front c (slice_get fronts c)

-- the label as the configuration would have it
abbrev pub configured : Plan → ℕ → Label → Label
configured p n l = record l { columns = n; unit = p.unit; level = p.level; b = p.b; k = p.k; r = p.r; lambda = p.lambda }

abbrev pub as_filled : Opened → Opened
as_filled o = record o { columns = filled_by o.newest o.columns }

-- the same of device d of a list
abbrev pub IsReadOnce : {D : Type 0} → Ghosts D → List (Option D) → List (Option D) → ℕ → Front → Type 0
IsReadOnce g old new d front = IsCalledOnce g (device_at old d) (device_at new d) front

-- how many tables so many sectors have room for
abbrev pub tables_in : Plan → ℕ → ℕ
tables_in p sectors = (sectors - 64) / (p.step * p.unit)

-- where there is none, though something was read, a column whose sector was read is refused for its version or for having none
abbrev pub labelled_if : Needs → Plan → List Bool → List ℕ → List Front → Option Label → Result Opened OpenFault
labelled_if q p present sizes fronts None = Err (unwrap_or
    (first_below (λ c. unlabelled_front c (slice_get fronts c)) (length present)) (fault.Label 0 1 0 0))
labelled_if q p present sizes fronts (Some l) = labelled_in q p present sizes fronts l

-- no byte but 0 was read
abbrev pub is_blank : Front → Bool
is_blank Away = true
is_blank Unread = true
is_blank (Held bytes) = list_all (λ b. b == 0) bytes

-- no byte but 0 was read of so many columns' disks, or nothing was to be read
abbrev pub is_unlabelled : Needs → ℕ → List Front → Bool
is_unlabelled q n fronts = q.plain || list_all is_blank (take n fronts)

-- One that the label names as filling is so where it has a device and the label is clean, with as many done stripes as the label says; one that isn't clean makes it dead.
abbrev pub filling_of : Label → Column → Column
filling_of l (column.Live device) = if l.clean == 1 then column.Filling device l.done else column.Dead
filling_of l column.Dead = column.Dead
filling_of l (column.Filling device done) = column.Filling device done
filling_of l column.Spread = column.Spread

abbrev pub filled_if : Result Opened OpenFault → Result Opened OpenFault
filled_if (Ok o) = Ok (record o { columns = filled_by o.newest o.columns })
filled_if (Err f) = Err f

-- a lower column's seat is 254 already
abbrev pub is_spread_below : Label → ℕ → Bool
is_spread_below l c = list_any (λ seat. seat == 254) (take c l.seats)

-- column c by the label's seats
abbrev pub seat_at : Plan → List Bool → ℕ → Label → ℕ → Column
seat_at p present n l c =
    seat_of p present n c (list_any (λ seat. seat == 254) (take c l.seats)) (slice_index l.seats c)

-- a device is too small
abbrev pub small_refusal : List ℕ → ℕ → ℕ → Option ℕ → Option OpenFault
small_refusal sizes needs c None = None
small_refusal sizes needs c (Some d) = if nat_lt (slice_index sizes d) needs then Some (fault.Small c (slice_index sizes d) needs) else None

-- the label that a column is to have
abbrev pub wanted : Label → ℕ → Label
wanted newest c = record newest { column = c }

-- the front of a column's device is refused; one that couldn't be read isn't judged
abbrev pub front_refusal : Label → ℕ → Option Front → Option OpenFault
front_refusal newest c None = None
front_refusal newest c (Some Unread) = None
front_refusal newest c (Some Away) =
    option_map (refusal_of c) (fault_in None 1 (record newest { column = c }))
front_refusal newest c (Some (Held bytes)) =
    option_map (refusal_of c)
    (fault_in (label_in bytes) (version_in bytes) (record newest { column = c }))

-- a column with a device stays so where its label is sound
abbrev pub kept_if_sound : Label → List Front → ℕ → Column → Column
kept_if_sound newest fronts c (column.Live device) = if is_sound newest c (label_at fronts device) then column.Live device else column.Dead
kept_if_sound newest fronts c column.Dead = column.Dead
kept_if_sound newest fronts c (column.Filling device done) = column.Dead
kept_if_sound newest fronts c column.Spread = column.Spread

-- the disk of a column, if it could be read
abbrev pub read_disk : List Bool → List Front → ℕ → Column
read_disk present fronts c = if is_unread (slice_get fronts c) then column.Dead else own_disk present c

-- a column that is filling stays so where fewer of its stripes are done than it has
abbrev pub kept_if_left : ℕ → Column → Column
kept_if_left count (column.Filling device done) = if nat_lt done count then column.Filling device done else column.Dead
kept_if_left count (column.Live device) = column.Live device
kept_if_left count column.Dead = column.Dead
kept_if_left count column.Spread = column.Spread
