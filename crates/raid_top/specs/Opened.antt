-- Why a column is dead as an array is opened.
use Rattle.std.specs.Prelude.{◌≡◌, ◌≢◌, ◌⊎◌, ◌<◌, ◌≤◌, ◌+◌, ℕ, Bool, true, false, List, Option, Some, None, slice_get, slice_index, slice_set}
use Rattle.eng_cols.specs.declared.column.Column.{Column}
use Rattle.eng_cols.specs.declared.column.Column.TheVariants as column
use Rattle.lay_core.specs.Layout.{Shape}
use Rattle.raid_conf.specs.Layouts.{shape_of}
use Rattle.raid_label.specs.Judged.{fault_in}
use Rattle.raid_label.specs.declared.fault.LabelFault.{LabelFault}
use Rattle.raid_label.specs.declared.label.Label.{Label}
use Rattle.top_bay.specs.Asked.{Asked}
use Rattle.top_duty.specs.Duty.{Duty, OnArray, Shows, OneLabel, PrintConf}
use Rattle.top_duty.specs.Opening.{needs_of, plan_of, stripes_on}
use Rattle.top_duty.specs.Steps.{present_of}
use Rattle.top_open.specs.declared.fronts.Front.{Front}
use Rattle.top_open.specs.declared.fronts.Front.TheVariants as front
use Rattle.top_open.specs.declared.plan.Plan.{Plan}
use Rattle.top_open.specs.Labels.{label_at}
use Rattle.top_open.specs.Opening.{Opened}
use Rattle.top_open.specs.Plan.{is_present, sectors_for}
use Rattle.top_open.specs.Steps.{is_spread_below, wanted}

-- without labels: its disk is absent, or sector 0 of that couldn't be read
abbrev pub LacksDisk : List Bool → List Front → ℕ → Type 0
LacksDisk present fronts c = (is_present present c ≡ false) ⊎ (slice_get fronts c ≡ Some front.Unread)

-- The newest label gives it no device: 0 is its own disk, which is absent; 254 are the spare places, of which the level has none, or which a lower column has; another number is that of a spare that isn't there, as 255 is of a column that is dead.
abbrev pub LacksSeat : Plan → List Bool → Label → ℕ → Type 0
LacksSeat p present l c = ((slice_index l.seats c ≡ 0) × (is_present present c ≡ false))
    ⊎ (((slice_index l.seats c ≡ 254) × ((p.level ≢ 68) ⊎ (is_spread_below l c ≡ true)))
    ⊎ ((slice_index l.seats c ≢ 254) × (p.spares < slice_index l.seats c)))

-- No label was read of its device; or that is older than the newest; or it isn't the column's.
abbrev pub LacksLabel : List Front → List Column → Label → ℕ → Type 0
LacksLabel fronts seats l c = (d : ℕ) × (slice_get seats c ≡ Some (column.Live d))
    × ((label_at fronts d ≡ None) ⊎ ((own : Label) × (label_at fronts d ≡ Some own) × ((own.counter < l.counter) ⊎ ((fault : LabelFault) × (fault_in (Some own) 1 (wanted l c) ≡ Some fault)))))

-- the newest label says that the column was being filled, and isn't clean
abbrev pub IsCutOff : Label → ℕ → Type 0
IsCutOff l c = (l.filling ≡ c + 1) × (l.clean ≢ 1)

-- or that as many of its stripes are done as it has, or more
abbrev pub IsTooFar : Shape → List Column → Label → ℕ → Type 0
IsTooFar y columns l c = (l.filling ≡ c + 1) × (d : ℕ) × (stripes_on y (slice_set columns c (column.Filling d l.done)) c ≤ l.done)

-- The action names it, to fail it or to rebuild it, and its device has fewer sectors than the rows need.
abbrev pub LacksSectors : Option ℕ → List ℕ → ℕ → ℕ → Type 0
LacksSectors excused sizes needs c = (excused ≡ Some c) × (d : ℕ) × (slice_index sizes d < needs)

-- by the labels, if there are any
abbrev pub LacksDevice : Plan → List Bool → List Front → List Column → Option Label → ℕ → Type 0
LacksDevice p present fronts seats None c = LacksDisk present fronts c
LacksDevice p present fronts seats (Some l) c = LacksSeat p present l c ⊎ LacksLabel fronts seats l c

abbrev pub IsUnfilled : Shape → List Column → Option Label → ℕ → Type 0
IsUnfilled y columns None c = ⊥
IsUnfilled y columns (Some l) c = IsCutOff l c ⊎ IsTooFar y columns l c

module _ (k : Asked) (sizes : List ℕ) (fronts : List Front) (o : Opened) where
  -- It has no device by the labels; it was being filled by them; or its device is too small.
  abbrev pub IsDeadFor : ℕ → Type 0
  IsDeadFor c = LacksDevice (plan_of k.conf) (present_of k.conf) fronts o.seats o.newest c
      ⊎ (IsUnfilled (shape_of k.conf o.rows) o.columns o.newest c ⊎ LacksSectors (needs_of k).excused sizes (sectors_for (plan_of k.conf) o.rows) c)

  -- so it is of each column that is dead
  abbrev pub DeadHaveCauses : Type 0
  DeadHaveCauses = (c : ℕ) → slice_get o.columns c ≡ Some column.Dead → IsDeadFor c

-- the array that a duty goes by, where it goes by one
abbrev pub IsOpenedFor : Duty → Opened → Type 0
IsOpenedFor (OnArray a) o = a.opened ≡ o
IsOpenedFor (Shows k opened) o = opened ≡ o
IsOpenedFor (OneLabel k) o = ⊥
IsOpenedFor (PrintConf k) o = ⊥
