-- How an array is opened: by what is asked, by the sizes of its devices, and by their labels.
use Rattle.std.specs.Prelude.{ℕ, Bool, true, false, List, length, map, Option, Some, None, Result, Ok, if◌then◌else◌, nat_le, slice_get, slice_index, slice_index_or, slice_set, ◌==◌, not, nat_lt}
use Rattle.std.specs.Option.{option_map_or}
use Rattle.blk_disk.specs.Devices.{at_home}
use Rattle.eng_cols.specs.declared.column.Column.{Column}
use Rattle.eng_cols.specs.declared.column.Column.TheVariants as column
use Rattle.eng_cols.specs.Cols.{is_set_filling, passes, device_set}
use Rattle.eng_cols.specs.Stripes.{is_stripe_of, states_of}
use Rattle.lay_core.specs.Layout.{Shape}
use Rattle.raid_conf.specs.declared.conf.Conf.{Conf}
use Rattle.raid_conf.specs.Layouts.{shape_of, level_rows, level_stripes}
use Rattle.raid_conf.specs.Parameters.{parameters_of}
use Rattle.raid_text.specs.Text.{Text}
use Rattle.top_bay.specs.Asked.{Asked}
use Rattle.top_duty.specs.First.{first_of}
use Rattle.top_open.specs.declared.fault.OpenFault.{OpenFault}
use Rattle.top_open.specs.declared.fault.OpenFault.TheVariants as fault
use Rattle.top_open.specs.declared.fronts.Front.{Front}
use Rattle.top_open.specs.declared.plan.Plan.{Plan}
use Rattle.top_open.specs.declared.plan.Needs.{Needs}
use Rattle.top_open.specs.Plan.{AreWholeTables, sectors_for}
use Rattle.top_open.specs.Opening.{Opened, opened_in}
use Rattle.top_status.specs.declared.status.Status.{Status}
use Rattle.top_status.specs.declared.status.Status.TheVariants as status
use Rattle.top_status.specs.Refusals.{Refused, ◌then◌}
use Rattle.top_words.specs.Asked.{Action, Component, Nameless, Column as OfColumn, Device, profile_of}
use Rattle.top_words.specs.declared.profile.Kind.{Kind}
use Rattle.top_words.specs.declared.profile.Rebuilding.{Rebuilding}
use Rattle.top_words.specs.declared.profile.Rebuilding.TheVariants as rebuilding
use Rattle.top_fetch.specs.Fetched.{or_status}
use Rattle.lay_core.specs.Touched.{count_below}

-- ## What is asked

-- what an action makes of the array of its configuration
abbrev pub kind_of : Action → Kind
kind_of action = (profile_of action).kind

-- the column that an action names, whose own device is refused for nothing
abbrev pub excused_by : Component → Option ℕ → Option ℕ
excused_by Nameless comp = None
excused_by (OfColumn name) comp = comp
excused_by (Device name) comp = None

-- the disk onto which a column is rebuilt in place is judged for its size
abbrev pub own_by : Option Rebuilding → Bool
own_by None = false
own_by (Some rebuilding.Elsewhere) = false
own_by (Some rebuilding.InPlace) = true
own_by (Some rebuilding.Further) = false

-- What an action asks of the opening: whether the array is opened as one without labels, has to
-- have some, and gets some; the column that it fails or rebuilds; and whether that is rebuilt in
-- place.
abbrev pub needs_for : Action → Option ℕ → Needs
needs_for action comp = record {
  plain = (profile_of action).plain;
  labels = (profile_of action).labels;
  excused = excused_by (profile_of action).component comp;
  own = own_by (profile_of action).rebuild;
  writes = (profile_of action).writes;
  adopts = false;
}

abbrev pub needs_of : Asked → Needs
needs_of k = record {
  plain = (profile_of k.command.action).plain;
  labels = (profile_of k.command.action).labels;
  excused = excused_by (profile_of k.command.action).component k.comp;
  own = own_by (profile_of k.command.action).rebuild;
  writes = (profile_of k.command.action).writes;
  adopts = k.command.adopt;
}

-- ## What it takes of the configuration

-- what labels and rows are to be
abbrev pub plan_of : Conf → Plan
plan_of conf = record {
  unit = conf.unit;
  level = conf.level;
  b = (parameters_of conf.design).b;
  k = (parameters_of conf.design).k;
  r = (parameters_of conf.design).r;
  lambda = (parameters_of conf.design).lambda;
  spares = conf.spares;
  step = level_rows conf.level conf.design;
  stripes = level_stripes conf.level conf.columns conf.design;
}

-- ## And of the devices

-- how many sectors these devices have, 0 where there is none
abbrev pub sizes_of : {D : Type 0} → (D → ℕ) → List (Option D) → List ℕ
sizes_of size ds = map (λ x. option_map_or size x 0) ds

-- the same of the devices of these names
unfoldable pub sizes_in : {D : Type 0} → (D → ℕ) → (Text → Option D) → List Text → List ℕ
sizes_in size home names = map (λ name. option_map_or size (at_home home (Some name)) 0) names

-- ## The opening

abbrev pub status_of : OpenFault → Status
status_of (fault.Label column code found wanted) = status.Label column code found wanted
status_of (fault.Small column has needs) = status.Small column has needs
status_of fault.Memory = status.Memory

-- the columns where this is made of the one of that number, if there is one
abbrev pub changed_at : Option ℕ → (ℕ → Column → Column) → List Column → List Column
changed_at None make columns = columns
changed_at (Some c) make columns = slice_set columns c (make c (slice_index_or columns c column.Dead))

-- ### The column that is filling

-- how many stripes a column has
abbrev pub stripes_on : Shape → List Column → ℕ → ℕ
stripes_on y columns c = count_below (is_stripe_of y (states_of y columns) c) y.stripes

-- the first column that is filling
unfoldable pub filling_at : List Column → Option ℕ
filling_at columns = first_of (λ c. passes is_set_filling (slice_get columns c)) (length columns)

-- rows, columns and the newest label by sizes and fronts of the devices, or why the array is refused; a disk without a name is absent; the column that the action fails, whose device is refused for nothing, is dead where that has too few sectors; of a column that is filling it isn't judged how many stripes it has
unfoldable pub fronted_by : Asked → List ℕ → List Front → Result Opened Refused
fronted_by k sizes fronts = or_status status_of (opened_in (needs_of k) (plan_of k.conf) (map (λ name. not (length name == 0)) k.conf.disks) sizes fronts)
    then λ o. Ok (record o {
      columns = changed_at (needs_of k).excused
          (λ c x. if option_map_or (λ d. nat_le (sectors_for (plan_of k.conf) o.rows) (slice_index sizes d)) (device_set (Some x)) true then x else column.Dead) o.columns;
    })

-- and with that: a column that is filling is dead where the labels say that as many of its stripes are done as it has
unfoldable pub opened_by : Asked → List ℕ → List Front → Result Opened Refused
opened_by k sizes fronts = fronted_by k sizes fronts
    then λ o. Ok (record o {
      columns = changed_at (filling_at o.columns)
          (λ c x. elim x [
            | column.Filling device done ↦ if nat_lt done (stripes_on (shape_of k.conf o.rows) o.columns c) then column.Filling device done
                else column.Dead
            | other ↦ other
          ]) o.columns;
    })

-- so many rows are those of whole tables of the configuration
abbrev pub AreTableRows : Conf → ℕ → Type 0
AreTableRows conf rows = AreWholeTables (plan_of conf) rows
