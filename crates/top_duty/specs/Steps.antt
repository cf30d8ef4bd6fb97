-- Words by which code and proofs go, of what the statement says in one.
use Rattle.std.specs.Prelude.{ℕ, ◌+◌, ◌++◌, ◌==◌, ◌&&◌, Bool, true, false, not, List, length, map, Option, Some, None, Result, Ok, Err, if◌then◌else◌, is_none, is_some, nat_le, nat_lt, option_map, slice_get, slice_index, unwrap_or}
use Rattle.std.specs.List.{list_any}
use Rattle.std.specs.Option.{option_map_or, option_or}
use Rattle.std.specs.Result.{result_err}
use Rattle.lay_core.specs.Layout.{Shape, blocks_in}
use Rattle.graph_mean.specs.Graph.{View}
use Rattle.text_steps.specs.declared.at.At.{At}
use Rattle.eng_array.specs.declared.start.Start.{Start}
use Rattle.eng_array.specs.declared.start.Start.TheVariants as start
use Rattle.eng_cols.specs.declared.column.Column.{Column}
use Rattle.eng_cols.specs.declared.column.Column.TheVariants as column
use Rattle.eng_cols.specs.declared.spot.Loss.{Loss}
use Rattle.eng_cols.specs.Changes.{killed}
use Rattle.eng_cols.specs.Cols.{ColumnState, device_set, is_set_spread}
use Rattle.eng_cols.specs.Stripes.{states_of}
use Rattle.raid_conf.specs.declared.conf.Conf.{Conf}
use Rattle.raid_conf.specs.Layouts.{shape_of}
use Rattle.raid_script.specs.Asked.{Asked as Item}
use Rattle.raid_script.specs.Drawn.{drawn}
use Rattle.raid_text.specs.Text.{Text}
use Rattle.top_bay.specs.Asked.{Asked, names_of}
use Rattle.top_bound.specs.Bound.{trace_sum}
use Rattle.top_bound.specs.Words.{rebuilds_sum}
use Rattle.top_join.specs.Joining.{AreJoined, first_in}
use Rattle.top_open.specs.declared.fronts.Front.{Front}
use Rattle.top_open.specs.Opening.{Opened}
use Rattle.top_open.specs.Steps.{kept_if_left}
use Rattle.top_open.specs.Seats.{is_unread}
use Rattle.top_rounds.specs.Labels.{given_up}
use Rattle.top_status.specs.declared.status.Status.TheVariants as status
use Rattle.top_status.specs.Dead.{dead_columns}
use Rattle.top_status.specs.Refusals.{Refused}
use Rattle.top_words.specs.Asked.{Action, profile_of}
use Rattle.top_words.specs.declared.profile.Drawing.{Drawing}
use Rattle.top_duty.specs.Duty.{Admitted, Duty, beside_dead, columns_made, is_past_bound, layout_of}
use Rattle.top_duty.specs.Opening.{changed_at, stripes_on}
use Rattle.top_duty.specs.Start.{free_spare}

-- ## The opening

-- the name isn't that of an absent disk
abbrev pub is_named : Text → Bool
is_named name = not (length name == 0)

-- which columns' disks aren't absent
abbrev pub present_of : Conf → List Bool
present_of conf = map is_named conf.disks

-- sector 0 of the devices is read
abbrev pub reads_fronts : Action → Bool
reads_fronts action = (profile_of action).reads

-- a column stays so where its device has so many sectors
abbrev pub kept_if_large : List ℕ → ℕ → Column → Column
kept_if_large sizes needs x = if option_map_or (λ d. nat_le needs (slice_index sizes d)) (device_set (Some x)) true then x else column.Dead

-- the column that the action fails, whose device is refused for nothing, is dead where that has too few sectors
abbrev pub without_small : Option ℕ → List ℕ → ℕ → List Column → List Column
without_small excused sizes needs columns = changed_at excused (λ c. kept_if_large sizes needs) columns

-- column c, if there is one, is judged by how many stripes it has
abbrev pub left_at : Shape → List Column → Option ℕ → List Column
left_at y columns filling = changed_at filling (λ c. kept_if_left (stripes_on y columns c)) columns

-- the columns as they are opened
abbrev pub columns_of : Admitted → List Column
columns_of a = a.opened.columns

abbrev pub states_in : Admitted → List ColumnState
states_in a = states_of (layout_of a) a.opened.columns

-- the column that the action fails or rebuilds is dead
abbrev pub with_dead : Option ℕ → List Column → List Column
with_dead excused columns = changed_at excused (λ c x. column.Dead) columns

-- a column dies, if one is to; what is done on the others stays so
abbrev pub with_killed : Option ℕ → List ColumnState → List ColumnState
with_killed excused states = option_map_or (λ c. killed states c) excused states

-- ## What is asked

-- the column has this device
abbrev pub is_on : ℕ → Column → Bool
is_on d x = option_map_or (λ e. e == d) (device_set (Some x)) false

-- A device may be filled: it is in no seat, it has so many sectors, and its sector 0 could be read.
abbrev pub is_free : ℕ → List ℕ → List Front → List Column → ℕ → Bool
is_free needs sizes fronts seats d = (not (list_any (is_on d) seats) && nat_le needs (slice_index sizes d)) && not (is_unread (slice_get fronts d))

-- a column other than the one that is named
abbrev pub unless_named : Option ℕ → Option ℕ → Option ℕ
unless_named comp filling = option_map_or (λ c. if option_map_or (λ d. d == c) comp false then None else Some c) filling None

-- onto this spare, if there is one; else into the spare places, if they may be used
abbrev pub onto_spare : ℕ → ℕ → Option ℕ → Bool → Option Start
onto_spare most c spare places = option_or (option_map (λ device. start.Fill c device most) spare) (if places then Some (start.Spread c) else None)

-- the rebuild of a column elsewhere
abbrev pub rebuild_elsewhere : Option ℕ → Conf → Opened → List ℕ → List Front → Option ℕ → Option Start
rebuild_elsewhere limit conf o sizes fronts comp = option_map_or (λ c. onto_spare (unwrap_or limit 4294967295) c (free_spare conf o sizes fronts)
    (is_none limit && ((conf.level == 68) && not (list_any is_set_spread o.columns)))) comp None

-- the items of the script, or those that are drawn for so many blocks
abbrev pub drawn_or : Option Drawing → List (List Item) → ℕ → List (List Item)
drawn_or drawing scripted blocks = option_map_or (λ d. drawn d.seed d.clients d.ops blocks) drawing scripted

abbrev pub clients_by : Action → List (List Item) → ℕ → List (List Item)
clients_by action scripted blocks = drawn_or (profile_of action).drawn scripted blocks

-- what is admitted, if the array is opened so: the items are those of the script, or those that are drawn for its blocks
abbrev pub admitted_with : Asked → Opened → Option Start → List View → Admitted
admitted_with k o start joined = record {
  asked = k;
  opened = o;
  clients = option_map_or (λ d. drawn d.seed d.clients d.ops (blocks_in (shape_of k.conf o.rows))) (profile_of k.command.action).drawn k.clients;
  start = start;
  joined = joined;
}

-- ## What is refused

-- a column is to be rebuilt, and there is nowhere to, or nothing to go on with
abbrev pub is_short : Admitted → Bool
is_short a = is_some (profile_of a.asked.command.action).rebuild && is_none a.start

-- whether a trace is kept
abbrev pub traces : Action → Bool
traces action = option_map_or (λ beside. beside.trace) (profile_of action).beside false

-- the graphs that items name: those of the file, and behind them those that are joined
abbrev pub graphs_of : Admitted → List View
graphs_of a = map (λ n. n.graph) a.asked.book ++ a.joined

-- this comes of the join lines over its layout
abbrev pub ComesOfJoins : Admitted → Result (List View) At → Type 0
ComesOfJoins a r = AreJoined (layout_of a) a.asked.book a.asked.clients (length a.asked.book) a.asked.joins r

-- the refusal of a lost array prints those columns that are dead as the action makes them, and one that was filling
abbrev pub lost_by : Admitted → Loss → Refused
lost_by a loss = record { status = status.Lost loss.first loss.second loss.stripe; dead = dead_columns (given_up (columns_made a)) }

-- so many items of clients by these graphs, and so many rebuilds: more events may come than a trace that is kept has room for
abbrev pub is_past : Shape → Asked → List View → List (List Item) → ℕ → Bool
is_past y asked graphs clients rebuilds = traces asked.command.action
    && nat_lt 1048576 (trace_sum y graphs (length (names_of asked.conf)) clients + rebuilds_sum y (length (names_of asked.conf)) rebuilds)

-- graphs that can't be joined are refused
abbrev pub if_apart : Admitted → Result (List View) At → Option Refused
if_apart a joined = option_map (λ at. beside_dead a (status.Script at.line at.code)) (result_err joined)

-- a trace that is kept has room for all events
abbrev pub if_past : Admitted → Option Refused
if_past a = if is_past_bound a then Some (beside_dead a (status.Script 0 8)) else None

-- the first refusal, if there is one
abbrev pub first_of : List (Option Refused) → Option Refused
first_of refusals = first_in (λ refusal. refusal) refusals

abbrev pub unless : Option Refused → Duty → Result Duty Refused
unless refusal d = option_map_or (λ r. Err r) refusal (Ok d)
