-- What is to be done, or which refusal comes first: by texts, names, sizes, and sector 0 of the
-- devices.
use Rattle.std.specs.Prelude.{◌≡◌, ◌&&◌, ◌+◌, ◌-◌, ◌++◌, ℕ, Bool, false, List, [], ◌∷◌, length, map, Option, Some, None, is_none, Result, Ok, Err, if◌then◌else◌, nat_le, nat_lt, option_map, slice_set, unwrap_or, is_some, option_and_then, slice_get, ◌*◌}
use Rattle.std.specs.Option.{option_map_or}
use Rattle.std.specs.Result.{result_err}
use Rattle.lay_core.specs.Layout.{Shape, blocks_in}
use Rattle.graph_mean.specs.Graph.{View}
use Rattle.text_steps.specs.declared.at.At.{At}
use Rattle.eng_array.specs.declared.start.Start.{Start}
use Rattle.eng_array.specs.declared.start.Start.TheVariants as start
use Rattle.eng_array.specs.Starts.{most_of}
use Rattle.eng_cols.specs.declared.column.Column.{Column}
use Rattle.eng_cols.specs.declared.column.Column.TheVariants as column
use Rattle.eng_cols.specs.declared.spot.Loss.{Loss}
use Rattle.eng_cols.specs.Cols.{ColumnState, Dead}
use Rattle.eng_cols.specs.Stripes.{states_of, done_set}
use Rattle.raid_conf.specs.Layouts.{shape_of}
use Rattle.raid_script.specs.Asked.{Asked as Item}
use Rattle.raid_script.specs.Drawn.{drawn}
use Rattle.top_fetch.specs.Told.{Told}
use Rattle.top_bay.specs.Asked.{Asked, asked_in, names_for, names_of}
use Rattle.top_bound.specs.Bound.{trace_sum, item_bound}
use Rattle.top_join.specs.Joining.{AreJoined, first_in}
use Rattle.top_close.specs.Ended.{IsLossBy}
use Rattle.top_open.specs.declared.fronts.Front.{Front}
use Rattle.top_open.specs.Opening.{Opened}
use Rattle.top_status.specs.declared.status.Status.{Status}
use Rattle.top_status.specs.declared.status.Status.TheVariants as status
use Rattle.top_status.specs.Dead.{dead_columns}
use Rattle.top_rounds.specs.Labels.{given_up}
use Rattle.top_status.specs.Refusals.{Refused, ◌then◌, only}
use Rattle.top_words.specs.Asked.{Command, profile_of}
use Rattle.top_words.specs.declared.profile.Kind.{Kind}
use Rattle.top_words.specs.declared.profile.Kind.TheVariants as kind
use Rattle.top_words.specs.declared.profile.Rebuilding.{Rebuilding}
use Rattle.top_words.specs.declared.profile.Rebuilding.TheVariants as rebuilding
use Rattle.top_duty.specs.Opening.{needs_of, opened_by, sizes_in, stripes_on, changed_at}
use Rattle.top_duty.specs.Start.{other_filling, start_with}

-- ## What is admitted

-- What was asked, the array as it is opened, the items of all clients, how a column is rebuilt, if one is, and the graphs that are joined for join lines.
pub record Admitted : Type 0 where
  pub asked : Asked
  pub opened : Opened
  pub clients : List (List Item)
  pub start : Option Start
  pub joined : List View

-- Something is done with an array; or an array is shown; or the label of one device; or the configuration is printed.
pub data Duty : Type 0 where
  OnArray : (admitted : Admitted) → Duty
  Shows : (asked : Asked) (opened : Opened) → Duty
  OneLabel : (asked : Asked) → Duty
  PrintConf : (asked : Asked) → Duty

-- what was asked
abbrev pub asked_of : Duty → Asked
asked_of (OnArray a) = a.asked
asked_of (Shows k o) = k
asked_of (OneLabel k) = k
asked_of (PrintConf k) = k

-- the layout of the array
abbrev pub layout_of : Admitted → Shape
layout_of a = shape_of a.asked.conf a.opened.rows

-- the columns as the action makes them, by which it is judged whether the array is lost: the one that it fails or rebuilds is dead; what is done on the others stays so
abbrev pub judged_states : Admitted → List ColumnState
judged_states a = option_map_or (λ c. slice_set (states_of (layout_of a) a.opened.columns) c Dead) (needs_of a.asked).excused (states_of (layout_of a) a.opened.columns)

-- what is to be done by what is made of the array; the items are those of the script, or those that are drawn for its blocks
abbrev pub duty_for : Kind → Asked → List ℕ → List Front → Result Duty Refused
duty_for kind.Array k sizes fronts = opened_by k sizes fronts then λ o. Ok (OnArray (record {
  asked = k;
  opened = o;
  clients = option_map_or (λ d. drawn d.seed d.clients d.ops (blocks_in (shape_of k.conf o.rows))) (profile_of k.command.action).drawn k.clients;
  start = start_with (profile_of k.command.action).rebuild (profile_of k.command.action).limit k.comp k.conf o sizes fronts;
  joined = [];
}))
duty_for kind.Shown k sizes fronts = opened_by k sizes fronts then λ o. Ok (Shows k o)
duty_for kind.Label k sizes fronts = Ok (OneLabel k)
duty_for kind.Conf k sizes fronts = Ok (PrintConf k)

-- the same by what is asked, and by sizes and fronts of the devices
unfoldable pub duty_by : Asked → List ℕ → List Front → Result Duty Refused
duty_by k sizes fronts = duty_for (profile_of k.command.action).kind k sizes fronts

-- the same, where neither texts nor names are refused
unfoldable pub duty_in : {D : Type 0} → (D → ℕ) → Told D → Command → List Front
    → Result Duty Refused
duty_in size b command fronts =
    asked_in b command then λ k. duty_by k (sizes_in size b.home (names_for k)) fronts

-- ## What is refused though it is admitted

-- a refusal that prints the columns that are dead as the array is opened
abbrev pub beside_dead : Admitted → Status → Refused
beside_dead a s = record { status = s; dead = dead_columns a.opened.columns }

-- the columns as they are opened, but that the one is dead that the action fails or rebuilds
abbrev pub columns_made : Admitted → List Column
columns_made a = changed_at (needs_of a.asked).excused (λ c x. column.Dead) a.opened.columns

-- why: there is nowhere to rebuild to, or nothing to go on with
abbrev pub short_status : Option Rebuilding → Status
short_status None = status.NoSpare
short_status (Some rebuilding.Elsewhere) = status.NoSpare
short_status (Some rebuilding.InPlace) = status.NoSpare
short_status (Some rebuilding.Further) = status.NoRebuild

-- the same, where they are joined
abbrev pub with_joined : Admitted → Result (List View) At → Admitted
with_joined a (Ok views) = record a { joined = views }
with_joined a (Err at) = a

-- how many stripes of the column are left to do: all, or those that aren't done where it is filling
abbrev pub left_by : Shape → List Column → Start → ℕ
left_by y columns (start.Fill c device most) = stripes_on y columns c
left_by y columns (start.Resume c most) = stripes_on y columns c - unwrap_or (option_and_then done_set (slice_get columns c)) 0
left_by y columns (start.Spread c) = stripes_on y columns c

-- how many rebuilds there are: one for each stripe of the column that is left to do, or as many as are asked
unfoldable pub rebuilds_by : Shape → List Column → Option Start → ℕ
rebuilds_by y columns None = 0
rebuilds_by y columns (Some how) = if nat_le (left_by y columns how) (most_of how) then left_by y columns how else most_of how

-- a trace is kept, and more events may come than it has room for: of the items of clients, by the graphs of the file and those that are joined, and of the rebuilds, each of which has the graph of one unit
abbrev pub is_past_bound : Admitted → Bool
is_past_bound a = option_map_or (λ beside. beside.trace) (profile_of a.asked.command.action).beside false
    && nat_lt 1048576
    (trace_sum (layout_of a) (map (λ n. n.graph) a.asked.book ++ a.joined) (length (names_of a.asked.conf)) a.clients
    + rebuilds_by (layout_of a) (columns_made a) a.start * item_bound (length (names_of a.asked.conf)) ((layout_of a).width + 3))

-- The first refusal that there is, if there is one: an array that something is done with isn't lost, no other column is filling beside one that is rebuilt, it has somewhere to rebuild to or something to go on with, its graphs are joined, and a trace that is kept has room for all events. Nothing else is judged. The refusal of a lost array prints those columns that are dead as the action makes them, and one that was filling.
abbrev pub judged : Duty → Option Loss → Result (List View) At → Result Duty Refused
judged (OnArray a) loss joined =
    option_map_or (λ r. Err r) (first_in (λ refusal. refusal) (
    option_map (λ (l : Loss). record { status = status.Lost l.first l.second l.stripe; dead = dead_columns (given_up (columns_made a)) }) loss
    ∷ option_map (λ c. only (status.Rebuilding c)) (other_filling a.asked a.opened.columns)
    ∷ (if is_some (profile_of a.asked.command.action).rebuild && is_none a.start then Some (only (short_status (profile_of a.asked.command.action).rebuild)) else None)
    ∷ option_map (λ at. beside_dead a (status.Script at.line at.code)) (result_err joined)
    ∷ (if is_past_bound (with_joined a joined) then Some (beside_dead (with_joined a joined) (status.Script 0 8)) else None)
    ∷ [])) (Ok (OnArray (with_joined a joined)))
judged (Shows k o) loss joined = Ok (Shows k o)
judged (OneLabel k) loss joined = Ok (OneLabel k)
judged (PrintConf k) loss joined = Ok (PrintConf k)

-- What is to be done, or the first refusal: the duty, if it is judged so. Of an array that is refused before, nothing is joined.
pub record IsWanted (duty wanted : Result Duty Refused) : Type 0 where
  pub loss : Option Loss
  pub joined : Result (List View) At
  pub is_loss : (a : Admitted) → duty ≡ Ok (OnArray a) → IsLossBy (layout_of a) None (judged_states a) loss
  pub is_joined : (a : Admitted) → duty ≡ Ok (OnArray a) → loss ≡ None → other_filling a.asked a.opened.columns ≡ None → (is_some (profile_of a.asked.command.action).rebuild && is_none a.start) ≡ false → AreJoined (layout_of a) a.asked.book a.asked.clients (length a.asked.book) a.asked.joins joined
  pub is : wanted ≡ (duty then λ d. judged d loss joined)

-- Memory was wanted behind the opening: those columns are printed dead that are so as the array is opened.
abbrev pub WantsMemory : Result Duty Refused → Refused → Type 0
WantsMemory duty r = (a : Admitted) × (duty ≡ Ok (OnArray a)) × (r ≡ beside_dead a status.Memory)
