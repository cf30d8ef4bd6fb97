-- What is seen of what is to be done, without where it lies in memory.
use Rattle.std.specs.Prelude.{◌≡◌, ◌⊎◌, ◌≤◌, ◌*◌, ◌&&◌, ◌++◌, ℕ, List, [], true, false, length, map, All, Option, Some, None, is_none, Ok, Err, Result}
use Rattle.blk_disk.specs.declared.disk.Disk.{Ghosts}
use Rattle.lay_core.specs.Layout.{Shape, blocks_in}
use Rattle.graph_mean.specs.Graph.{Held, View}
use Rattle.text_steps.specs.declared.at.At.{At}
use Rattle.eng_array.specs.declared.start.Start.{Start}
use Rattle.eng_cols.specs.Cols.{Columns, ColumnState, IsFor}
use Rattle.eng_cols.specs.declared.column.Column.{Column}
use Rattle.eng_cols.specs.Lost.{IsLost, NotLost}
use Rattle.item_list.specs.ItemList.{ItemList}
use Rattle.raid_conf.specs.declared.layouts.AnyLayout.{AnyLayout}
use Rattle.raid_conf.specs.Layouts.{shape_in, shape_of}
use Rattle.raid_script.specs.Asked.{Asked as Item, AreFew, IsAsked, seen}
use Rattle.top_bay.specs.Asked.{Asked}
use Rattle.top_join.specs.Joining.{AreJoined}
use Rattle.top_open.specs.declared.fronts.Front.{Front}
use Rattle.top_open.specs.Opening.{Opened, opened_seen}
use Rattle.top_open.specs.declared.fault.OpenFault.{OpenFault}
use Rattle.top_open.specs.declared.fault.OpenFault.TheVariants as fault
use Rattle.top_open.specs.declared.opened.Opened as declared_opened
use Rattle.top_status.specs.declared.status.Status.{Status}
use Rattle.top_status.specs.declared.status.Status.TheVariants as status
use Rattle.top_status.specs.Dead.{dead_columns}
use Rattle.top_rounds.specs.Labels.{given_up}
use Rattle.top_status.specs.Refusals.{Refused, only}
use Rattle.top_words.specs.Asked.{Action, profile_of}
use Rattle.top_words.specs.declared.profile.Kind.TheVariants as kind
use Rattle.top_duty.specs.declared.duty.Duty as declared_duty
use Rattle.top_duty.specs.declared.duty.Duty.TheVariants as duty
use Rattle.top_duty.specs.declared.duty.Ready as declared_ready
use Rattle.top_duty.specs.Duty.{Admitted, Duty, OnArray, Shows, OneLabel, PrintConf, IsWanted, WantsMemory, is_past_bound, judged_states, layout_of, short_status}
use Rattle.top_duty.specs.Steps.{ComesOfJoins, columns_of, drawn_or, with_dead, is_past, admitted_with, is_short}
use Rattle.top_duty.specs.Fit.{IsFit, IsStartIf}
use Rattle.top_duty.specs.Opening.{AreTableRows, kind_of, opened_by, status_of}
use Rattle.top_duty.specs.Start.{has_failed, other_filling, rebuilds, start_in}

-- what items of clients ask for
abbrev pub items_seen : List ItemList → List (List Item)
items_seen clients = map (λ items. map seen items.items) clients

-- the items that are drawn for so many blocks, where the action draws any
abbrev pub drawn_by : Action → ℕ → List (List Item)
drawn_by action blocks = drawn_or (profile_of action).drawn [] blocks

-- graphs, without where they lie in memory
abbrev pub views_of : List Held → List View
views_of graphs = map (λ g. g.drawn) graphs

-- ## What is opened

-- this is that opening; want of memory may come in its place
abbrev pub OpensSo : Result declared_opened.Opened OpenFault → Result Opened Refused → Type 0
OpensSo (Ok o) answer = answer ≡ Ok (opened_seen o)
OpensSo (Err f) answer = (f ≡ fault.Memory) ⊎ (answer ≡ Err (only (status_of f)))

-- ## What is ready

-- the column that is filling beside the one that is to be rebuilt; and why a rebuild can't begin, or can't go on
abbrev pub other_of : Admitted → Option ℕ
other_of a = other_filling a.asked (columns_of a)

abbrev pub short_of : Admitted → Status
short_of a = short_status (profile_of a.asked.command.action).rebuild

-- It isn't lost as the action makes its columns, no other column is filling, there is somewhere to rebuild a column to that is to be, or something to go on with, its graphs are joined, and a trace that is kept has room.
pub record MayBeDone (a : Admitted) : Type 0 where
  pub kept : NotLost (layout_of a) (judged_states a)
  pub alone : other_of a ≡ None
  pub found : is_short a ≡ false
  pub joins : ComesOfJoins a (Ok a.joined)
  pub bound : is_past_bound a ≡ false

-- Something may be done with the array: it is opened as this, a column is rebuilt so or none is, these graphs are joined, and it is judged so.
pub record IsReady (k : Asked) (sizes : List ℕ) (fronts : List Front) (o : Opened) (start : Option Start) (joined : List View) : Type 0 where
  pub opened : opened_by k sizes fronts ≡ Ok o
  pub starts : start ≡ start_in k o sizes fronts
  pub may : MayBeDone (admitted_with k o start joined)

-- Its layout, the items that are drawn, and room for its columns and for the units of a stripe are made.
pub record IsMade (k : Asked) (o : Opened) (layout : AnyLayout) (given : List ItemList) (cols : Columns) (bytes : ℕ) : Type 0 where
  pub shape : shape_in layout ≡ shape_of k.conf o.rows
  pub drawn : items_seen given ≡ drawn_by k.command.action (blocks_in (shape_of k.conf o.rows))
  pub asked : (columns graphs : ℕ) → All (All (IsAsked columns graphs)) (items_seen given)
  pub few : AreFew (items_seen given)
  pub judge : IsFor (shape_of k.conf o.rows) cols
  pub room : 1024 * (shape_of k.conf o.rows).unit_sectors ≤ bytes

-- both; and whether the device that is to be filled couldn't be read
pub record IsPrepared (k : Asked) (sizes : List ℕ) (fronts : List Front) (r : declared_ready.Ready) : Type 0 where
  pub ready : IsReady k sizes fronts (opened_seen r.opened) r.start (views_of r.joined.items)
  pub failed : r.failed ≡ has_failed r.start fronts
  pub rows : AreTableRows k.conf r.opened.rows
  pub made : IsMade k (opened_seen r.opened) r.layout r.drawn.items r.judge r.room

-- ## What is to be done

-- what is admitted, by what is ready for it
abbrev pub admitted_by : Asked → declared_ready.Ready → Admitted
admitted_by k r = admitted_with k (opened_seen r.opened) r.start (views_of r.joined.items)

abbrev pub duty_seen : Asked → declared_duty.Duty → Duty
duty_seen k (duty.OnArray r) = OnArray (admitted_by k r)
duty_seen k (duty.Shows o) = Shows k (opened_seen o)
duty_seen k duty.OneLabel = OneLabel k
duty_seen k duty.PrintConf = PrintConf k

-- it is what the action makes of the array, by sizes and fronts of the devices
abbrev pub IsDutyOver : Asked → List ℕ → List Front → declared_duty.Duty → Type 0
IsDutyOver k sizes fronts (duty.OnArray r) = (kind_of k.command.action ≡ kind.Array) × IsPrepared k sizes fronts r
IsDutyOver k sizes fronts (duty.Shows o) = (kind_of k.command.action ≡ kind.Shown) × (opened_by k sizes fronts ≡ Ok (opened_seen o))
IsDutyOver k sizes fronts duty.OneLabel = kind_of k.command.action ≡ kind.Label
IsDutyOver k sizes fronts duty.PrintConf = kind_of k.command.action ≡ kind.Conf

-- and the array that something is done with, or that is shown, is fit for it, and for the rebuild of a column, if one is rebuilt
abbrev pub IsFitFor : {D : Type 0} → Ghosts D → Asked → List (Option D) → declared_duty.Duty → Type 0
IsFitFor g k devices (duty.OnArray r) = IsFit g k (opened_seen r.opened) devices × IsStartIf g k (opened_seen r.opened) devices r.start
IsFitFor g k devices (duty.Shows o) = IsFit g k (opened_seen o) devices
IsFitFor g k devices duty.OneLabel = Unit {0}
IsFitFor g k devices duty.PrintConf = Unit {0}

-- ## Why nothing is done

-- why a script is refused behind the opening, by what it is if these graphs are joined: they can't be, or its trace would pass its bound
abbrev pub RefusedScript : (ℕ → ℕ → Type 0) → (List View → Type 0) → (line code : ℕ) → Type 0
RefusedScript apart past line code = apart line code ⊎ ((views : List View) × past views × (line ≡ 0) × (code ≡ 8))

-- Why nothing is done with an array that was opened: it is lost; or it isn't, and another column is filling; or none is, and there is nowhere to rebuild a column to, or nothing to go on with; or there is, and graphs can't be joined; or they are, and its trace would pass its bound; or memory was wanted.
abbrev pub RefusedAfter : Admitted → Status → Type 0
RefusedAfter a (status.Lost first second stripe) = IsLost (layout_of a) (judged_states a) (record { first = first; second = second; stripe = stripe })
RefusedAfter a status.NoSpare = NotLost (layout_of a) (judged_states a) × (other_of a ≡ None) × (is_short a ≡ true) × (short_of a ≡ status.NoSpare)
RefusedAfter a status.NoRebuild = NotLost (layout_of a) (judged_states a) × (other_of a ≡ None) × (is_short a ≡ true) × (short_of a ≡ status.NoRebuild)
RefusedAfter a (status.Rebuilding c) = NotLost (layout_of a) (judged_states a) × (other_of a ≡ Some c)
RefusedAfter a (status.Script line code) = NotLost (layout_of a) (judged_states a) × (other_of a ≡ None) × (is_short a ≡ false)
    × RefusedScript (λ l c. ComesOfJoins a (Err (record { line = l; code = c })))
    (λ views. ComesOfJoins a (Ok views) × (is_past_bound (record a { joined = views }) ≡ true)) line code
RefusedAfter a status.Memory = Unit {0}
RefusedAfter a _ = ⊥

-- this comes of the join lines over a layout
abbrev pub ComesOver : Shape → Asked → Result (List View) At → Type 0
ComesOver y k r = AreJoined y k.book k.clients (length k.book) k.joins r

-- they can't be joined, or memory was wanted
abbrev pub RefusedJoins : Shape → Asked → Status → Type 0
RefusedJoins y k (status.Script line code) = ComesOver y k (Err (record { line = line; code = code }))
RefusedJoins y k status.Memory = Unit {0}
RefusedJoins y k _ = ⊥

-- the graphs of the file and those that are joined
abbrev pub graphs_with : Asked → List View → List View
graphs_with k views = map (λ n. n.graph) k.book ++ views

-- the same of an array that isn't lost, whose clients are those of the script, beside so many rebuilds, and where this other column is filling: nothing is done with it
abbrev pub RefusedUnlost : Shape → Asked → Option ℕ → ℕ → Option Start → Status → Type 0
RefusedUnlost y k other count start (status.Rebuilding c) = other ≡ Some c
RefusedUnlost y k other count start status.NoSpare = (other ≡ None) × ((rebuilds k.command.action && is_none start) ≡ true) × (short_status (profile_of k.command.action).rebuild ≡ status.NoSpare)
RefusedUnlost y k other count start status.NoRebuild = (other ≡ None) × ((rebuilds k.command.action && is_none start) ≡ true) × (short_status (profile_of k.command.action).rebuild ≡ status.NoRebuild)
RefusedUnlost y k other count start (status.Script line code) = (other ≡ None) × ((rebuilds k.command.action && is_none start) ≡ false)
    × RefusedScript (λ l c. ComesOver y k (Err (record { line = l; code = c })))
    (λ views. ComesOver y k (Ok views) × (is_past y k (graphs_with k views) k.clients count ≡ true)) line code
RefusedUnlost y k other count start status.Memory = Unit {0}
RefusedUnlost y k other count start _ = ⊥

-- or it is, by these graphs
pub record GoesUnlost (y : Shape) (k : Asked) (other : Option ℕ) (count : ℕ) (start : Option Start) (views : List View) : Type 0 where
  pub alone : other ≡ None
  pub found : (rebuilds k.command.action && is_none start) ≡ false
  pub joins : ComesOver y k (Ok views)
  pub bound : is_past y k (graphs_with k views) k.clients count ≡ false

-- and of one of these columns
abbrev pub RefusedIf : Shape → Asked → List ColumnState → Option ℕ → ℕ → Option Start → Status → Type 0
RefusedIf y k cols other count start (status.Lost first second stripe) = IsLost y cols (record { first = first; second = second; stripe = stripe })
RefusedIf y k cols other count start status.Memory = Unit {0}
RefusedIf y k cols other count start s = NotLost y cols × RefusedUnlost y k other count start s

abbrev pub GoesIf : Shape → Asked → List ColumnState → Option ℕ → ℕ → Option Start → List View → Type 0
GoesIf y k cols other count start views = NotLost y cols × GoesUnlost y k other count start views

-- the columns that are printed dead beside a status: those of a lost array as the action makes them, where one that was filling is dead; and none where there is nowhere to rebuild to, nothing to go on with, or another column that is filling
abbrev pub dead_beside : Option ℕ → List Column → Status → List ℕ
dead_beside excused columns (status.Lost first second stripe) = dead_columns (given_up (with_dead excused columns))
dead_beside excused columns status.NoSpare = []
dead_beside excused columns status.NoRebuild = []
dead_beside excused columns (status.Rebuilding c) = []
dead_beside excused columns _ = dead_columns columns

-- what was asked is refused, or memory was wanted
abbrev pub RefusedHere : Result Duty Refused → Refused → Type 0
RefusedHere duty r = (IsWanted duty (Err r) ⊎ WantsMemory duty r) ⊎ (r ≡ only status.Memory)

-- a status by which a call is refused; a fault of the bay only where its count of faults rose
abbrev pub IsRefusal : Type 0 → Status → Type 0
IsRefusal rose status.Ok = ⊥
IsRefusal rose status.SinkFault = ⊥
IsRefusal rose (status.NotInSync count) = ⊥
IsRefusal rose status.BayFault = rose
IsRefusal rose _ = Unit {0}
