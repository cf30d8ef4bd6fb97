-- What becomes of what was handed in, once it is served: a run of events from an opening to rest, and what is handed back.
use Rattle.std.specs.Prelude.{◌≡◌, ◌≢◌, ◌<◌, ◌≤◌, ◌+◌, ◌*◌, ◌⊎◌, ◌++◌, ℕ, List, [], ◌∷◌, length, Bool, Option, Some, None, slice_get, slice_index_or, reverse, unwrap_or, count_by, MatchOption, if◌then◌else◌, true, false}
use Rattle.blk_plain.specs.declared.op.Op.{Op}
use Rattle.blk_plain.specs.declared.op.OpId.{OpId}
use Rattle.blk_disk.specs.declared.disk.Disk.{Ghosts as DiskGhosts}
use Rattle.blk_disk.specs.Devices.{size_of, contents_of, calls_of, RisesOn, Changes}
use Rattle.lay_core.specs.Layout.{Shape}
use Rattle.lay_core.specs.declared.layout.Layout.{Ghosts as LayoutGhosts}
use Rattle.eng_cols.specs.declared.column.Column.{Column}
use Rattle.eng_cols.specs.declared.column.Column.TheVariants as column
use Rattle.eng_cols.specs.declared.spot.Loss.{Loss}
use Rattle.eng_cols.specs.Cols.{Dead, HasDevice, is_set_filling, is_set_spread, Columns}
use Rattle.eng_cols.specs.Contents.{Agrees, AnyStripe}
use Rattle.eng_cols.specs.Lost.{NotLost}
use Rattle.eng_cols.specs.Seats.{HasStripeLeft}
use Rattle.eng_world.specs.declared.item.Item.{Item}
use Rattle.eng_world.specs.declared.item.Item.TheVariants as item
use Rattle.eng_world.specs.declared.item.Reply.TheVariants as reply
use Rattle.eng_world.specs.declared.item.Traced.{Traced}
use Rattle.eng_world.specs.declared.item.Traced.TheVariants as event
use Rattle.eng_world.specs.World.{World}
use Rattle.eng_world.specs.Planning.{Graphs}
use Rattle.eng_world.specs.Plain.{replay}
use Rattle.eng_world.specs.Step.{IsOpening, EventsLead}
use Rattle.eng_world.specs.Legal.{AreOps, RepliesFit}
use Rattle.eng_world.specs.Invariant.{IsTold, AllReplied}
use Rattle.eng_world.specs.Causes.{HaveCauses, IsLossOf}
use Rattle.eng_world.specs.Rows.{IsInRows}
use Rattle.eng_rest.specs.Left.{IsOwn}
use Rattle.eng_parts.specs.declared.setup.Setup.{Setup}
use Rattle.eng_parts.specs.declared.setup.Closed.{Closed}
use Rattle.eng_log.specs.Given.{items_at}
use Rattle.eng_log.specs.Handed.{Handout, Hands}
use Rattle.eng_log.specs.Laid.{sectors_before, IsRow}
use Rattle.eng_clients.specs.Replied.{replies_at}
use Rattle.eng_cols.specs.Stripes.{done_at, states_of}
use Rattle.eng_world.specs.Rebuilding.{OneRebuilds, SpreadAlike}
use Rattle.eng_starts.specs.Rebuilding.{AreRebuildsBelow}
use Rattle.eng_state.specs.Shows.{AreTold}
use Rattle.eng_array.specs.declared.start.Start.{Start}
use Rattle.eng_array.specs.declared.start.Start.TheVariants as rebuild
use Rattle.eng_array.specs.Starts.{column_of, event_of, most_of, begun_by}
use Rattle.eng_array.specs.Tickets.{AllOf}
use Rattle.top_close.specs.Closes.{ClosesAs}
use Rattle.top_serve.specs.Setups.{shape_in, states_in, graphs_in, begun_in, with_start, WasInSync, columns_in}
use Rattle.top_serve.specs.Caused.{WentBadOn, RestsOn}

-- the events of a run, the newest first, as a trace has them, if it is kept
abbrev pub trace_of : Bool → List Traced → List Traced
trace_of keeps events = if keeps then reverse events else []

-- an item asks that the column fail, and was replied ok
pub record WasFailed (now : World) (c : ℕ) : Type 0 where
  pub id : OpId
  pub asked : slice_get (now.clients id.client).items id.index ≡ Some (item.Fail c)
  pub replied : slice_get (now.clients id.client).replies id.index ≡ Some reply.Okay

-- not lost by the columns as they are now; or lost by those that one event left, which have only died since
abbrev pub IsLossIn : Shape → Graphs → World → List Traced → World → Option Loss → Type 0
IsLossIn y graphs start events now None = NotLost y now.columns
IsLossIn y graphs start events now (Some loss) = IsLossOf y graphs start events now loss

-- The events, the newest first, are the clients' own; where a rebuild starts, that comes before all of them, with the number of its rebuilds.
abbrev pub BeginsBy : Option Start → ℕ → List Traced → Type 0
BeginsBy start rebuilds events = MatchOption start (AllOf IsOwn events) (λ how. (own : List Traced) × (events ≡ own ++ event_of how rebuilds ∷ []) × AllOf IsOwn own)

-- the items of client 16, if a rebuild starts, by the columns just before: a rebuild of each of the first stripes that aren't done of the column that is rebuilt, as many as are asked; else none
abbrev pub IsRebuiltBy : Shape → Columns → Option Start → List Item → Type 0
IsRebuiltBy y cols start items = MatchOption start (items ≡ []) (λ how. AreRebuildsBelow y (begun_by cols how) (column_of how) (most_of how) y.stripes items)

-- it is the column that is to be spread, it isn't dead, and one of its stripes is left to do
abbrev pub IsUnbuilt : Shape → Option Start → World → ℕ → Type 0
IsUnbuilt y how now c = (how ≡ Some (rebuild.Spread c)) × (slice_get now.columns c ≡ Some Dead → ⊥) × HasStripeLeft y now.columns c

-- a column as it is kept that was this one: the same, but one that was filling may be live, or have other stripes done
abbrev pub IsKeptAs : Option Column → Option Column → Type 0
IsKeptAs None kept = kept ≡ None
IsKeptAs (Some (column.Live device)) kept = kept ≡ Some (column.Live device)
IsKeptAs (Some column.Dead) kept = kept ≡ Some column.Dead
IsKeptAs (Some (column.Filling device done)) kept = (kept ≡ Some (column.Live device)) ⊎ ((n : ℕ) × (kept ≡ Some (column.Filling device n)))
IsKeptAs (Some column.Spread) kept = kept ≡ Some column.Spread

-- how many stripes of the column are done as it is begun so
abbrev pub done_before : Option Start → List Column → ℕ → ℕ
done_before how columns c = unwrap_or (done_at (with_start how columns) c) 0

-- of the column so many stripes are rebuilt onto its device at most; where no rebuild starts, none of any
abbrev pub FillsBy : Option Start → ℕ → ℕ → Type 0
FillsBy None c most = most ≡ 0
FillsBy (Some (rebuild.Fill column device asked)) c most = (column ≡ c) × (asked ≡ most)
FillsBy (Some (rebuild.Resume column asked)) c most = (column ≡ c) × (asked ≡ most)
FillsBy (Some (rebuild.Spread column)) c most = ⊥

-- what reads handed out, with the region of each item
abbrev pub handed_in : {L D : Type 0} → Closed L D → Handout
handed_in closed = record { bytes = closed.sectors; regions = closed.regions.items }

module _ {L D : Type 0} (lay : LayoutGhosts L) (disk : DiskGhosts D) (setup : Setup L D) where
  -- ## The run

  -- An opening of what was handed in: its columns and items; no device has failed, all 2,048 buffers are free, and devices hold and tell what they did. What a device holds is said where devices of this type tell it, and its calls where it tells them.
  pub record CoreOpens (w : World) : Type 0 where
    pub opening : IsOpening (shape_in lay setup) w
    pub columns : w.columns ≡ states_in lay setup
    pub items : (c : ℕ) → (w.clients c).items ≡ items_at setup.clients.items c
    pub failed : (d : ℕ) → w.failed d ≡ false
    pub free : w.free ≡ 2048
    pub contents : disk.tells → (d n k : ℕ) → k < 512 → w.contents d n k ≡ contents_of disk setup.devices.items d n k
    pub calls : (d : ℕ) → AreTold disk (calls_of disk setup.devices.items d) (w.calls d)

  -- The events, the newest first, are the clients' own, behind the start of the rebuild where there is one, and lead to rest: each item has its reply, and no job is out. No items have come or gone but those of client 16, which are the rebuilds; beside one into the spare places no column is filling.
  pub record CoreRests (how : Option Start) (start : World) (events : List Traced) (now : World) : Type 0 where
    pub begins : BeginsBy how (length (now.clients 16).items) events
    pub run : EventsLead (shape_in lay setup) (graphs_in setup) start events now
    pub items : (c : ℕ) → c ≢ 16 → (now.clients c).items ≡ items_at setup.clients.items c
    pub rebuilds : IsRebuiltBy (shape_in lay setup) (columns_in lay setup) how (now.clients 16).items
    pub alone : (c : ℕ) → how ≡ Some (rebuild.Spread c) → count_by is_set_filling setup.columns.items ≡ 0
    pub replied : AllReplied now
    pub out : now.out ≡ 0

  -- The history is legal over the blocks of the opening. Where the array was in sync and devices tell what they hold, each data reply is what the blocks held at its place.
  pub record CoreMeans (start now : World) : Type 0 where
    pub legal : IsTold start.blocks now
    pub fits : disk.tells → WasInSync lay disk setup → RepliesFit start.blocks now

  -- ## What is handed back

  module _ (how : Option Start) (closed : Closed L D) where
    -- Layout and items are as they were handed in; replies, history, loss and trace are the run's; and so are the columns, of which one that is rebuilt is judged by its stripes that are left. At most one is filling, and at most one is spread.
    pub record CoreTells (events : List Traced) (now : World) : Type 0 where
      pub layout : closed.layout ≡ setup.layout
      pub closes : ClosesAs (shape_in lay setup) now.columns closed.columns.items
      pub filling : count_by is_set_filling closed.columns.items ≤ 1
      pub spread : count_by is_set_spread closed.columns.items ≤ 1
      pub clients : length closed.clients.items ≡ length setup.clients.items
      pub few : length closed.clients.items ≤ 16
      pub items : (c : ℕ) → items_at closed.clients.items c ≡ items_at setup.clients.items c
      pub rows : length closed.replies.items ≡ length setup.clients.items
      pub replies : (c : ℕ) → c ≢ 16 → replies_at closed.replies.items c ≡ (now.clients c).replies
      pub history : closed.history.items ≡ now.history
      pub lost : closed.lost ≡ now.lost
      pub trace : closed.trace.items ≡ trace_of setup.trace events

    -- The regions lie one behind the other, one for each item, as long as its read, and there are no bytes but theirs; data replies hand out what is there, which is said where devices tell what they hold, and what else is there is zero.
    pub record HandsOut (now : World) : Type 0 where
      pub rows : (c : ℕ) → c < 16 → IsRow (items_at setup.clients.items c) (sectors_before setup.clients.items c) (length (items_at setup.clients.items c)) (slice_index_or closed.regions.items c [])
      pub all : length closed.sectors ≡ 512 * sectors_before setup.clients.items 16
      pub handed : Hands disk.tells (handed_in closed) now.clients

    -- the sector may have changed: it is one of the array's rows, on a device that was in a column or is filled; or the device has no such sector
    abbrev pub CoreMayChange : ℕ → ℕ → Type 0
    CoreMayChange d n = (((c : ℕ) × HasDevice (begun_in lay setup how) c d) × IsInRows (shape_in lay setup) n) ⊎ (size_of disk setup.devices.items d ≤ n)

    -- Devices hold and tell what they do in the run's last world, and have changed nowhere else. Where the array was in sync and isn't lost, the units that are left on them, by the columns that are handed back, encode what the history makes of the opening's blocks.
    pub record CoreLeaves (start now : World) : Type 0 where
      pub contents : disk.tells → (d n k : ℕ) → k < 512 → now.contents d n k ≡ contents_of disk closed.devices.items d n k
      pub calls : (d : ℕ) → AreTold disk (calls_of disk closed.devices.items d) (now.calls d)
      pub frame : Changes disk CoreMayChange setup.devices.items closed.devices.items
      pub agrees : disk.tells → WasInSync lay disk setup → closed.lost ≡ None → (ops : List Op) × AreOps now now.history ops
          × Agrees (shape_in lay setup) (contents_of disk closed.devices.items) (states_of (shape_in lay setup) closed.columns.items) (replay start.blocks ops) AnyStripe

    -- ## Causes

    -- its count of faults rose, or an item was replied ok by which a column failed that had it
    abbrev pub IsFailedBy : World → ℕ → Type 0
    IsFailedBy now d = RisesOn disk setup.devices.items closed.devices.items d ⊎ ((c : ℕ) × HasDevice (begun_in lay setup how) c d × WasFailed now c)

    -- the count of its device rose, or an item was replied ok by which it failed
    abbrev pub IsDeadBy : World → ℕ → Type 0
    IsDeadBy now c = WasFailed now c ⊎ ((d : ℕ) × HasDevice (begun_in lay setup how) c d × RisesOn disk setup.devices.items closed.devices.items d)

    -- why a rebuild that started so isn't done: the array was lost, or a column that it rests on was dead as it started, or has died
    abbrev pub IsStoppedBy : World → Start → Type 0
    IsStoppedBy now rebuild = ((loss : Loss) × (now.lost ≡ Some loss))
        ⊎ ((k : ℕ) × RestsOn (shape_in lay setup) rebuild k × ((slice_get (with_start how setup.columns.items) k ≡ Some column.Dead) ⊎ IsDeadBy now k))

    -- Each reply has its cause. Each column is kept as what it was, the one that is rebuilt as what it was once that had begun; or it is dead for a cause, or as it was to be spread and isn't whole, which has its own. One that is filling in the end is so though all rebuilds that were asked of it were made; while the same columns are spread, and no client has a rebuild among its items, so many more of its stripes are done as were asked. Each failed device has failed by something; so has each device on which a node went bad; and the loss is that of the columns which one event left.
    pub record CoreCauses (start : World) (events : List Traced) (now : World) : Type 0 where
      pub replies : HaveCauses (shape_in lay setup) (graphs_in setup) start events now
      pub count : length closed.columns.items ≡ length setup.columns.items
      pub ends : (c : ℕ) → IsKeptAs (slice_get (with_start how setup.columns.items) c) (slice_get closed.columns.items c) ⊎ ((slice_get closed.columns.items c ≡ Some column.Dead) × (IsDeadBy now c ⊎ IsUnbuilt (shape_in lay setup) how now c))
      pub paused : closed.lost ≡ None → (c d n most : ℕ) → FillsBy how c most → slice_get closed.columns.items c ≡ Some (column.Filling d n) → length (now.clients 16).items ≡ most
      pub far : closed.lost ≡ None → OneRebuilds now → (c d n most : ℕ) → FillsBy how c most → slice_get closed.columns.items c ≡ Some (column.Filling d n) → SpreadAlike (begun_in lay setup how) now.columns → n ≡ done_before how setup.columns.items c + most
      pub stopped : (rebuild : Start) → how ≡ Some rebuild → slice_get closed.columns.items (column_of rebuild) ≡ Some column.Dead → IsStoppedBy now rebuild
      pub failed : (d : ℕ) → now.failed d ≡ true → IsFailedBy now d
      pub bad : (later before : List Traced) (id : OpId) (node : ℕ) → events ≡ later ++ event.Bad id node ∷ before → (d : ℕ) × WentBadOn (shape_in lay setup) (graphs_in setup) (begun_in lay setup how) start before id node later now d × IsFailedBy now d
      pub loss : IsLossIn (shape_in lay setup) (graphs_in setup) start events now closed.lost

    -- ## All of it

    pub record IsServed : Type 0 where
      pub start : World
      pub events : List Traced
      pub now : World
      pub opens : CoreOpens start
      pub rests : CoreRests how start events now
      pub means : CoreMeans start now
      pub tells : CoreTells events now
      pub hands : HandsOut now
      pub leaves : CoreLeaves start now
      pub causes : CoreCauses start events now
