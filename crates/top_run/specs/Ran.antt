-- What a run of clients is, and what it leaves.
use Rattle.std.specs.Prelude.{◌≡◌, ◌≢◌, ◌⊎◌, ◌<◌, ◌≤◌, ◌+◌, ◌*◌, ℕ, List, [], ◌∷◌, ◌++◌, length, true, false, Option, Some, None, MatchOption, if◌then◌else◌, map, drop, reverse, count_by, slice_get, slice_index, slice_index_or, sum_by, unwrap_or, Contains, option_and_then}
use Rattle.blk_plain.specs.declared.op.Op.{Op}
use Rattle.blk_plain.specs.declared.op.OpId.{OpId}
use Rattle.blk_disk.specs.declared.disk.Call.{Call}
use Rattle.blk_disk.specs.declared.disk.Disk.{Ghosts}
use Rattle.blk_disk.specs.Disk.{call_of}
use Rattle.blk_disk.specs.Devices.{size_of, contents_of, calls_of, RisesOn, Changes}
use Rattle.lay_core.specs.Layout.{IsLayout}
use Rattle.graph_mean.specs.Task.{Aim, Missing}
use Rattle.graph_mean.specs.Graph.{View}
use Rattle.eng_cols.specs.declared.column.Column.{Column}
use Rattle.eng_cols.specs.declared.column.Column.TheVariants as column
use Rattle.eng_cols.specs.declared.spot.Loss.{Loss}
use Rattle.eng_cols.specs.Cols.{ColumnState, Dead, HasDevice, HasDeviceOn, has_device, is_set_filling}
use Rattle.eng_cols.specs.Contents.{Agrees, InSync}
use Rattle.eng_cols.specs.Seats.{HasStripeLeft}
use Rattle.eng_cols.specs.Deaths.{Dies}
use Rattle.eng_world.specs.declared.item.Reply.TheVariants as reply
use Rattle.eng_world.specs.declared.item.Traced.{Traced}
use Rattle.eng_world.specs.declared.item.Traced.TheVariants as event
use Rattle.eng_world.specs.Planning.{Graphs}
use Rattle.eng_world.specs.Plain.{replay}
use Rattle.eng_world.specs.World.{World}
use Rattle.eng_world.specs.Step.{IsOpening, EventsLead}
use Rattle.eng_world.specs.Legal.{AreOps, RepliesFit}
use Rattle.eng_world.specs.Invariant.{IsTold}
use Rattle.eng_cols.specs.Stripes.{states_of, are_spread, done_set}
use Rattle.eng_rest.specs.Left.{IsOwn}
use Rattle.eng_starts.specs.Rebuilding.{AreRebuildsBelow}
use Rattle.eng_state.specs.Shows.{AreTold}
use Rattle.eng_array.specs.Starts.{column_of, event_of, begun_by, most_of}
use Rattle.eng_array.specs.Tickets.{AllOf}
use Rattle.eng_array.specs.declared.start.Start.{Start}
use Rattle.eng_array.specs.declared.start.Start.TheVariants as rebuild
use Rattle.raid_script.specs.Asked.{Asked, Other, seen}
use Rattle.raid_script.specs.Replies.{StandFor, item_bytes, item_sectors, items_at, no_item, replies_at, row_sectors, sectors_before}
use Rattle.top_serve.specs.Setups.{with_start}
use Rattle.top_serve.specs.Caused.{RestsOn, WentBadOn}
use Rattle.top_serve.specs.Served.{FillsBy, IsKeptAs, WasFailed}
use Rattle.top_close.specs.Calls.{EndsSettled}
use Rattle.top_close.specs.Closes.{ClosesAs}
use Rattle.top_close.specs.Ended.{IsLossBy}
use Rattle.top_close.specs.Stage.{IsGivenUp, IsGivenUpIn}
use Rattle.top_run.specs.Work.{Work, Service}
use Rattle.graph_lib.specs.Library.{pieces_upto}
use Rattle.graph_lib.specs.Assembled.{assembled}

-- ## Words of a run

-- byte k of block b of what item i of client c is handed, by what is printed
abbrev pub told_byte : Service → ℕ → ℕ → ℕ → ℕ → ℕ
told_byte s c i b k = slice_index (item_bytes (items_at s.clients c) (drop (512 * sectors_before s.clients c) s.sectors) i (item_sectors (slice_index_or (items_at s.clients c) i no_item))) (512 * b + k)

-- each item is one that a script may have: so it is no rebuild
abbrev pub AsksAsScripts : Work → Type 0
AsksAsScripts a = (row : List Asked) → Contains a.clients row → Contains row Other → ⊥

-- the columns once a rebuild has begun, if one does; only which columns there are is meant by these, and not which stripes are done
abbrev pub begun_in : Work → List ColumnState
begun_in a = states_of a.layout (with_start a.start a.columns)

module _ {D : Type 0} (g : Ghosts D) (a : Work) (taken : List (Option D)) where
  -- the check units of the array fit its data, by what its devices hold as they are taken
  abbrev pub WasInSync : Type 0
  WasInSync = InSync a.layout (contents_of g taken) (states_of a.layout a.columns)

  -- ## The run

  -- An opening of what is asked: its columns and items; no device has failed, and all buffers of the pool are free; devices hold and tell what they did as they were taken, and the blocks are what they decode to. What a device holds is said where devices of this type tell it, and its calls where it tells them.
  pub record Opens (w : World) : Type 0 where
    pub opening : IsOpening a.layout w
    pub columns : w.columns ≡ states_of a.layout a.columns
    pub items : (c : ℕ) → map seen (w.clients c).items ≡ slice_index_or a.clients c []
    pub failed : (d : ℕ) → w.failed d ≡ false
    pub free : w.free ≡ 2048
    pub contents : g.tells → (d n k : ℕ) → k < 512 → w.contents d n k ≡ contents_of g taken d n k
    pub calls : (d : ℕ) → AreTold g (calls_of g taken d) (w.calls d)

  module _ (s : Service) where
    -- The events, the newest first, lead to rest: each item has its reply, and no job is out. The graphs that operations may have are those of the file, by number, and the library's, in which a rebuild without target has its unit counted as there. All events are the clients' own, but for the start of a rebuild, if there is one, which is the first; then client 16 has a rebuild of each of the first of the column's stripes that aren't done, as many as are asked, and nothing else. Beside a rebuild into the spare places no column is filling.
    pub record Rests (graphs : Graphs) (start : World) (events : List Traced) (now : World) : Type 0 where
      pub file : (n : ℕ) (graph : View) → slice_get a.graphs n ≡ Some graph → graphs.file n ≡ graph
      pub drawn : (t : Aim) (missing : Missing) → graphs.library t missing ≡ assembled (pieces_upto t missing true t.stripes)
      pub begins : MatchOption a.start (AllOf IsOwn events) (λ how. (own : List Traced) × (events ≡ own ++ event_of how (length (now.clients 16).items) ∷ []) × AllOf IsOwn own)
      pub run : EventsLead a.layout graphs start events now
      pub rebuilds : MatchOption a.start ((now.clients 16).items ≡ [])
          (λ how. AreRebuildsBelow a.layout (begun_by (record { states = states_of a.layout a.columns; stripes = a.layout.stripes }) how) (column_of how) (most_of how) a.layout.stripes (now.clients 16).items)
      pub alone : (c : ℕ) → a.start ≡ Some (rebuild.Spread c) → count_by is_set_filling a.columns ≡ 0
      pub replied : (c : ℕ) → length (now.clients c).replies ≡ length (now.clients c).items
      pub out : now.out ≡ 0

    -- What is told of it: the items that were asked of at most sixteen clients, a reply to each, the history and the events, and what reads hand out, a sector for each block that they ask and none else: where the reply is data its blocks, where devices tell what they hold, and zeros where it's another one. Of client 16, which rebuilds, neither items nor replies are told.
    pub record Tells (events : List Traced) (now : World) : Type 0 where
      pub asked : map (λ items. map seen items.items) s.clients ≡ a.clients
      pub few : length s.clients ≤ 16
      pub items : (c : ℕ) → c ≢ 16 → items_at s.clients c ≡ (now.clients c).items
      pub rows : length s.replies ≡ length s.clients
      pub replies : (c : ℕ) → c ≢ 16 → replies_at s.replies c ≡ (now.clients c).replies
      pub history : s.history ≡ now.history
      pub trace : s.trace ≡ (if a.trace then reverse events else [])
      pub stands : StandFor s.clients s.replies s.sectors
      pub sectors : length s.sectors ≡ 512 * sum_by (λ row. row_sectors row.items) s.clients
      pub handed : g.tells → (c i b k : ℕ) → slice_get (now.clients c).replies i ≡ Some reply.Data → b < item_sectors (slice_index_or (items_at s.clients c) i no_item) → k < 512 → (now.clients c).handed i b k ≡ told_byte s c i b k
      pub zeros : (c i b k : ℕ) → (slice_get (now.clients c).replies i ≡ Some reply.Data → ⊥) → b < item_sectors (slice_index_or (items_at s.clients c) i no_item) → k < 512 → told_byte s c i b k ≡ 0

    module _ (back : List (Option D)) where
      -- ## What it means

      -- The history is legal over the blocks of the opening. Where the array was in sync and devices tell what they hold, each data reply is what the blocks held at its place; and where the array isn't lost, the units that are left on the devices as they are put back, by the columns in the end, encode what the history makes of those blocks.
      pub record Means (start now : World) : Type 0 where
        pub legal : IsTold start.blocks now
        pub fits : g.tells → WasInSync → RepliesFit start.blocks now
        pub agrees : g.tells → WasInSync → s.ending.lost ≡ None → (ops : List Op) × AreOps now now.history ops
            × Agrees a.layout (contents_of g back) (states_of a.layout s.ending.columns) (replay start.blocks ops) (λ _. Unit {0})

      -- ## How it ends

      -- the device of the column had its count of faults rise
      abbrev pub RisesAt : ℕ → Type 0
      RisesAt c = (d : ℕ) × HasDevice (begun_in a) c d × RisesOn g taken back d

      -- a column is kept as what it was; or it is dead, as an item was replied ok by which it failed, or its device's count of faults rose, or it was to be spread and not all of its stripes were rebuilt
      abbrev pub EndsAs : World → Option Column → Option Column → ℕ → Type 0
      EndsAs now was kept c = IsKeptAs was kept
          ⊎ ((kept ≡ Some column.Dead) × (WasFailed now c ⊎ (RisesAt c
          ⊎ ((a.start ≡ Some (rebuild.Spread c)) × (slice_get now.columns c ≡ Some Dead → ⊥) × HasStripeLeft a.layout now.columns c))))

      -- The columns as they are kept are those of the run's end, where a column that was being rebuilt is live if it is whole, and else filling still, or dead where it was to be spread; in the end some more may have died, as they were settled, or as the array was lost while they were filling; and the loss is the run's, or that of the columns in the end. A rebuild that began and left its column dead was stopped by something: the array was lost in the run; or a column that the rebuild rests on was dead as it started, or an item was replied ok by which it failed, or its device's count of faults rose.
      pub record ColumnsEnd (now : World) : Type 0 where
        pub kept : List Column
        pub closes : ClosesAs a.layout now.columns kept
        pub count : length kept ≡ length a.columns
        pub came : (c : ℕ) → EndsAs now (slice_get (with_start a.start a.columns) c) (slice_get kept c) c
        pub paused : s.ending.lost ≡ None → (c d n most : ℕ) → FillsBy a.start c most → slice_get kept c ≡ Some (column.Filling d n) → length (now.clients 16).items ≡ most
        pub far : s.ending.lost ≡ None → AsksAsScripts a → (c d n most : ℕ) → FillsBy a.start c most → slice_get kept c ≡ Some (column.Filling d n) → ((k : ℕ) → are_spread now.columns k ≡ are_spread (begun_in a) k) → n ≡ unwrap_or (option_and_then done_set (slice_get (with_start a.start a.columns) c)) 0 + most
        pub stopped : (how : Start) → a.start ≡ Some how → slice_get kept (column_of how) ≡ Some column.Dead
            → ((loss : Loss) × (now.lost ≡ Some loss)) ⊎ ((c : ℕ) × RestsOn a.layout how c × ((slice_get (with_start a.start a.columns) c ≡ Some column.Dead) ⊎ (WasFailed now c ⊎ RisesAt c)))
        pub dies : Dies (λ c. RisesAt c ⊎ IsGivenUp s.ending.lost kept c) kept s.ending.columns
        pub given_up : IsGivenUpIn s.ending.lost s.ending.columns
        pub lost : IsLossBy a.layout now.lost (states_of a.layout s.ending.columns) s.ending.lost

      -- ## Causes

      -- its count of faults rose, or an item was replied ok by which a column failed that had it
      abbrev pub IsFailedBy : World → ℕ → Type 0
      IsFailedBy now d = RisesOn g taken back d ⊎ ((c : ℕ) × HasDevice (begun_in a) c d × WasFailed now c)

      -- Each column in the end is kept as what it was as the array was opened, or as its rebuild began, or is dead since it was filling and the array is lost, or since an item was replied ok by which it failed, or its device's count of faults rose, or it was to be spread and not all of its stripes were rebuilt; and each device that failed in the run failed for one of these, as each did on which a node went bad.
      pub record Causes (graphs : Graphs) (start : World) (events : List Traced) (now : World) : Type 0 where
        pub count : length s.ending.columns ≡ length a.columns
        pub ends : (c : ℕ) → EndsAs now (slice_get (with_start a.start a.columns) c) (slice_get s.ending.columns c) c ⊎ ((slice_get s.ending.columns c ≡ Some column.Dead) × IsGivenUp s.ending.lost (with_start a.start a.columns) c)
        pub failed : (d : ℕ) → now.failed d ≡ true → IsFailedBy now d
        pub bad : (later before : List Traced) (id : OpId) (node : ℕ) → events ≡ later ++ event.Bad id node ∷ before → (d : ℕ) × WentBadOn a.layout graphs (begun_in a) start before id node later now d × IsFailedBy now d

      -- ## All of it

      -- A run of what is asked, over the devices as they were taken, that tells this: there are graphs, worlds and events such that all of this holds, and the layout has its laws. What its end calls and leaves on devices goes by whether the array has labels.
      pub record Ran : Type 0 where
        pub graphs : Graphs
        pub start : World
        pub events : List Traced
        pub now : World
        pub law : IsLayout a.layout
        pub opens : Opens start
        pub rests : Rests graphs start events now
        pub tells : Tells events now
        pub means : Means start now
        pub ends : ColumnsEnd now
        pub causes : Causes graphs start events now

      -- ## Without labels

      -- A run over an array without labels: nothing is rebuilt. Devices hold what they do at the run's end, and have changed nowhere else: only the array's rows, on a device that was in a column or that a column was rebuilt onto, or sectors that a device hasn't. Behind the run the device of each column that had one has one call more, a settle, which went well exactly where the column has it in the end; no other device was called; so each device of a column in the end has been settled last.
      pub record RanPlain : Type 0 where
        pub run : Ran
        pub contents : g.tells → (d n k : ℕ) → k < 512 → contents_of g back d n k ≡ run.now.contents d n k
        pub once : (c d : ℕ) (told : List Call) → HasDeviceOn run.ends.kept c d → calls_of g back d ≡ Some told → told ≡ run.now.calls d ++ call_of 2 0 0 (has_device (slice_get s.ending.columns c)) ∷ []
        pub others : (d : ℕ) (told : List Call) → ((c : ℕ) → HasDeviceOn run.ends.kept c d → ⊥) → calls_of g back d ≡ Some told → told ≡ run.now.calls d
        pub settled : (c d : ℕ) → HasDevice (states_of a.layout s.ending.columns) c d → EndsSettled (calls_of g back d)
        pub frame : Changes g (λ d n. (((c : ℕ) × HasDevice (begun_in a) c d) × ((64 ≤ n) × (n < 64 + a.layout.rows * a.layout.unit_sectors))) ⊎ (size_of g taken d ≤ n)) taken back
        pub none : (a.start ≡ None) × (s.line ≡ None)
