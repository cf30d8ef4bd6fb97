-- What a core is opened over, and what it is then.
use Rattle.std.specs.Prelude.{◌≡◌, ◌<◌, ◌≤◌, ◌+◌, ◌*◌, ℕ, List, [], length, false, Some, None, slice_get, map, replicate, count_by}
use Rattle.blk_disk.specs.declared.disk.Disk.{Ghosts as DiskGhosts}
use Rattle.buf_pool.specs.Reserve.{IsStocked}
use Rattle.stripe_lock.specs.Table.{IsIdle}
use Rattle.lay_core.specs.Layout.{Shape}
use Rattle.lay_core.specs.declared.layout.Layout.{Ghosts as LayoutGhosts}
use Rattle.eng_cols.specs.declared.column.Column.{Column}
use Rattle.eng_cols.specs.Cols.{HasDevice, is_set_filling, is_set_spread}
use Rattle.eng_cols.specs.Stripes.{states_of}
use Rattle.eng_cols.specs.Contents.{decode}
use Rattle.eng_cols.specs.Contents as contents
use Rattle.eng_cols.specs.Laws.{HaveSpares}
use Rattle.eng_world.specs.declared.item.Item.{Item}
use Rattle.eng_world.specs.declared.item.Item.TheVariants as item
use Rattle.eng_world.specs.World.{World}
use Rattle.eng_world.specs.Planning.{Graphs}
use Rattle.eng_world.specs.Step.{MayBeAsked, IsOpening}
use Rattle.eng_parts.specs.declared.core_room.CoreRoom.{CoreRoom}
use Rattle.eng_parts.specs.declared.setup.Setup.{Setup}
use Rattle.eng_state.specs.declared.array.Array.{Array}
use Rattle.eng_parts.specs.Brought.{brought}
use Rattle.eng_clients.specs.Desk.{Desk, desk_at}
use Rattle.eng_log.specs.Given.{items_at}
use Rattle.eng_log.specs.Laid.{IsLaidOut}
use Rattle.eng_state.specs.Beginning.{IsAsked}
use Rattle.eng_state.specs.Shows.{Shows}
use Rattle.eng_state.specs.Sound.{IsOutOf}
use Rattle.eng_state.specs.Steps.{graphs_of}
use Rattle.eng_clients.specs.Fresh.{new_desk}
use Rattle.eng_parts.specs.Fresh.{fresh_log, stocked}

-- ## What may be opened

-- the graph that the item names, if it names one, is one of so many
abbrev pub NamesGraph : ℕ → Item → Type 0
NamesGraph graphs (item.Run op (Some g)) = g < graphs
NamesGraph graphs (item.Run op None) = Unit {0}
NamesGraph graphs (item.Fail column) = Unit {0}

-- no graph of the file has more buffers than the pool: its operation would wait for good
abbrev pub FitThePool : Graphs → Type 0
FitThePool graphs = (n : ℕ) → length (graphs.file n).bufs ≤ 2048

module _ {L D : Type 0} (lay : LayoutGhosts L) (disk : DiskGhosts D) where
  -- There is one entry for each column; at most one is filling, and at most one is spread, where each stripe has a spare place; each device of a column is there, is in no other, and has room for the rows. Of the items no span is empty, each column that is to fail is there, no rebuild names a graph, and each graph that is named is there. Each graph of the file fits the pool.
  pub record IsSetup (setup : Setup L D) : Type 0 where
    pub entries : length setup.columns.items ≡ (lay.shape setup.layout).columns
    pub filling : count_by is_set_filling setup.columns.items ≤ 1
    pub spread : count_by is_set_spread setup.columns.items ≤ 1
    pub spares : HaveSpares (lay.shape setup.layout) (states_of (lay.shape setup.layout) setup.columns.items)
    pub there : (c device : ℕ) → HasDevice (states_of (lay.shape setup.layout) setup.columns.items) c device → (x : D) × (slice_get setup.devices.items device ≡ Some (Some x)) × (64 + (lay.shape setup.layout).rows * (lay.shape setup.layout).unit_sectors ≤ disk.size x)
    pub one_column : (c k device : ℕ) → HasDevice (states_of (lay.shape setup.layout) setup.columns.items) c device → HasDevice (states_of (lay.shape setup.layout) setup.columns.items) k device → c ≡ k
    pub asked : (c n : ℕ) (i : Item) → slice_get (items_at setup.clients.items c) n ≡ Some i → IsAsked (lay.shape setup.layout) i × MayBeAsked (lay.shape setup.layout) i × NamesGraph (length setup.graphs.items) i
    pub fit : FitThePool (graphs_of setup.graphs.items)

  -- ## What is opened

  -- the core is put together of these parts, and each client has its items and has begun none
  pub record IsAssembled (setup : Setup L D) (room : CoreRoom D) (core : Array L D) : Type 0 where
    pub layout : core.layout ≡ setup.layout
    pub graphs : core.graphs ≡ setup.graphs
    pub cols : core.cols ≡ room.cols
    pub devices : core.devices ≡ record { slots = map brought setup.devices.items; failed = replicate (length setup.devices.items) false }
    pub count : length core.clients ≡ 17
    pub clients : (c : ℕ) → c < 17 → desk_at core.clients c ≡ new_desk (items_at setup.clients.items c)
    pub pool : core.pool ≡ room.pool
    pub locks : core.locks ≡ room.locks
    pub lists : core.lists ≡ room.lists
    pub log : core.log ≡ room.log
    pub rebuilds : core.rebuilds ≡ room.rebuilds
    pub spare : core.spare ≡ room.spare
    pub lost : core.lost ≡ None

  -- The core has the setup's layout, graphs, columns and devices, all at home, of which none has failed, and of each client its items, of which it has begun none; all buffers are free, and as many there as its clients' items can lease at once. Its log is empty, and the array isn't lost.
  pub record IsOpened (setup : Setup L D) (core : Array L D) : Type 0 where
    pub layout : core.layout ≡ setup.layout
    pub graphs : core.graphs ≡ setup.graphs
    pub cols : core.cols ≡ record { states = states_of (lay.shape setup.layout) setup.columns.items; stripes = (lay.shape setup.layout).stripes }
    pub devices : core.devices ≡ record { slots = map brought setup.devices.items; failed = replicate (length setup.devices.items) false }
    pub count : length core.clients ≡ 17
    pub clients : (c : ℕ) → c < 17 → desk_at core.clients c ≡ new_desk (items_at setup.clients.items c)
    pub unit : core.pool.unit ≡ 512 * (lay.shape setup.layout).unit_sectors
    pub pool : IsStocked core.pool (stocked (lay.shape setup.layout) setup.graphs.items setup.clients.items)
    pub locks : IsIdle core.locks 17
    pub lists : core.lists ≡ 32
    pub log : core.log ≡ fresh_log (lay.shape setup.layout) setup.trace core.log.handed
    pub laid : IsLaidOut setup.clients.items (lay.shape setup.layout).stripes core.log.handed
    pub rebuilds : core.rebuilds ≡ record { items = []; room = (lay.shape setup.layout).stripes }
    pub spare : core.spare ≡ length setup.clients.items
    pub lost : core.lost ≡ None

-- no node of any client is out
abbrev pub NoneOut : List Desk → Type 0
NoneOut desks = (c n : ℕ) → IsOutOf (desk_at desks c) n → ⊥

-- nothing is handed out in the world
abbrev pub HandsOutNothing : World → Type 0
HandsOutNothing w = (c i b k : ℕ) → (w.clients c).handed i b k ≡ 0

-- Each world that the core shows is one that runs begin with, if it hands out nothing and its blocks are what its contents decode to; and there is one.
pub record OpensWorlds {L D : Type 0} (lay : LayoutGhosts L) (disk : DiskGhosts D) (core : Array L D) : Type 0 where
  pub each : (w : World) → Shows disk core w → HandsOutNothing w → contents.SameBlocks (lay.shape core.layout) w.blocks (decode (lay.shape core.layout) w.contents w.columns) → IsOpening (lay.shape core.layout) w
  pub one : (w : World) × Shows disk core w × IsOpening (lay.shape core.layout) w
