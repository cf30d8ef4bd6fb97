-- The parts of a core before anything has begun, and the room that is one for a layout.
use Rattle.std.specs.Prelude.{◌≡◌, ◌<◌, ◌≤◌, ◌+◌, ◌*◌, ℕ, List, [], length, Bool, min, replicate, if◌then◌else◌}
use Rattle.buf_pool.specs.Reserve.{IsStocked}
use Rattle.stripe_lock.specs.Table.{IsIdle}
use Rattle.lay_core.specs.Layout.{Shape}
use Rattle.graph_mean.specs.Graph.{Held}
use Rattle.eng_cols.specs.Cols.{ColumnState, Dead}
use Rattle.eng_cols.specs.Lost.{IsLost}
use Rattle.item_list.specs.ItemList.{ItemList}
use Rattle.eng_parts.specs.declared.core_room.CoreRoom.{CoreRoom}
use Rattle.eng_parts.specs.declared.setup.OpenFault.{OpenFault}
use Rattle.eng_parts.specs.declared.setup.OpenFault.TheVariants as fault
use Rattle.eng_log.specs.Handed.{Handout}
use Rattle.eng_log.specs.Given.{items_at}
use Rattle.eng_log.specs.Laid.{items_before, IsLaidOut}
use Rattle.eng_log.specs.Log.{Logged}
use Rattle.eng_clients.specs.Fresh.{AreRoomsFor}
use Rattle.eng_plan.specs.Pooled.{row_leases, own_leases}
use Rattle.eng_rest.specs.Left.{below}

-- an empty log: the history has room for 65,536 operations and a rebuild of each stripe, and the trace, if it is kept, for 1,048,576 events, the failure of each column, the start of a rebuild and one failure more
abbrev pub fresh_log : Shape → Bool → Handout → Logged
fresh_log y trace handed = record {
  history = [];
  trace = [];
  keeps = trace;
  rebuilt = 0;
  handed = handed;
  history_room = 65536 + y.stripes;
  trace_room = if trace then 1048576 + 2 + y.columns else 0;
}

-- the buffers that the clients' items and the engine's own can lease at once
abbrev pub all_leases : Shape → List Held → List ItemList → ℕ
all_leases y graphs given = below (λ c. row_leases y graphs (items_at given c)) 16 + own_leases y

-- those that have memory: as many, or as many as a pool has
abbrev pub stocked : Shape → List Held → List ItemList → ℕ
stocked y graphs given = min (all_leases y graphs given) 2048

-- The room is one for this layout, so many devices and these items: all columns are dead, all buffers free, and as many there as can be leased at once, no stripe is held, each client has room for its items, not too many in all, and there is a rebuild's place for each stripe.
pub record IsRoomFor {D : Type 0} (y : Shape) (most : ℕ) (given : List ItemList) (graphs : List Held) (trace : Bool) (room : CoreRoom D) : Type 0 where
  pub cols : room.cols ≡ record { states = replicate y.columns Dead; stripes = y.stripes }
  pub devices : room.devices ≡ most
  pub unit : room.pool.unit ≡ 512 * y.unit_sectors
  pub pool : IsStocked room.pool (stocked y graphs given)
  pub locks : IsIdle room.locks 17
  pub lists : room.lists ≡ 32
  pub few : items_before given 16 ≤ 65536
  pub clients : AreRoomsFor given room.clients
  pub log : room.log ≡ fresh_log y trace room.log.handed
  pub laid : IsLaidOut given y.stripes room.log.handed
  pub rebuilds : room.rebuilds ≡ record { items = []; room = y.stripes }
  pub spare : room.spare ≡ length given

-- the array is lost by this
abbrev pub IsFault : Shape → List ColumnState → OpenFault → Type 0
IsFault y cols (fault.Lost first second stripe) = IsLost y cols (record { first = first; second = second; stripe = stripe })
