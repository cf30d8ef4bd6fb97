-- The rebuilds of a column that client 16 gets, and when they may begin.
use Rattle.std.specs.Prelude.{◌≡◌, ◌<◌, ◌≤◌, ◌+◌, ◌*◌, ◌⊎◌, ℕ, Bool, List, [], length, false, Some, None, IsSome, slice_get, slice_set, map, Contains}
use Rattle.std.specs.List.{list_any}
use Rattle.std.specs.List.Sorted.{IsStrictlyIncreasing}
use Rattle.blk_disk.specs.declared.disk.Disk.{Ghosts as DiskGhosts}
use Rattle.lay_core.specs.Layout.{Shape}
use Rattle.lay_core.specs.declared.layout.Layout.{Ghosts as LayoutGhosts}
use Rattle.eng_cols.specs.Cols.{ColumnState, Dead, Filling, HasDevice, IsKept, is_filling, is_spread}
use Rattle.eng_world.specs.Serving.{IsLeft}
use Rattle.eng_world.specs.declared.item.Item.{Item}
use Rattle.blk_plain.specs.declared.op.Op.TheVariants as op
use Rattle.eng_world.specs.declared.item.Item.TheVariants as item
use Rattle.eng_world.specs.declared.item.Traced.{Traced}
use Rattle.eng_clients.specs.declared.stage.Stage.TheVariants.{Nothing}
use Rattle.eng_state.specs.declared.array.Array.{Array}
use Rattle.eng_parts.specs.Shelf.{seen_at, has_failed}
use Rattle.eng_clients.specs.Desk.{Desk, desk_at}
use Rattle.eng_log.specs.Log.{noted}

-- The items are one rebuild for each of the first of the column's stripes that aren't done, of those below this one and as many as are asked, ascending. One that is left out lies behind them all, and then there are as many as are asked.
pub record AreRebuildsBelow (y : Shape) (cols : List ColumnState) (c asked most : ℕ) (items : List Item) : Type 0 where
  pub stripes : List ℕ
  pub is : items ≡ map (λ (s : ℕ). item.Run (op.Rebuild s) None) stripes
  pub few : length stripes ≤ most
  pub within : length stripes ≤ asked
  pub first : (s : ℕ) → s < most → IsLeft y cols c s → Contains stripes s ⊎ (length stripes ≡ asked)
  pub only : (s : ℕ) → Contains stripes s → (s < most) × IsLeft y cols c s
  pub behind : (s : ℕ) → s < most → IsLeft y cols c s → Contains stripes s ⊎ ((t : ℕ) → Contains stripes t → t < s)
  pub ascending : IsStrictlyIncreasing stripes

module _ {L D : Type 0} (lay : LayoutGhosts L) (disk : DiskGhosts D) where
  -- The array isn't lost, no operation has begun, and client 16 has no item; there is room for a rebuild of each stripe.
  pub record CanRebuild (core : Array L D) : Type 0 where
    pub not_lost : core.lost ≡ None
    pub unbegun : (k : ℕ) → ((desk_at core.clients k).replies ≡ []) × ((desk_at core.clients k).stage ≡ Nothing)
    pub no_items : (desk_at core.clients 16).items ≡ []
    pub none_listed : core.rebuilds.items ≡ []
    pub room : (lay.shape core.layout).stripes ≤ core.rebuilds.room

  -- no column is filling, and the device is at home, hasn't failed, is in no column, and has room for the rows
  pub record CanFill (core : Array L D) (c device : ℕ) : Type 0 where
    pub starts : CanRebuild core
    pub dead : slice_get core.cols.states c ≡ Some Dead
    pub none_filling : list_any is_filling core.cols.states ≡ false
    pub home : (x : D) × (seen_at core.devices device ≡ Some (record { out = false; device = x })) × (64 + (lay.shape core.layout).rows * (lay.shape core.layout).unit_sectors ≤ disk.size x)
    pub unfailed : has_failed core.devices device ≡ false
    pub unused : (k : ℕ) → HasDevice core.cols.states k device → ⊥

  -- the column is filling
  pub record CanResume (core : Array L D) (c : ℕ) : Type 0 where
    pub starts : CanRebuild core
    pub device : ℕ
    pub done : List Bool
    pub filling : slice_get core.cols.states c ≡ Some (Filling device done)

  -- no column is spread, and each stripe has a spare place
  pub record CanSpread (core : Array L D) (c : ℕ) : Type 0 where
    pub starts : CanRebuild core
    pub dead : slice_get core.cols.states c ≡ Some Dead
    pub none_spread : list_any is_spread core.cols.states ≡ false
    pub spares : (s : ℕ) → s < (lay.shape core.layout).stripes → IsSome ((lay.shape core.layout).spare s)

-- a desk with these items
abbrev pub with_items : Desk → List Item → Desk
with_items d items = record d { items = items }

-- how many rebuilds client 16 has
abbrev pub added : {L D : Type 0} → Array L D → ℕ
added core = length (desk_at core.clients 16).items

-- A rebuild of the column has started, or goes on: the columns are these, client 16 has rebuilds of its stripes, as many as are asked at most, and the event, which says how many, is traced.
pub record Started {L D : Type 0} (lay : LayoutGhosts L) (old : Array L D) (c asked : ℕ) (states : List ColumnState) (event : ℕ → Traced) (new : Array L D) : Type 0 where
  pub items : List Item
  pub rebuilds : AreRebuildsBelow (lay.shape old.layout) states c asked (lay.shape old.layout).stripes items
  pub kept : IsKept new.cols
  pub is : new ≡ record old {
    cols = record old.cols { states = states };
    clients = slice_set old.clients 16 (with_items (desk_at old.clients 16) items);
    rebuilds = record { items = []; room = 0 };
    log = noted old.log (event (length items));
  }
