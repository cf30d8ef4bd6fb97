-- Small setups, as tests have them: columns on devices of their own numbers, and few short items.
use Rattle.std.specs.Prelude.{◌≡◌, ◌≤◌, ◌+◌, ◌*◌, ℕ, List, length, Option, Some, All, slice_get}
use Rattle.blk_disk.specs.declared.disk.Disk.{Ghosts as DiskGhosts}
use Rattle.lay_core.specs.Layout.{Shape}
use Rattle.graph_mean.specs.Graph.{Held}
use Rattle.eng_cols.specs.declared.column.Column.{Column}
use Rattle.eng_cols.specs.declared.column.Column.TheVariants as column
use Rattle.eng_world.specs.declared.item.Item.{Item}
use Rattle.eng_world.specs.Step.{MayBeAsked}
use Rattle.item_list.specs.ItemList.{ItemList}
use Rattle.eng_state.specs.Beginning.{IsAsked}
use Rattle.eng_events.specs.Opened.{NamesGraph}
use Rattle.eng_log.specs.Laid.{item_sectors}

-- the sectors that a device of a column has at least
abbrev pub needed : Shape → ℕ
needed y = 64 + y.rows * y.unit_sectors

module _ {D : Type 0} (disk : DiskGhosts D) where
  -- there is a device of this number, and it has so many sectors
  abbrev pub HasSectors : List (Option D) → ℕ → ℕ → Type 0
  HasSectors devices at need = (x : D) × (slice_get devices at ≡ Some (Some x)) × (need ≤ disk.size x)

  -- column c is dead, or live on the device of its number, which has so many sectors
  abbrev pub IsOwn : List (Option D) → ℕ → ℕ → Column → Type 0
  IsOwn devices need c (column.Live device) = (device ≡ c) × HasSectors devices c need
  IsOwn devices need c column.Dead = Unit {0}
  IsOwn devices need c (column.Filling device m) = ⊥
  IsOwn devices need c column.Spread = ⊥

  -- so is each column
  abbrev pub AreOwn : List (Option D) → ℕ → List Column → Type 0
  AreOwn devices need columns = (c : ℕ) (x : Column) → slice_get columns c ≡ Some x → IsOwn devices need c x

-- the item may be asked, where there are so many graphs, and hands out few sectors
pub record IsSmall (y : Shape) (graphs : ℕ) (i : Item) : Type 0 where
  pub asked : IsAsked y i
  pub may : MayBeAsked y i
  pub named : NamesGraph graphs i
  pub few : item_sectors i ≤ 1024

-- the graph has no more buffers than the pool
abbrev pub IsSlim : Held → Type 0
IsSlim g = length g.drawn.bufs ≤ 2048

-- a client has few items, each small
pub record IsScript (y : Shape) (graphs : ℕ) (items : List Item) : Type 0 where
  pub few : length items ≤ 16
  pub small : All (IsSmall y graphs) items

-- there are few clients, each with a small script
pub record AreScripts (y : Shape) (graphs : ℕ) (clients : List ItemList) : Type 0 where
  pub few : length clients ≤ 16
  pub each : All (λ (items : ItemList). IsScript y graphs items.items) clients
