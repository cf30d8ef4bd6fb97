-- What the bad nodes of a run come from, and which columns a rebuild writes on.
use Rattle.std.specs.Prelude.{◌≡◌, ◌<◌, ◌⊎◌, ◌++◌, ℕ, List, [], ◌∷◌, Some}
use Rattle.blk_plain.specs.declared.op.OpId.{OpId}
use Rattle.lay_core.specs.declared.place.Place.{Place}
use Rattle.lay_core.specs.Layout.{Shape}
use Rattle.graph_mean.specs.Graph.{kind_at}
use Rattle.graph_mean.specs.Steps.{IsCall}
use Rattle.eng_cols.specs.declared.spot.Spot.{Spot}
use Rattle.eng_cols.specs.Cols.{ColumnState, HasDevice}
use Rattle.eng_world.specs.declared.item.Traced.{Traced}
use Rattle.eng_world.specs.declared.item.Traced.TheVariants as event
use Rattle.eng_world.specs.World.{Running, World, Runs}
use Rattle.eng_world.specs.Planning.{Graphs}
use Rattle.eng_world.specs.Step.{EventsLead}
use Rattle.eng_array.specs.declared.start.Start.{Start}
use Rattle.eng_array.specs.declared.start.Start.TheVariants as start

-- Between these events of a run and those behind them a node went bad. It was a read or a write of the item's operation, which ran, and it was out on this device, which its column had among these, as the clients' own events found them.
pub record WentBadOn (y : Shape) (graphs : Graphs) (begun : List ColumnState) (opening : World) (before : List Traced) (id : OpId) (node : ℕ) (later : List Traced) (now : World) (d : ℕ) : Type 0 where
  pub world : World
  pub reached : EventsLead y graphs opening before world
  pub leads : EventsLead y graphs world (later ++ event.Bad id node ∷ []) now
  pub was : Running
  pub runs : (world.clients id.client).current ≡ Runs was
  pub index : was.plan.index ≡ id.index
  pub call : IsCall (kind_at was.plan.graph node)
  pub at : Spot
  pub fired : was.fired_at node ≡ Some at
  pub device : at.device ≡ d
  pub column : HasDevice begun at.column d

-- Column c has a unit in a stripe whose spare place is on column k.
pub record HasSpareOn (y : Shape) (c k : ℕ) : Type 0 where
  pub stripe : ℕ
  pub unit : ℕ
  pub within : (stripe < y.stripes) × (unit < y.width)
  pub lies : (y.place stripe unit).column ≡ c
  pub place : Place
  pub spare : y.spare stripe ≡ Some place
  pub on : place.column ≡ k

-- A rebuild that starts so rests on column k: it is the one that is rebuilt, or one that has a spare place for it.
abbrev pub RestsOn : Shape → Start → ℕ → Type 0
RestsOn y (start.Fill c device most) k = k ≡ c
RestsOn y (start.Resume c most) k = k ≡ c
RestsOn y (start.Spread c) k = (k ≡ c) ⊎ HasSpareOn y c k
