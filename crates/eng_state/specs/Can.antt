-- Which events are possible.
use Rattle.std.specs.Prelude.{◌≡◌, ◌<◌, ℕ, false, Option, Some, None, IsSome}
use Rattle.lay_core.specs.declared.layout.Layout.{Ghosts as LayoutGhosts}
use Rattle.graph_mean.specs.declared.graph.Node.TheVariants.{Wr}
use Rattle.graph_mean.specs.declared.step.Phase.TheVariants as phase
use Rattle.graph_mean.specs.Graph.{kind_at}
use Rattle.graph_mean.specs.Steps.{IsCall}
use Rattle.eng_one.specs.Control.{IsReadyIn}
use Rattle.eng_cols.specs.declared.spot.Spot.{Spot}
use Rattle.eng_world.specs.Nodes.{MakesOrUses, place_of}
use Rattle.eng_clients.specs.declared.stage.Stage.TheVariants.{Runs}
use Rattle.eng_state.specs.declared.array.Array.{Array}
use Rattle.eng_parts.specs.Shelf.{IsHome}
use Rattle.eng_clients.specs.Desk.{desk_at, plan_of}
use Rattle.eng_clients.specs.Seats.{seat_of}

module _ {L D : Type 0} (lay : LayoutGhosts L) where
  -- where the unit of node n of client c stands now, or its target
  abbrev pub place_now : Array L D → ℕ → ℕ → Option Spot
  place_now core c n = place_of (lay.shape core.layout) core.cols.states (plan_of (desk_at core.clients c)) (kind_at (desk_at core.clients c).run.graph n)

  -- the node is ready, its unit stands somewhere, its device and its buffers are at home, and few jobs are out
  pub record CanFire (core : Array L D) (c n : ℕ) : Type 0 where
    pub not_lost : core.lost ≡ None
    pub runs : (desk_at core.clients c).stage ≡ Runs
    pub ready : IsReadyIn (desk_at core.clients c).run n
    pub placed : IsCall (kind_at (desk_at core.clients c).run.graph n) → IsSome (place_now core c n)
    pub device_home : (at : Spot) → place_now core c n ≡ Some at → IsHome core.devices at.device
    pub buffers_home : (b : ℕ) → MakesOrUses (desk_at core.clients c).run.graph n b → (seat_of core.pool (desk_at core.clients c) b).out ≡ false
    pub few : 0 < core.lists

  -- the node is a ready write after the commit, whose unit stands nowhere, or of a rebuild, whose target isn't alive
  pub record CanSkip (core : Array L D) (c n : ℕ) : Type 0 where
    pub not_lost : core.lost ≡ None
    pub runs : (desk_at core.clients c).stage ≡ Runs
    pub ready : IsReadyIn (desk_at core.clients c).run n
    pub after : (desk_at core.clients c).run.phase ≡ phase.After
    pub unit : ℕ
    pub buf : ℕ
    pub write : kind_at (desk_at core.clients c).run.graph n ≡ Wr unit buf
    pub nowhere : place_now core c n ≡ None
