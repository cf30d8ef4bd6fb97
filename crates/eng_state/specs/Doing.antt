-- Which events can be done now, and of what their guards are made.
use Rattle.std.specs.Prelude.{◌≡◌, ◌≢◌, ℕ, false, Some, None, IsSome}
use Rattle.blk_plain.specs.declared.op.Op.{Op}
use Rattle.stripe_lock.specs.Table.{mode_of}
use Rattle.stripe_lock.specs.declared.mode.Mode.{Mode}
use Rattle.stripe_lock.specs.declared.mode.Mode.TheVariants.{Share}
use Rattle.lay_core.specs.declared.layout.Layout.{Ghosts as LayoutGhosts}
use Rattle.graph_mean.specs.declared.graph.Node.TheVariants.{Wr}
use Rattle.graph_mean.specs.Graph.{kind_at}
use Rattle.graph_mean.specs.Steps.{IsCall}
use Rattle.eng_one.specs.Control.{IsReadyIn}
use Rattle.eng_cols.specs.declared.spot.Spot.{Spot}
use Rattle.eng_world.specs.declared.item.Event.{Event}
use Rattle.eng_world.specs.declared.item.Event.TheVariants as may
use Rattle.eng_world.specs.Nodes.{MakesOrUses}
use Rattle.eng_world.specs.Planning.{Concerns}
use Rattle.eng_clients.specs.declared.stage.Stage.TheVariants.{Runs}
use Rattle.eng_state.specs.declared.array.Array.{Array}
use Rattle.eng_parts.specs.Shelf.{IsHome}
use Rattle.eng_clients.specs.Seats.{seat_of}
use Rattle.eng_clients.specs.Desk.{Desk, desk_at}
use Rattle.eng_plan.specs.Asked.{mode_by}
use Rattle.eng_state.specs.Can.{place_now, CanFire, CanSkip}
use Rattle.eng_state.specs.Beginning.{CanBegin}
use Rattle.eng_state.specs.Serves.{CanTake, CanBack}

-- the client's operation runs, and the node is ready
abbrev pub IsRipe : Desk → ℕ → Type 0
IsRipe d n = (d.stage ≡ Runs) × IsReadyIn d.run n

module _ {L D : Type 0} (lay : LayoutGhosts L) where
  -- the event can be done
  abbrev pub CanDo : Array L D → Event → Type 0
  CanDo core (may.Begin c) = CanBegin core c
  CanDo core (may.Take c) = CanTake lay core c
  CanDo core (may.Fire c n) = CanFire lay core c n
  CanDo core (may.Skip c n) = CanSkip lay core c n
  CanDo core (may.Back c) = CanBack lay core c

  -- a call's unit stands somewhere, and its device is at home
  pub record HasPlace (core : Array L D) (c n : ℕ) : Type 0 where
    pub placed : IsCall (kind_at (desk_at core.clients c).run.graph n) → IsSome (place_now lay core c n)
    pub device_home : (at : Spot) → place_now lay core c n ≡ Some at → IsHome core.devices at.device

  -- the node is a write whose unit, or of a rebuild whose target, stands nowhere
  abbrev pub IsNowhere : Array L D → ℕ → ℕ → Type 0
  IsNowhere core c n = (unit : ℕ) × (buf : ℕ) × (kind_at (desk_at core.clients c).run.graph n ≡ Wr unit buf) × (place_now lay core c n ≡ None)

  -- no other holds a stripe that the operation concerns, unless both read
  abbrev pub AreFree : Array L D → ℕ → Op → Type 0
  AreFree core c op = (k s : ℕ) (m : Mode) → k ≢ c → Concerns (lay.shape core.layout) op s → mode_of core.locks k s ≡ Some m → (mode_by op ≡ Share) × (m ≡ Share)

-- the buffers that the node takes are at home
abbrev pub AreHome : {L D : Type 0} → Array L D → ℕ → ℕ → Type 0
AreHome core c n = (b : ℕ) → MakesOrUses (desk_at core.clients c).run.graph n b → (seat_of core.pool (desk_at core.clients c) b).out ≡ false
