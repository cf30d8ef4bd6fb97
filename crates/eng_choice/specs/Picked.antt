-- Which of the events that can be done is chosen, and when all is done.
use Rattle.std.specs.Prelude.{◌≡◌, ◌<◌, ◌≤◌, ◌+◌, ◌%◌, ◌==◌, ◌⊎◌, if◌then◌else◌, ℕ, length, Option, Some, None}
use Rattle.lay_core.specs.declared.layout.Layout.{Ghosts as LayoutGhosts}
use Rattle.eng_cols.specs.declared.spot.Spot.{Spot}
use Rattle.eng_world.specs.declared.item.Event.{Event}
use Rattle.eng_world.specs.declared.item.Event.TheVariants as may
use Rattle.eng_state.specs.declared.array.Array.{Array}
use Rattle.eng_one.specs.Control.{NoneReady, IsLeastReady}
use Rattle.eng_clients.specs.declared.stage.Stage.TheVariants.{Runs}
use Rattle.eng_clients.specs.Desk.{desk_at}
use Rattle.eng_state.specs.Sound.{IsOutOf}
use Rattle.eng_state.specs.Can.{place_now, CanFire, CanSkip}
use Rattle.eng_state.specs.Doing.{CanDo}
use Rattle.eng_choice.specs.declared.chosen.Chosen.{Chosen}

-- whose event it is
abbrev pub client_of : Event → ℕ
client_of (may.Begin c) = c
client_of (may.Take c) = c
client_of (may.Fire c n) = c
client_of (may.Skip c n) = c
client_of (may.Back c) = c

-- the order in which a client's events are tried: begin, take and back, then the nodes by number
abbrev pub rank : Event → ℕ
rank (may.Begin c) = 0
rank (may.Take c) = 1
rank (may.Back c) = 2
rank (may.Fire c n) = 3 + n
rank (may.Skip c n) = 3 + n

-- the clients stand in a ring of 17, tried from this one on
abbrev pub ring_at : ℕ → ℕ → ℕ
ring_at next turn = (next + turn) % 17

-- those from its start on are one half of it, those before it the other: from which client on, and up to which
abbrev pub half_from : ℕ → ℕ → ℕ
half_from next half = if half == 0 then next else 0

abbrev pub half_to : ℕ → ℕ → ℕ
half_to next half = if half == 0 then 17 else next

-- from which client on they are tried after this choice
abbrev pub next_after : ℕ → Option Event → ℕ
next_after next None = next
next_after next (Some event) = (client_of event + 1) % 17

module _ {L D : Type 0} where
  -- no node of the client's run is ready from this number on
  abbrev pub NoneReadyOf : Array L D → ℕ → ℕ → Type 0
  NoneReadyOf core c from = (desk_at core.clients c).stage ≡ Runs → NoneReady (desk_at core.clients c).run from

  -- the client's operation runs, and this is the first node that is
  abbrev pub IsLeastReadyOf : Array L D → ℕ → ℕ → ℕ → Type 0
  IsLeastReadyOf core c from n = ((desk_at core.clients c).stage ≡ Runs) × IsLeastReady (desk_at core.clients c).run from n

module _ {L D : Type 0} (lay : LayoutGhosts L) where
  -- no node of the client's can be skipped or fired
  abbrev pub CanNoNode : Array L D → ℕ → Type 0
  CanNoNode core c = (n : ℕ) → (CanSkip lay core c n → ⊥) × (CanFire lay core c n → ⊥)

  -- the event skips or fires the first of the client's nodes that can be
  pub record IsFirstNode (core : Array L D) (c : ℕ) (e : Event) : Type 0 where
    pub node : ℕ
    pub event : (e ≡ may.Skip c node) ⊎ (e ≡ may.Fire c node)
    pub can : CanDo lay core e
    pub before : (k : ℕ) → k < node → (CanSkip lay core c k → ⊥) × (CanFire lay core c k → ⊥)

  -- none of the client's events can be done
  abbrev pub CanNothing : Array L D → ℕ → Type 0
  CanNothing core c = (e : Event) → client_of e ≡ c → CanDo lay core e → ⊥

  -- the first of the client's events that can be done
  pub record IsFirstOf (core : Array L D) (c : ℕ) (e : Event) : Type 0 where
    pub its : client_of e ≡ c
    pub can : CanDo lay core e
    pub first : (other : Event) → client_of other ≡ c → CanDo lay core other → rank e ≤ rank other

  -- none of the clients from one number up to another has an event that can be done
  abbrev pub CanNothingAmong : Array L D → ℕ → ℕ → Type 0
  CanNothingAmong core from to = (c : ℕ) → from ≤ c → c < to → CanNothing core c

  -- the first of the first of these clients that has one
  pub record IsFirstAmong (core : Array L D) (from to : ℕ) (e : Event) : Type 0 where
    pub client : ℕ
    pub least : from ≤ client
    pub most : client < to
    pub event : IsFirstOf core client e
    pub before : CanNothingAmong core from client

  -- the first of the first client in the ring that has one
  pub record IsPicked (core : Array L D) (e : Event) : Type 0 where
    pub turn : ℕ
    pub within : turn < 17
    pub event : IsFirstOf core (ring_at core.next turn) e
    pub before : (i : ℕ) → i < turn → CanNothing core (ring_at core.next i)

  -- where the unit of its node stands now, or its target; None where it has no node
  abbrev pub place_in : Array L D → Event → Option Spot
  place_in core (may.Begin c) = None
  place_in core (may.Take c) = None
  place_in core (may.Fire c n) = place_now lay core c n
  place_in core (may.Skip c n) = place_now lay core c n
  place_in core (may.Back c) = None

  -- and there is said to stand
  abbrev pub StandsThere : Array L D → Chosen → Type 0
  StandsThere core chosen = chosen.at ≡ place_in core chosen.event

  -- no event can be done
  abbrev pub IsStuck : Array L D → Type 0
  IsStuck core = (e : Event) → CanDo lay core e → ⊥

-- each item has a reply, or the array is lost; and no job is out
pub record IsResting {L D : Type 0} (core : Array L D) : Type 0 where
  pub replied : core.lost ≡ None → (c : ℕ) → length (desk_at core.clients c).replies ≡ length (desk_at core.clients c).items
  pub home : (c n : ℕ) → IsOutOf (desk_at core.clients c) n → ⊥
