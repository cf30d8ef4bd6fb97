-- That each device and each buffer of a lease is at home, or out with the job of one ticket.
use Rattle.std.specs.Prelude.{◌≡◌, ◌<◌, ◌⊎◌, ℕ, List, length, false, Option, Some, sum_by}
use Rattle.eng_job.specs.declared.job.Job.{Job}
use Rattle.eng_world.specs.Nodes.{MakesOrUses}
use Rattle.eng_clients.specs.declared.stage.Stage.TheVariants.{Runs}
use Rattle.eng_state.specs.declared.array.Array.{Array}
use Rattle.eng_clients.specs.Desk.{desk_at}
use Rattle.eng_clients.specs.Seats.{seat_of}
use Rattle.eng_parts.specs.Shelf.{Seen, seen_at, IsHome}
use Rattle.eng_state.specs.Sound.{IsOutOf, HasAway}
use Rattle.eng_array.specs.Tickets.{is_of}

module _ {L D : Type 0} (core : Array L D) (tickets : List (Option (Job D))) where
  -- the device of this number is out with one node alone, whose job is that of one ticket
  pub record IsDeviceOut (device : ℕ) : Type 0 where
    pub client : ℕ
    pub node : ℕ
    pub away : HasAway core.clients client node device
    pub ticket : sum_by (is_of client node) tickets ≡ 1
    pub only : (c n : ℕ) → HasAway core.clients c n device → (c ≡ client) × (n ≡ node)

  -- and so the client's buffer of this number
  pub record IsBufferOut (client buffer : ℕ) : Type 0 where
    pub node : ℕ
    pub out : IsOutOf (desk_at core.clients client) node
    pub takes : MakesOrUses (desk_at core.clients client).run.graph node buffer
    pub ticket : sum_by (is_of client node) tickets ≡ 1
    pub only : (n : ℕ) → IsOutOf (desk_at core.clients client) n → MakesOrUses (desk_at core.clients client).run.graph n buffer → n ≡ node

  -- each device that there is, and each buffer of an operation that runs, is at home or out so
  pub record HavePlaces : Type 0 where
    pub devices : (device : ℕ) (x : Seen D) → seen_at core.devices device ≡ Some x → IsHome core.devices device ⊎ IsDeviceOut device
    pub buffers : (c b : ℕ) → (desk_at core.clients c).stage ≡ Runs → b < length (desk_at core.clients c).lease → ((seat_of core.pool (desk_at core.clients c) b).out ≡ false) ⊎ IsBufferOut c b
