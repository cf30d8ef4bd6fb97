-- Where devices and buffers are.
use Rattle.std.proofs.Common.{◌≡◌, ◌<◌, ◌⊎◌, ℕ, List, length, Bool, true, false, refl, ◌∙◌, inl, inr, Option, Some, sum_by}
use Rattle.blk_disk.specs.declared.disk.Disk.{Ghosts as DiskGhosts}
use Rattle.lay_core.specs.declared.layout.Layout.{Ghosts as LayoutGhosts}
use Rattle.eng_one.specs.Control.{mark_of}
use Rattle.eng_job.specs.declared.job.Job.{Job}
use Rattle.eng_clients.specs.declared.stage.Stage.TheVariants.{Runs}
use Rattle.eng_state.specs.declared.array.Array.{Array}
use Rattle.eng_clients.specs.Desk.{desk_at}
use Rattle.eng_clients.specs.Seats.{seat_of}
use Rattle.eng_parts.specs.Shelf.{seen_at, IsHome}
use Rattle.eng_state.specs.Sound.{IsOutOf}
use Rattle.eng_array.specs.Tickets.{is_of, Shared}
use Rattle.eng_crew.specs.Places.{IsDeviceOut, IsBufferOut, HavePlaces}
use Rattle.eng_crew.proofs.Keeps.{out-one}

module _ {L D : Type 0} (lay : LayoutGhosts L) (disk : DiskGhosts D) (core : Array L D) (tickets : List (Option (Job D))) (shared : Shared lay disk core tickets) where
  -- a node that is out is that of one ticket
  one-ticket : (c n : ℕ) → IsOutOf (desk_at core.clients c) n → sum_by (is_of c n) tickets ≡ 1
  one-ticket c n out = shared.nodes c n ∙ out-one (desk_at core.clients c).stage (mark_of (desk_at core.clients c).run n) out.runs out.mark

  device-place : (device : ℕ) (out : Bool) (x : D) → seen_at core.devices device ≡ Some (record { out = out; device = x }) → IsHome core.devices device ⊎ IsDeviceOut core tickets device
  device-place device false x is = inl (x, is)
  device-place device true x is =
      let h = shared.sound.sound.devices.held device x is in
      inr (record { client = h.0; node = h.1; away = h.2; ticket = one-ticket h.0 h.1 h.2.out; only = λ c n away. shared.sound.sound.devices.one c h.0 n h.1 device away h.2 })

  buffer-place : (c b : ℕ) (out : Bool) → (desk_at core.clients c).stage ≡ Runs → b < length (desk_at core.clients c).lease → (seat_of core.pool (desk_at core.clients c) b).out ≡ out → ((seat_of core.pool (desk_at core.clients c) b).out ≡ false) ⊎ IsBufferOut core tickets c b
  buffer-place c b false runs lt is = inl is
  buffer-place c b true runs lt is =
      let h = shared.sound.sound.seats.held c b runs lt is in
      inr (record { node = h.0; out = h.1; takes = h.2; ticket = one-ticket c h.0 h.1; only = λ n out takes. shared.sound.sound.seats.one c n h.0 b out h.1 takes h.2 })

  pub have-places : HavePlaces core tickets
  have-places = record {
    devices = λ device x is. device-place device x.out x.device is;
    buffers = λ c b runs lt. buffer-place c b (seat_of core.pool (desk_at core.clients c) b).out runs lt refl;
  }
