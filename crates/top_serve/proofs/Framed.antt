-- What no event changes, from the opening of a core to its close.
use Rattle.std.proofs.Common.{◌≡◌, ◌++◌, ℕ, length, false, Option, ◌∙◌}
use Rattle.blk_disk.specs.declared.disk.Disk.{Ghosts as DiskGhosts}
use Rattle.blk_disk.specs.Disk.{Rose}
use Rattle.blk_disk.specs.Devices.{RisesOn, Changes}
use Rattle.lay_core.specs.declared.layout.Layout.{Ghosts as LayoutGhosts}
use Rattle.eng_parts.specs.declared.setup.Setup.{Setup}
use Rattle.eng_parts.specs.declared.setup.Closed.{Closed}
use Rattle.eng_state.specs.declared.array.Array.{Array}
use Rattle.eng_array.specs.declared.start.Start.{Start}
use Rattle.eng_array.specs.HandedBack.{HandsBack}
use Rattle.eng_array.specs.Tickets.{keeps_trace, traced, faults_at}
use Rattle.eng_array.proofs.Chains.{goes-untold}
use Rattle.eng_array.proofs.ComingBack.{handed-back, handed-rises}
use Rattle.top_serve.proofs.Between.{Course}
use Rattle.top_serve.proofs.Starting.{first_of}

module _ {L D : Type 0} (lay : LayoutGhosts L) (disk : DiskGhosts D) (setup : Setup L D) (how : Option Start) (first last : Array L D) (closed : Closed L D) (p : Course lay disk setup how first last closed) where
  back : HandsBack disk setup (record closed { columns = p.between.closes.were })
  back = handed-back lay disk setup first last (p.own ++ first_of how p.count) (record closed { columns = p.between.closes.were }) p.between.opened p.goes p.between.closes.is_closed

  pub layout-back : closed.layout ≡ setup.layout
  layout-back = back.layout

  pub spare-back : last.spare ≡ length setup.clients.items
  spare-back = p.same.spare ∙ p.between.opened.spare

  pub untraced : keeps_trace first ≡ false → traced last ≡ traced first
  untraced off = goes-untold lay disk first last (p.own ++ first_of how p.count) p.goes off

  pub regions-same : last.log.handed.regions ≡ first.log.handed.regions
  regions-same = p.same.regions

  -- each device goes on
  pub devices-back : Changes disk (λ d n. Unit {0}) setup.devices.items closed.devices.items
  devices-back = back.devices

  pub rises : (d : ℕ) → Rose (faults_at lay disk first d) (faults_at lay disk last d) → RisesOn disk setup.devices.items closed.devices.items d
  rises d rose = handed-rises lay disk setup first last (p.own ++ first_of how p.count) (record closed { columns = p.between.closes.were }) p.between.opened p.goes p.between.closes.is_closed d rose
