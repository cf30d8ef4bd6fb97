-- What the end of a node does, whichever node it is.
use Rattle.std.specs.Prelude.{◌≡◌, ℕ, Option}
use Rattle.blk_disk.specs.declared.disk.Disk.{Ghosts as DiskGhosts}
use Rattle.lay_core.specs.declared.layout.Layout.{Ghosts as LayoutGhosts}
use Rattle.eng_world.specs.declared.item.Traced.{Traced}
use Rattle.eng_clients.specs.Desk.{desk_at, spot_at}
use Rattle.eng_state.specs.declared.array.Array.{Array}
use Rattle.eng_state.specs.GoesOn.{GoesOn}
use Rattle.eng_state.specs.Homes.{slots_home}
use Rattle.eng_state.specs.Out.{OthersStay}
use Rattle.eng_state.specs.Sound.{IsSound}
use Rattle.eng_state.specs.Steps.{Follows}

module _ {L D : Type 0} (lay : LayoutGhosts L) (disk : DiskGhosts D) where
  -- Node n of client c ended by this event of the world. The device that it took along, if any, is home as it is now; each client
  -- serves on, and every other job that is out is out still.
  pub record EndsNode (old : Array L D) (c n : ℕ) (event : Traced) (device : Option D) (new : Array L D) : Type 0 where
    pub step : Follows lay disk old event new
    pub sound : IsSound lay disk new
    pub goes : GoesOn old new
    pub devices : new.devices.slots ≡ slots_home device (spot_at (desk_at old.clients c) n) old.devices
    pub stays : OthersStay disk lay c n old new
