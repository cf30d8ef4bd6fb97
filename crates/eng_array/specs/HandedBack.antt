-- What a core that comes of an opening hands back as it is closed.
use Rattle.std.specs.Prelude.{◌≡◌, ℕ, length}
use Rattle.blk_disk.specs.declared.disk.Disk.{Ghosts as DiskGhosts}
use Rattle.eng_log.specs.Given.{items_at}
use Rattle.eng_parts.specs.declared.setup.Closed.{Closed}
use Rattle.eng_parts.specs.declared.setup.Setup.{Setup}
use Rattle.eng_array.specs.Tickets.{DevicesGoOn}

-- The layout of the setup, and as many clients, each with its items, and with replies for each. There are as many devices, the same of them absent, and each goes on: its size stays, its count of faults doesn't fall, and what it tells of its calls goes on.
pub record HandsBack {L D : Type 0} (disk : DiskGhosts D) (setup : Setup L D) (closed : Closed L D) : Type 0 where
  pub layout : closed.layout ≡ setup.layout
  pub clients : length closed.clients.items ≡ length setup.clients.items
  pub items : (c : ℕ) → items_at closed.clients.items c ≡ items_at setup.clients.items c
  pub replies : length closed.replies.items ≡ length setup.clients.items
  pub devices : DevicesGoOn disk setup.devices.items closed.devices.items
