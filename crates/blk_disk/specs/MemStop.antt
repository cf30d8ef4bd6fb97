-- What a device in memory that can be stopped has.
use Rattle.std.specs.Prelude.{ℕ, ◌+◌, List, length, Bool, nat_le}
use Rattle.blk_disk.specs.declared.disk.Logged.{Logged}
use Rattle.blk_disk.specs.declared.stop.MemStop.{MemStop}
use Rattle.blk_disk.specs.Stops.{Left}
use Rattle.blk_disk.specs.Disk.{sector_at}

-- the bytes that it holds now
abbrev pub stop_bytes : MemStop → List ℕ
stop_bytes disk = disk.bytes.items

-- its bytes as they were settled last
abbrev pub stop_settled : MemStop → List ℕ
stop_settled disk = disk.settled.items

-- the sectors written since, in their order
abbrev pub stop_logged : MemStop → List Logged
stop_logged disk = disk.logged.items

-- how many of them it has room for
abbrev pub stop_room : MemStop → ℕ
stop_room disk = disk.room

-- its count of faults
abbrev pub stop_faults : MemStop → ℕ
stop_faults disk = disk.faults

-- what a stop may leave of it
abbrev pub stop_left : MemStop → Left
stop_left disk = record { settled = sector_at disk.settled.items; logged = disk.logged.items }

-- so many sectors more fit into the log
abbrev pub fits_log : MemStop → ℕ → Bool
fits_log disk count = nat_le (length disk.logged.items + count) disk.room
