-- What a gated device has, and what its calls do to the device that it stands before.
use Rattle.std.specs.Prelude.{◌≡◌, ◌<◌, ◌≤◌, ◌+◌, ◌/◌, ◌++◌, [], ◌∷◌, ℕ, Bool, false, if◌then◌else◌, not, nat_lt}
use Rattle.blk_disk.specs.Disk.{call_of, one_more}
use Rattle.blk_disk.specs.Mem.{mem_numbers, mem_room, mem_made, mem_kept, mem_faults, mem_fails}
use Rattle.blk_disk.specs.declared.gate.GateDisk.{GateDisk}
use Rattle.blk_disk.specs.declared.mem.MemDisk.{MemDisk}

-- the device that it stands before
abbrev pub inner_of : GateDisk → MemDisk
inner_of disk = disk.inner

-- its side of the gate
abbrev pub side_of : GateDisk → ℕ
side_of disk = disk.side

-- the sector whose write it holds back, or opens the gate by
abbrev pub sector_of : GateDisk → ℕ
sector_of disk = disk.sector

-- its count of faults
abbrev pub gate_faults : GateDisk → ℕ
gate_faults disk = disk.faults

-- side and sector are as they were
pub record SameGate (old new : GateDisk) : Type 0 where
  pub side : side_of new ≡ side_of old
  pub sector : sector_of new ≡ sector_of old

-- a write of so many bytes is held back: it comes from side 0, and the sector is one of its sectors
pub record IsHeldBack (disk : GateDisk) (first bytes : ℕ) : Type 0 where
  pub side : side_of disk ≡ 0
  pub from : first ≤ sector_of disk
  pub below : sector_of disk < first + bytes / 512

-- the device had this call, which went well or not as its number says; what it holds is said apart
pub record HasHad (old : MemDisk) (kind first bytes : ℕ) (good : Bool) (new : MemDisk) : Type 0 where
  pub exact : good ≡ not (mem_fails old)
  pub made : mem_made new ≡ one_more (mem_made old)
  pub fails : mem_numbers new ≡ mem_numbers old
  pub room : mem_room new ≡ mem_room old
  pub faults : mem_faults new ≡ (if good then mem_faults old else one_more (mem_faults old))
  pub kept : mem_kept new ≡ (if nat_lt (mem_made old) (mem_room old) then mem_kept old ++ call_of kind first bytes good ∷ [] else mem_kept old)

-- the call went to the device behind the gate, and is a fault here too where it is one there
pub record PassesOn (old : GateDisk) (kind first bytes : ℕ) (good : Bool) (new : GateDisk) : Type 0 where
  pub had : HasHad (inner_of old) kind first bytes good (inner_of new)
  pub faults : gate_faults new ≡ (if good then gate_faults old else one_more (gate_faults old))

-- it didn't: the looks ran out, the device behind the gate is as it was, and the fault is counted here
pub record IsKeptOut (old : GateDisk) (good : Bool) (new : GateDisk) : Type 0 where
  pub bad : good ≡ false
  pub same : inner_of new ≡ inner_of old
  pub faults : gate_faults new ≡ one_more (gate_faults old)
