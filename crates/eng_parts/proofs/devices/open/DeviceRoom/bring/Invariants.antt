use Rattle.std.proofs.Common.{◌≡◌, ◌≤◌, length, map, replicate, false, vec_capacity}
use Rattle.eng_parts.specs.Shelf.{seen_in}
use Rattle.eng_parts.specs.Brought.{brought}
use Rattle.eng_parts.proofs.devices.open.DeviceRoom.bring.Given as goal

-- of each device so far its slot, and that it hasn't failed
abbrev pub invariant-loop-device : goal.invariant-loop-device
invariant-loop-device g l = record {
  next : (goal.iterator-loop-device g).can_next l.device-iterator;
  finite : (goal.iterator-loop-device g).is_finite l.device-iterator;
  slots : map seen_in l.slots.items ≡ map brought l.yielded;
  count : length l.slots.items ≡ length l.yielded;
  failed : l.failed.items ≡ replicate (length l.yielded) false;
  room : (length l.fn.devices.items ≤ vec_capacity l.slots) × (length l.fn.devices.items ≤ vec_capacity l.failed);
}
