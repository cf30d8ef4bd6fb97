use Rattle.std.proofs.Common.{◌≡◌, ◌≤◌, length, map, vec_capacity}
use Rattle.eng_parts.specs.Shelf.{seen_in}
use Rattle.eng_parts.specs.Brought.{at_home}
use Rattle.eng_parts.proofs.devices.Devices.close.Given as goal

-- of each slot so far what was at home in it
abbrev pub invariant-loop-slot : goal.invariant-loop-slot
invariant-loop-slot g l = record {
  next : (goal.iterator-loop-slot g).can_next l.slot-iterator;
  finite : (goal.iterator-loop-slot g).is_finite l.slot-iterator;
  is : l.home.items ≡ map at_home (map seen_in l.yielded);
  room : length l.fn.self.slots ≤ vec_capacity l.home;
}
