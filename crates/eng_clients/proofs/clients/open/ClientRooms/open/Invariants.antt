use Rattle.std.proofs.Common.{◌≡◌, ◌≤◌, ◌<◌, ℕ, Some, None, get_or, length, vec_capacity}
use Rattle.eng_log.specs.Given.{items_at}
use Rattle.eng_clients.proofs.clients.open.ClientRooms.open.Given as goal

-- each client so far has room for its items
abbrev pub invariant-loop-client : goal.invariant-loop-client
invariant-loop-client l = record {
  count : length l.rooms.items ≡ l.client;
  room : 17 ≤ vec_capacity l.rooms;
  each : (c : ℕ) → c < l.client → get_or l.rooms.items c None ≡ Some (length (items_at l.clients c));
}
