use Rattle.std.proofs.Common.{◌≡◌, ◌≤◌, ◌<◌, ℕ, None, get_or, length, vec_capacity}
use Rattle.std.specs.Int.{bit_at}
use Rattle.eng_clients.specs.Busy.{IsQuiet}
use Rattle.eng_clients.specs.Desk.{desk_at}
use Rattle.eng_log.specs.Given.{items_at}
use Rattle.eng_clients.proofs.clients.open.ClientRooms.bring.Given as goal
use Rattle.eng_clients.specs.Fresh.{new_desk}

-- each client so far has its items, and those of the others are still given
abbrev pub invariant-loop-number : goal.invariant-loop-number
invariant-loop-number l = record {
  count : length l.list.items ≡ l.number;
  room : 17 ≤ vec_capacity l.list;
  each : (c : ℕ) → c < l.number → desk_at l.list.items c ≡ new_desk (items_at l.fn.given.items c);
  quiet : (k : ℕ) → bit_at l.busy k ≡ 0 → IsQuiet (desk_at l.list.items k);
  given : (k : ℕ) → l.number ≤ k → items_at l.given.items k ≡ items_at l.fn.given.items k;
  rooms : (k : ℕ) → l.number ≤ k → get_or l.rooms.items k None ≡ get_or l.fn.self k None;
  many : length l.rooms.items ≡ 17;
}
