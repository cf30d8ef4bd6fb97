use Rattle.std.proofs.Common.{◌≤◌, length, vec_capacity}
use Rattle.eng_clients.proofs.clients.Clients.close.Given as goal
use Rattle.eng_clients.specs.Replied.{AreClosed}

-- each client so far is handed out
abbrev pub invariant-loop-client : goal.invariant-loop-client
invariant-loop-client l = record {
  closed : AreClosed l.lost l.yielded (length l.yielded) l.items.items l.replies.items;
  room : (l.fn.count ≤ vec_capacity l.items) × (l.fn.count ≤ vec_capacity l.replies);
}
