use Rattle.std.proofs.Common.{◌≡◌, ◌≤◌, vec_capacity}
use Rattle.eng_log.specs.Laid.{sectors_before, AreRows}
use Rattle.eng_log.proofs.handed.open.lay_rows.Given as goal

-- a row for each client so far
abbrev pub invariant-loop-client : goal.invariant-loop-client
invariant-loop-client l = record {
  rows : AreRows l.clients l.client l.rows.items;
  next : l.next ≡ sectors_before l.clients l.client;
  room : 17 ≤ vec_capacity l.rows;
}
