use Rattle.std.proofs.Common.{◌≡◌, ◌≤◌, length, vec_len, vec_capacity}
use Rattle.eng_clients.specs.Spots.{padded}
use Rattle.eng_clients.proofs.spots.fill.Given as goal

-- None so far stands behind what there was
abbrev pub invariant-loop : goal.invariant-loop
invariant-loop l = record {
  same : padded 2048 l.list.items ≡ padded 2048 l.fn.list.items;
  count : vec_len l.list ≡ l.counter;
  few : length l.list.items ≤ 2048;
  room : 2048 ≤ vec_capacity l.list;
}
