use Rattle.std.proofs.Common.{◌≡◌, ◌≤◌, ◌+◌, length, vec_capacity}
use Rattle.eng_rest.specs.Left.{below}
use Rattle.eng_log.specs.Laid.{sectors_at, IsRow}
use Rattle.eng_log.proofs.handed.Regions.open.Given as goal

-- a region for each item so far
abbrev pub invariant-loop-i : goal.invariant-loop-i
invariant-loop-i l = record {
  row : IsRow l.items.items l.first l.i l.list.items;
  next : l.next ≡ l.first + below (sectors_at l.items.items) l.i;
  room : length l.items.items ≤ vec_capacity l.list;
}
