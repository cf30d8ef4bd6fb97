use Rattle.std.proofs.Common.{◌≡◌, ◌≤◌, length, map, take, vec_len, vec_capacity}
use Rattle.top_scan.proofs.scanning.group_fronts.Given as goal
use Rattle.top_open.specs.Labels.{label_of}

-- the labels so far
abbrev pub invariant-loop-place : goal.invariant-loop-place
invariant-loop-place l = record {
  items : l.labels.items ≡ map label_of (take l.place l.fronts);
  len : vec_len l.labels ≡ l.place;
  room : length l.fronts ≤ vec_capacity l.labels;
}
