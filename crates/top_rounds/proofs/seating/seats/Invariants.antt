use Rattle.std.proofs.Common.{◌≡◌, ◌-◌, ◌++◌, length, map, take}
use Rattle.std.specs.Prelude.{replicate}
use Rattle.top_rounds.specs.Labels.{seat_of}
use Rattle.top_rounds.proofs.seating.seats.Given as goal

-- the columns so far have their seats
abbrev pub invariant-loop-c : goal.invariant-loop-c
invariant-loop-c l = l.seats ≡ map (seat_of (length l.columns)) (take l.c l.columns) ++ replicate (32 - l.c) 0
