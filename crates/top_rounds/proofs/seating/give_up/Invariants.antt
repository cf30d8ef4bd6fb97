use Rattle.std.proofs.Common.{◌≡◌, ◌++◌, map, take, drop}
use Rattle.top_rounds.specs.Labels.{unless_filling}
use Rattle.top_rounds.proofs.seating.give_up.Given as goal

-- the columns so far are given up
abbrev pub invariant-loop-c : goal.invariant-loop-c
invariant-loop-c l = l.columns ≡ map unless_filling (take l.c l.fn.columns) ++ drop l.c l.fn.columns
