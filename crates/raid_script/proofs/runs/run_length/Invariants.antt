use Rattle.std.proofs.Common.{◌≡◌, ℕ, ◌<◌, List, get_or}
use Rattle.raid_script.proofs.runs.run_length.Given as goal

-- each sector so far is the first one
abbrev pub invariant-loop-i : goal.invariant-loop-i
invariant-loop-i l = (k : ℕ) (d : List ℕ) → k < l.i → get_or l.sectors k d ≡ get_or l.sectors 0 d
