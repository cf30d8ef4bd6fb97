use Rattle.raid_script.proofs.Halves.{Repeats}
use Rattle.raid_script.proofs.repetition.shortest_string.Given as goal

abbrev pub invariant-loop-length : goal.invariant-loop-length
invariant-loop-length l = Repeats l.sector l.length

abbrev pub decreases-loop-length : goal.decreases-loop-length
decreases-loop-length l = l.length
