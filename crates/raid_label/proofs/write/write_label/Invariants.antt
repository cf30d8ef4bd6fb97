use Rattle.std.proofs.Common.{◌≡◌, ◌+◌, ◌*◌, ◌++◌, take}
use Rattle.raid_label.specs.Steps.{magic, bytes_of_words}
use Rattle.raid_label.proofs.write.write_label.Given as goal

abbrev pub invariant-loop-i : goal.invariant-loop-i
invariant-loop-i l = take (8 + 4 * l.i) l.sector ≡ magic ++ bytes_of_words (take l.i l.words)
