use Rattle.std.proofs.Common.{take}
use Rattle.std.specs.Prelude.{AllPairs}
use Rattle.blk_plain.specs.Plain.{AreApart}
use Rattle.blk_plain.proofs.apart.are_apart.Given as goal

-- the patches so far are apart
abbrev pub invariant-loop-i : goal.invariant-loop-i
invariant-loop-i l = AllPairs AreApart (take l.i l.used)
