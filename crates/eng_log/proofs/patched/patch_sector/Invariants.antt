use Rattle.std.proofs.Common.{◌≡◌, drop}
use Rattle.blk_plain.specs.Plain.{used_of, patched_sector, zero_sector}
use Rattle.eng_log.proofs.patched.patch_sector.Given as goal

-- no span so far has the block
abbrev pub invariant-loop-i : goal.invariant-loop-i
invariant-loop-i l = patched_sector (used_of l.patches) l.block zero_sector ≡ patched_sector (drop l.i (used_of l.patches)) l.block zero_sector
