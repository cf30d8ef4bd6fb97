use Rattle.std.proofs.Common.{◌≡◌, length, take}
use Rattle.blk_plain.specs.Plain.{patched, used_of}
use Rattle.blk_plain.proofs.blocks.write_all.Given as goal

-- the patches so far are written
abbrev pub invariant-loop-i : goal.invariant-loop-i
invariant-loop-i l = record {
  now : l.sectors ≡ patched (take l.i (used_of l.patches)) l.fn.sectors;
  count : length l.sectors ≡ length l.fn.sectors;
}
