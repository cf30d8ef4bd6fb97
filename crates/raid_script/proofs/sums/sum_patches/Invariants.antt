use Rattle.std.proofs.Common.{◌≡◌, ◌≤◌, ◌*◌, take}
use Rattle.std.specs.Prelude.{sum_by}
use Rattle.blk_plain.specs.declared.op.Patch.{Patch}
use Rattle.raid_script.proofs.sums.sum_patches.Given as goal

-- the sum so far
abbrev pub invariant-loop-patch : goal.invariant-loop-patch
invariant-loop-patch l = record {
  sum : l.total ≡ sum_by (λ (p : Patch). p.span.count) (take l.patch-index l.patches);
  small : l.total ≤ 4294967295 * l.patch-index;
}
