use Rattle.std.proofs.Common.{◌≡◌, ◌≤◌, ◌-◌, All}
use Rattle.blk_plain.specs.declared.op.Patch.{Patch}
use Rattle.blk_plain.specs.Plain.{used_of}
use Rattle.raid_text.specs.Seen.{words_left}
use Rattle.raid_script.specs.Answers.{behind}
use Rattle.raid_script.specs.Steps.{seen_patches}
use Rattle.raid_script.specs.Format.{patches_of}
use Rattle.raid_script.proofs.patches.add_patches.Given as goal

abbrev pub decreases-loop-word : goal.decreases-loop-word
decreases-loop-word l = 8 - l.patches.used

abbrev pub invariant-loop-word : goal.invariant-loop-word
invariant-loop-word l = record {
  read : behind (seen_patches l.patches) (patches_of (8 - l.patches.used) (words_left l.words)) ≡ behind (seen_patches l.fn.patches) (patches_of (8 - l.fn.patches.used) (words_left l.fn.words));
  few : l.patches.used ≤ 8;
  some : All (λ (p : Patch). 1 ≤ p.span.count) (used_of l.patches);
}
