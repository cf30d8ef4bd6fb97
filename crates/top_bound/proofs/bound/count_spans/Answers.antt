use Rattle.std.proofs.Common.{◌≡◌, ◌≤◌, length, take, arith}
use Rattle.std.proofs.lemmas.Grind.{common_steps}
use Rattle.std.proofs.lemmas.List.{length-map, length-take}
use Rattle.blk_plain.specs.declared.op.Patch.{Patch}
use Rattle.blk_plain.specs.Plain.{used_of}
use Rattle.top_bound.proofs.bound.count_spans.Goals as goal

pub returns-clause-value : goal.returns-clause-value
returns-clause-value c = let many = length-map (used_of c.args.patches.now) (λ (p : Patch). p.span) in grind (arith, common_steps, many)
