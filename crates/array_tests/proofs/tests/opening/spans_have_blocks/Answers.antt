use Rattle.std.proofs.Common.{◌≤◌}
use Rattle.std.proofs.lemmas.List.Elements.{All-map}
use Rattle.blk_plain.specs.declared.op.Patch.{Patch}
use Rattle.blk_plain.specs.declared.op.Span.{Span}
use Rattle.blk_plain.specs.Plain.{used_of}
use Rattle.array_tests.proofs.tests.opening.spans_have_blocks.Goals as goal

pub returns : goal.returns
returns c = All-map (λ (s : Span). 1 ≤ s.count) (λ (p : Patch). p.span) (used_of c.args.patches.now) c.requires
