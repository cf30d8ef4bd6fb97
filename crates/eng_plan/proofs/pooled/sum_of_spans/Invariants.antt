use Rattle.std.proofs.Common.{◌≡◌, ◌≤◌, ◌*◌, take}
use Rattle.std.specs.Prelude.{sum_by}
use Rattle.blk_plain.specs.Plain.{spans_of}
use Rattle.eng_plan.specs.Pooled.{most_of_span}
use Rattle.eng_plan.proofs.pooled.sum_of_spans.Given as goal

-- those of the spans so far, and few enough to be counted
abbrev pub invariant-loop-i : goal.invariant-loop-i
invariant-loop-i g l = (l.stripes ≡ sum_by (most_of_span (g.L.Layout.shape l.layout)) (take l.i (spans_of l.patches))) × (l.stripes ≤ 16 * l.i)
