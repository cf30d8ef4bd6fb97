use Rattle.std.proofs.Common.{◌≡◌, ◌<◌, ℕ, List, true, ap, arith}
use Rattle.blk_plain.specs.declared.op.Span.{Span}
use Rattle.blk_plain.specs.Plain.{is_in_some, spans_of}
use Rattle.lay_core.specs.Layout.{IsLayout, Shape, blocks_in}
use Rattle.lay_core.specs.StraightRows.{straight, straight_lawful}
use Rattle.lay_core.specs.Touched.{IsJointSplit, Touched}
use Rattle.lay_core.proofs.Walked.{split-some}
use Rattle.graph_mean.specs.Task.{IsMapOf}
use Rattle.reach_tests.proofs.joined.refused.write_two.Goals as goal

-- what spans with a block are split into is a map for a task
joint_map : (y : Shape) → IsLayout y → (spans : List Span) (map : Touched) (b : ℕ) → IsJointSplit y spans map → b < blocks_in y → is_in_some spans b ≡ true → IsMapOf y map
joint_map y law spans map b split below here = record {
  some = split-some y law (is_in_some spans) map b split.split below here;
  stripes_most = split.stripes_few;
  stripes_within = split.split.stripes_within;
  parts_most = split.parts_few;
  parts_within = split.split.parts_within;
}

pub set-requires-clause-map : goal.set-requires-clause-map
set-requires-clause-map g c =
    let y : Shape = straight 3 1 1 in
    let law : IsLayout y = straight_lawful 3 1 1 (omega arith) (omega arith) (omega arith) (omega arith) (omega arith) in
    joint_map y law (spans_of c.blocks-2.result) c.split_all.new.map 0 c.in-Ok.ensures.split (omega arith) (ap (λ (ss : List Span). is_in_some ss 0) c.blocks-2.ensures.spans)
