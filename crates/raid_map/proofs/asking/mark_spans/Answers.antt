use Rattle.std.proofs.Common.{subst}
use Rattle.std.specs.Prelude.{Contains}
use Rattle.blk_plain.specs.Plain.{spans_of}
use Rattle.lay_core.specs.Touched.{PassesEndSome}
use Rattle.raid_map.specs.Asking.{MarksAlso}
use Rattle.raid_map.proofs.Spans.{spans-split, split-not-refused}
use Rattle.raid_map.proofs.asking.mark_spans.Goals as goal

pub returns-in-Ok : goal.returns-in-Ok
returns-in-Ok g c =
    let inside : PassesEndSome (g.L.Layout.shape c.args.layout.now) (spans_of c.args.patches.now) → ⊥ = λ past. split-not-refused c.in-Ok.is (c.split_all.ensures.out_of_range.1 past) in
    spans-split (g.L.Layout.shape c.args.layout.now) c.args.patches.now c.split_all.new.map c.args.map.now c.mark_stripes.new.map c.requires.map c.in-Ok.ensures.split.split
    inside (λ long. split-not-refused c.in-Ok.is (c.split_all.ensures.too_long.1 (inside, long)))
    (subst (λ l. MarksAlso (Contains l) c.args.map.now c.mark_stripes.new.map) c.stripes.ensures c.mark_stripes.ensures)
