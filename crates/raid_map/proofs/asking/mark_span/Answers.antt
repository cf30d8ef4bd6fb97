use Rattle.std.proofs.Common.{subst}
use Rattle.raid_map.specs.Asking.{MarksAlso}
use Rattle.raid_map.proofs.Spans.{span-split, split-not-refused}
use Rattle.std.specs.Prelude.{Contains}
use Rattle.raid_map.proofs.asking.mark_span.Goals as goal

pub returns-in-Ok : goal.returns-in-Ok
returns-in-Ok g c =
    span-split (g.L.Layout.shape c.args.layout.now) c.args.span c.split.new.map c.args.map.now c.mark_stripes.new.map c.requires.map c.in-Ok.ensures.split.split
    (λ past. split-not-refused c.in-Ok.is (c.split.ensures.out_of_range.1 past)) c.in-Ok.ensures.few
    (subst (λ l. MarksAlso (Contains l) c.args.map.now c.mark_stripes.new.map) c.stripes.ensures c.mark_stripes.ensures)
