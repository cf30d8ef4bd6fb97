use Rattle.std.proofs.Common.{◌≡◌, ◌+◌, ◌-◌}
use Rattle.blk_plain.specs.Plain.{is_in_some, spans_of}
use Rattle.lay_core.specs.Joined.{began, IsInSpan}
use Rattle.lay_core.proofs.joint.add_span.Given as goal

-- the blocks of the span before `low` are in the map
abbrev pub invariant-loop-low : goal.invariant-loop-low
invariant-loop-low g l = record {
  walked : IsInSpan (g.L.Layout.shape l.layout) (is_in_some (spans_of l.patches)) l.map l.fn.span.first l.end l.low (began (spans_of l.patches) l.fn.span.first);
  sectors : l.sectors ≡ (g.L.Layout.shape l.layout).unit_sectors;
  end : l.end ≡ l.fn.span.first + l.fn.span.count;
}

abbrev pub decreases-loop-low : goal.decreases-loop-low
decreases-loop-low g l = l.end - l.low
