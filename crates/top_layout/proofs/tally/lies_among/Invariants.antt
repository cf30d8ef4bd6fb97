use Rattle.std.proofs.Common.{◌≡◌, false}
use Rattle.top_layout.specs.Tallies.{lies_among}
use Rattle.top_layout.proofs.tally.lies_among.Given as goal

-- none of the units so far lies there
abbrev pub invariant-loop-unit : goal.invariant-loop-unit
invariant-loop-unit g l = lies_among (g.L.Layout.shape l.layout) l.unit l.stripe l.column ≡ false
