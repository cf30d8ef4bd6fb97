use Rattle.std.proofs.Common.{◌≡◌}
use Rattle.act_tests.proofs.maps.mark_first.Given as goal

-- the map is that of the layout's stripes
abbrev pub invariant-loop-stripe : goal.invariant-loop-stripe
invariant-loop-stripe g l = l.map.stripes ≡ (g.L.Layout.shape l.layout).stripes
