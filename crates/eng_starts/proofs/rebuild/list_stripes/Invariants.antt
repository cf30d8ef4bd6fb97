use Rattle.std.proofs.Common.{◌≡◌, ◌+◌, length}
use Rattle.eng_starts.specs.Rebuilding.{AreRebuildsBelow}
use Rattle.eng_starts.proofs.rebuild.list_stripes.Given as goal

-- the rebuilds of the stripes so far, in the room that there was, and how many more are asked
abbrev pub invariant-loop-stripe : goal.invariant-loop-stripe
invariant-loop-stripe g l = record {
  listed : AreRebuildsBelow (g.L.Layout.shape l.layout) l.cols.states l.column l.count l.stripe l.rebuilds.items;
  count : l.left + length l.rebuilds.items ≡ l.count;
  room : l.rebuilds.room ≡ l.fn.rebuilds.room;
}
