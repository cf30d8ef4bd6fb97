use Rattle.std.proofs.Common.{◌≡◌, drop, map}
use Rattle.raid_script.specs.Asked.{seen}
use Rattle.top_join.specs.Steps.{spans_in_row}
use Rattle.top_join.proofs.written.patches_in_row.Given as goal

-- the item is among those that are left, if there is one
abbrev pub invariant-loop-at : goal.invariant-loop-at
invariant-loop-at l = spans_in_row l.graph (map seen l.items.items) ≡ spans_in_row l.graph (map seen (drop l.at l.items.items))
