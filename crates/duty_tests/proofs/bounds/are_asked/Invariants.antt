use Rattle.std.proofs.Common.{take}
use Rattle.std.specs.Prelude.{All}
use Rattle.eng_world.specs.declared.item.Item.{Item}
use Rattle.raid_script.specs.Asked.{seen}
use Rattle.top_bound.specs.Bound.{MayBeAsked}
use Rattle.duty_tests.proofs.bounds.are_asked.Given as goal

-- a script may hold the items so far
abbrev pub invariant-loop-at : goal.invariant-loop-at
invariant-loop-at l = All (λ (i : Item). MayBeAsked (seen i)) (take l.at l.items.items)
