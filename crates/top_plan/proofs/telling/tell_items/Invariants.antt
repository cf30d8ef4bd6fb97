use Rattle.std.proofs.Common.{◌≡◌, ◌++◌, ℕ, List}
use Rattle.top_plan.specs.Texts.{AreToldOf}
use Rattle.top_plan.proofs.telling.tell_items.Given as goal

-- what is told of the items so far was added
abbrev pub invariant-loop-number : goal.invariant-loop-number
invariant-loop-number g l =
    (told : List ℕ) × AreToldOf (g.L.Layout.shape l.layout) l.cols.states l.client l.items.items l.number told
    × (l.text.items ≡ l.fn.text.items ++ told)
