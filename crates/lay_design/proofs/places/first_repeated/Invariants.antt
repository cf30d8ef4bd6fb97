use Rattle.lay_design.specs.Counting.{IsNowhere}
use Rattle.lay_design.specs.Blocks.{is_repeated, tuple}
use Rattle.lay_design.proofs.places.first_repeated.Given as goal

-- no tuple so far has one
abbrev pub invariant-loop-row : goal.invariant-loop-row
invariant-loop-row l = IsNowhere (λ t. is_repeated (tuple l.tuples.width l.tuples.objects.now t)) l.row l.tuples.width
