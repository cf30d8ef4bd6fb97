use Rattle.std.proofs.Common.{◌≡◌, ◌<◌, ℕ, List, Some, slice_get}
use Rattle.top_bay.specs.Asked.{names_of}
use Rattle.top_bay.proofs.component.place_of.Given as goal

abbrev pub invariant-loop-k : goal.invariant-loop-k
invariant-loop-k l = (j : ℕ) (n : List ℕ) → j < l.k → slice_get (names_of l.fn.conf) j ≡ Some n → n ≡ l.fn.name → ⊥
