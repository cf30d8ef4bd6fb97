use Rattle.std.proofs.Common.{◌≡◌, ◌+◌, ◌<◌, ℕ, get_or, length}
use Rattle.eng_choice.proofs.takable.numbers_from.Given as goal

-- the numbers so far stand there
abbrev pub invariant-loop-i : goal.invariant-loop-i
invariant-loop-i l = (length l.numbers ≡ 16) × ((k : ℕ) → k < l.i → get_or l.numbers k 0 ≡ l.first + k)
