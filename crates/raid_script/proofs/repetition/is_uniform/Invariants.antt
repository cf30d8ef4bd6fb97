use Rattle.std.proofs.Common.{◌≡◌, ◌↔◌, ℕ, ◌<◌, get_or, IsTrue}
use Rattle.raid_script.proofs.repetition.is_uniform.Given as goal

-- it tells of the bytes so far whether they are the first one
abbrev pub invariant-loop-k : goal.invariant-loop-k
invariant-loop-k l = IsTrue l.uniform ↔ ((j : ℕ) → j < l.k → get_or l.sector j 0 ≡ get_or l.sector 0 0)
