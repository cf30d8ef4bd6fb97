use Rattle.std.proofs.Common.{◌≡◌, ◌↔◌, ℕ, ◌<◌, get_or, IsTrue}
use Rattle.raid_recon.proofs.adding.are_equal.Given as goal

-- it tells of the pairs so far whether they are equal
abbrev pub invariant-loop-k : goal.invariant-loop-k
invariant-loop-k l = IsTrue l.equal ↔ ((j : ℕ) → j < l.k → get_or l.one j 0 ≡ get_or l.other j 0)
