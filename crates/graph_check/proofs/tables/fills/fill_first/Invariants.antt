use Rattle.std.proofs.Common.{◌≡◌, ℕ, ◌<◌, get_or, length}
use Rattle.graph_check.proofs.tables.fills.fill_first.Given as goal

-- the entries so far
abbrev pub invariant-loop-k : goal.invariant-loop-k
invariant-loop-k g l = record {
  long : length l.table ≡ length l.fn.table;
  filled : (j : ℕ) (d : _) → j < l.k → get_or l.table j d ≡ l.value;
}
