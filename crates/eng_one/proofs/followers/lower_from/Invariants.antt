use Rattle.std.proofs.Common.{◌≡◌, ℕ, ◌+◌, ◌≤◌, length, slice_index_or}
use Rattle.eng_one.specs.Followers.{names_from}
use Rattle.eng_one.specs.Counts.{times, AreWaiting}
use Rattle.eng_one.proofs.followers.lower_from.Given as goal

abbrev pub invariant-loop-at : goal.invariant-loop-at
invariant-loop-at l = record {
  link : l.at ≤ length l.names;
  counts : (k : ℕ) → slice_index_or l.unmet k 0 + times k (names_from l.next l.names l.first) ≡ slice_index_or l.fn.unmet k 0 + times k (names_from l.next l.names l.at);
  all : length l.unmet ≡ length l.fn.unmet;
  ready : AreWaiting l.marks l.unmet l.ready;
}

abbrev pub decreases-loop-at : goal.decreases-loop-at
decreases-loop-at l = l.at
