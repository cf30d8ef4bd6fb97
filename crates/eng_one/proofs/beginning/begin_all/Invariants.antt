use Rattle.std.proofs.Common.{◌≡◌, ℕ, ◌<◌, ◌≤◌, length, take, slice_index_or, vec_capacity}
use Rattle.std.specs.Prelude.{◌==◌, if◌then◌else◌, nat_lt}
use Rattle.std.specs.List.{sum_by}
use Rattle.graph_mean.specs.Graph.{vertex_at}
use Rattle.eng_one.specs.Bits.{has}
use Rattle.eng_one.specs.Followers.{followers_in}
use Rattle.eng_one.specs.Counts.{times}
use Rattle.eng_one.proofs.beginning.begin_all.Given as goal

abbrev pub invariant-loop-n : goal.invariant-loop-n
invariant-loop-n l = record {
  lists : (c k : ℕ) → times k (followers_in l.followers c) ≡ (if nat_lt k l.n then times c (vertex_at l.graph.drawn k).antes else 0);
  nodes : length l.followers.first ≡ length l.graph.drawn.nodes;
  entries : length l.followers.names ≡ sum_by (λ v. length v.antes) (take l.n l.graph.drawn.nodes);
  long : length l.unmet.items ≡ l.n;
  counts : (k : ℕ) → k < l.n → slice_index_or l.unmet.items k 0 ≡ length (vertex_at l.graph.drawn k).antes;
  room : vec_capacity l.fn.unmet ≤ vec_capacity l.unmet;
  ready : (k : ℕ) → has l.ready k ≡ (slice_index_or l.unmet.items k 1 == 0);
}
