-- A joined graph is in order, and accepted, for both tasks together.
use Rattle.std.proofs.Common.{◌≡◌, ◌⊎◌, inl, inr, ℕ, ◌+◌, ◌-◌, ◌<◌, sym, subst, arith}
use Rattle.std.proofs.lemmas.Bool.{cases_lt}
use Rattle.graph_mean.specs.Graph.{View}
use Rattle.graph_mean.specs.Task.{Aim, Missing}
use Rattle.graph_mean.specs.Atomic.{Atomic}
use Rattle.graph_mean.specs.Refused.{IsFree}
use Rattle.graph_mean.specs.Ordered.{IsOrdered, HasValues, Accepted}
use Rattle.graph_mean.proofs.Free.{accepted-free}
use Rattle.graph_mean.proofs.Sound.{accepted-atomic}
use Rattle.graph_merge.specs.Joined.{Half, IsMarkedHalf, IsJoined, place, joined, commit_place, first_offsets, second_offsets}
use Rattle.graph_merge.specs.Tasks.{IsInOrder, IsPair, followed, missing_followed}
use Rattle.graph_merge.proofs.Carry.{Side}
use Rattle.graph_merge.proofs.Ordering.{ordered}
use Rattle.graph_merge.proofs.Uniting.{joins}
use Rattle.graph_merge.proofs.Tasks.{first_side, second_side}
use Rattle.graph_merge.proofs.Returning.{joins_rets}
use Rattle.graph_merge.proofs.Valued.{values}
use Rattle.graph_merge.proofs.Small.{joined_within, not_large}
use Rattle.graph_merge.proofs.Words.{end_place}

-- the commit and the terminator are those of the half
by_ends : (h : Half) (t : Aim) (m : Missing) → IsMarkedHalf h → IsInOrder h.graph t m → IsOrdered h.graph t m h.ends.commit h.ends.end
by_ends h t m marked ok =
    let o : IsOrdered h.graph t m ok.0 ok.1 = ok.2 in
    let c : ok.0 ≡ h.ends.commit = marked.formed.one_commit.only ok.0 o.commit.below o.commit.here in
    let e : ok.1 ≡ h.ends.end = marked.formed.one_end.only ok.1 o.end.below o.end.here in
    subst (λ (x : ℕ). IsOrdered h.graph t m h.ends.commit x) e (subst (λ (x : ℕ). IsOrdered h.graph t m x ok.1) c o)

-- each stripe of both tasks together is one of theirs
halves : (t u : Aim) (shift s : ℕ) → t.stripes ≡ shift → s < t.stripes + u.stripes → ((r : ℕ) × (r < t.stripes) × (s ≡ r + 0)) ⊎ ((r : ℕ) × (r < u.stripes) × (s ≡ r + shift))
halves t u shift s edge h = elim (cases_lt s t.stripes) [
  | inl l ↦ inl (s, l, omega arith)
  | inr g ↦ inr (s - t.stripes, omega arith, omega arith)
]

module _ (a b : Half) (shift : ℕ) (marked_a : IsMarkedHalf a) (marked_b : IsMarkedHalf b) (t u : Aim) (m k : Missing) (pair : IsPair t u shift) where
  side : Side u (followed t u) k (missing_followed t m k) shift
  side = subst (Side u (followed t u) k (missing_followed t m k)) pair.stripes (second_side t u m k pair.task.parts_within pair.alike)

  half_order : IsOrdered a.graph t m a.ends.commit a.ends.end → IsOrdered b.graph u k b.ends.commit b.ends.end → IsOrdered (joined a b shift) (followed t u) (missing_followed t m k) (commit_place a b) (end_place a b)
  half_order oka okb = ordered a.graph b.graph (joined a b shift) a.ends.commit a.ends.end b.ends.commit b.ends.end (commit_place a b) (end_place a b) (place a (first_offsets a b)) (place b (second_offsets a b)) _ shift (joins a b shift marked_a marked_b) t u (followed t u) m k (missing_followed t m k) (first_side t u m k) side pair.stripes oka okb

  half_values : IsOrdered a.graph t m a.ends.commit a.ends.end → IsOrdered b.graph u k b.ends.commit b.ends.end → HasValues a.graph t m → HasValues b.graph u k → HasValues (joined a b shift) (followed t u) (missing_followed t m k)
  half_values oka okb va vb = values a.graph b.graph (joined a b shift) a.ends.commit a.ends.end b.ends.commit b.ends.end (commit_place a b) (end_place a b) (place a (first_offsets a b)) (place b (second_offsets a b)) _ shift (joins a b shift marked_a marked_b) (joins_rets a b shift) t u (followed t u) m k (missing_followed t m k) (first_side t u m k) side pair.stripes (λ s h. halves t u shift s pair.stripes h) oka okb va vb

module _ (a b out : View) (shift : ℕ) (t u : Aim) (m k : Missing) (j : IsJoined a b shift out) (pair : IsPair t u shift) where
  first_order : IsInOrder a t m → IsOrdered j.first.graph t m j.first.ends.commit j.first.ends.end
  first_order ok = by_ends j.first t m j.first_marked (subst (λ (g : View). IsInOrder g t m) (sym j.of_first) ok)

  second_order : IsInOrder b u k → IsOrdered j.second.graph u k j.second.ends.commit j.second.ends.end
  second_order ok = by_ends j.second u k j.second_marked (subst (λ (g : View). IsInOrder g u k) (sym j.of_second) ok)

  pub in_order : IsInOrder a t m → IsInOrder b u k → IsInOrder out (followed t u) (missing_followed t m k)
  in_order oka okb =
      let whole = half_order j.first j.second shift j.first_marked j.second_marked t u m k pair (first_order oka) (second_order okb) in
      subst (λ (g : View). IsInOrder g (followed t u) (missing_followed t m k)) (sym j.is) (commit_place j.first j.second, end_place j.first j.second, whole)

  pub accepted : Accepted a t m → Accepted b u k → Accepted out (followed t u) (missing_followed t m k)
  accepted oka okb =
      let fa = first_order (oka.0, oka.1, oka.2) in
      let fb = second_order (okb.0, okb.1, okb.2) in
      let va = subst (λ (g : View). HasValues g t m) (sym j.of_first) oka.3 in
      let vb = subst (λ (g : View). HasValues g u k) (sym j.of_second) okb.3 in
      let whole = half_order j.first j.second shift j.first_marked j.second_marked t u m k pair fa fb in
      let all = half_values j.first j.second shift j.first_marked j.second_marked t u m k pair fa fb va vb in
      subst (λ (g : View). Accepted g (followed t u) (missing_followed t m k)) (sym j.is) (commit_place j.first j.second, end_place j.first j.second, whole, all)

  pub free : Accepted a t m → Accepted b u k → IsFree out (followed t u) (missing_followed t m k)
  free oka okb =
      let ok = accepted oka okb in
      accepted-free out (followed t u) (missing_followed t m k) ok.0 ok.1 ok.2 ok.3 (not_large out (joined_within a b out shift j))

  pub atomic : Accepted a t m → Accepted b u k → Atomic out (followed t u) (missing_followed t m k)
  atomic oka okb = accepted-atomic out (followed t u) (missing_followed t m k) (accepted oka okb)
