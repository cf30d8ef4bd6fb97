-- The graph of a join line is one for the write of both its spans.
use Rattle.std.proofs.Common.{◌≡◌, ◌∙◌, inl, inr, ℕ, ◌+◌, ◌-◌, ◌≤◌, nat_lt, Bool, true, false, List, [], ◌∷◌, ◌++◌, length, Ok, refl, sym, ap, subst, arith, length-append}
use Rattle.std.specs.Prelude.{Option, Some}
use Rattle.std.proofs.lemmas.Bool.{cases_lt, ltb-true, lt-ltb, le-ltb, cond-true, cond-false}
use Rattle.blk_plain.specs.declared.op.Span.{Span}
use Rattle.lay_core.specs.Layout.{Shape, IsLayout, stripe_of}
use Rattle.lay_core.specs.Touched.{Touched, stripe_count}
use Rattle.graph_mean.specs.declared.task.Kind.TheVariants.{Write}
use Rattle.graph_mean.specs.Atomic.{Atomic}
use Rattle.graph_mean.specs.Graph.{View}
use Rattle.graph_mean.specs.Ordered.{Accepted}
use Rattle.graph_mean.specs.Task.{Aim, Missing, IsMapOf, IsTask, task_of}
use Rattle.graph_mean.proofs.Maps.{split-map}
use Rattle.graph_mean.proofs.Sound.{accepted-atomic}
use Rattle.graph_merge.specs.Joined.{IsJoined}
use Rattle.graph_merge.specs.Tasks.{AreInTurn, IsPair, followed, map_followed, missing_followed}
use Rattle.graph_merge.proofs.Accepting as accepting
use Rattle.graph_merge.proofs.Spans.{maps_follow, tasks_follow}
use Rattle.raid_script.specs.Asked.{Asked}
use Rattle.top_join.specs.Both.{AreAcceptedAlone, AreWritten, missing_behind}
use Rattle.top_join.specs.Joining.{IsOver}
use Rattle.top_join.specs.Steps.{IsInTurn, IsJoint, is_before, may_join, spans_in}

-- the task of a write of a split span
task_is : (y : Shape) (map : Touched) → IsLayout y → IsMapOf y map → IsTask (task_of y Write map)
task_is y map law is = record {
  stripes_most = is.stripes_most;
  width_most = let a = law.width_most in let b = law.columns_most in omega (arith, a, b);
  checks_most = law.checks_most;
  checks_below = law.checks_below;
  unit_least = law.unit_least;
  unit_most = law.unit_most;
  parts_most = is.parts_most;
  parts_within = λ k p l. let q = is.parts_within k p l in record { stripe = q.stripe; unit = q.unit; some = q.some; fits = q.fits };
  unit_below = tt;
}

-- missing units are those of the first stripes, followed by those of the others
missing_at : (t : Aim) (missing : Missing) (s : ℕ) → missing_followed t missing (missing_behind t.stripes missing) s ≡ missing s
missing_at t missing s = elim (cases_lt s t.stripes) [
  | inl l ↦ cond-true (nat_lt s t.stripes) (missing s) (missing (s - t.stripes + t.stripes)) (lt-ltb s t.stripes l)
  | inr g ↦
      let back : s - t.stripes + t.stripes ≡ s = omega arith in
      cond-false (nat_lt s t.stripes) (missing s) (missing (s - t.stripes + t.stripes)) (le-ltb s t.stripes g) ∙ ap missing back
]

missing_same : (t : Aim) (missing : Missing) → missing_followed t missing (missing_behind t.stripes missing) ≡ missing
missing_same t missing = λ i. λ s. missing_at t missing s i

module _ (y : Shape) (one other out : View) (p q : Span) where
  -- what is joined over two spans is joined over spans in turn
  record IsTurned : Type 0 where
    before : is_before y p q ≡ true
    merged : IsJoined one other (stripe_count y p) out

  turned : (before : Bool) → is_before y p q ≡ before → IsInTurn y one other p before (Ok out) → IsTurned
  turned false e h = absurd (cc h)
  turned true e h = record { before = e; merged = h }

  turned_over : (spans : Option (List Span)) → spans ≡ Some (p ∷ q ∷ []) → may_join y (p ∷ q ∷ []) ≡ true → IsOver y one other spans (Ok out) → IsTurned
  turned_over spans two may h =
      let over : IsJoint y one other p q (may_join y (p ∷ q ∷ [])) (Ok out) = subst (λ (x : Option (List Span)). IsOver y one other x (Ok out)) two h in
      turned (is_before y p q) refl (subst (λ (x : Bool). IsJoint y one other p q x (Ok out)) may over)

module _ (y : Shape) (clients : List (List Asked)) (n : ℕ) (one other out : View) (p q : Span) (a b both : Touched) (missing : Missing)
    (law : IsLayout y) (w : AreWritten y clients n p q a b both) (h : IsOver y one other (spans_in n clients) (Ok out))
    (alone : AreAcceptedAlone y one other a b missing) where
  is : IsTurned y one other out p q
  is = turned_over y one other out p q (spans_in n clients) w.spans w.may h

  turn : AreInTurn y p q
  turn = record {
    first_some = w.first_some;
    second_some = w.second_some;
    apart = ltb-true (stripe_of y (p.first + p.count - 1)) (stripe_of y q.first) is.before;
  }

  both_follow : both ≡ map_followed a b
  both_follow = maps_follow y p q a b both law turn w.first w.second w.joint

  few : length a.stripes ≤ 16
  few =
      let sum : length (a.stripes ++ b.stripes) ≡ length a.stripes + length b.stripes = length-append a.stripes b.stripes in
      let all : length (a.stripes ++ b.stripes) ≤ 16 = subst (λ (m : Touched). length m.stripes ≤ 16) both_follow w.joint.stripes_few in
      omega (arith, sum, all)

  pair : IsPair (task_of y Write a) (task_of y Write b) (stripe_count y p)
  pair = record {
    task = task_is y a law (split-map y law p w.first_some a (subst (λ (k : ℕ). k ≤ 16) w.first.stripes_many few) w.first);
    alike = record { kind = refl; width = refl; checks = refl; unit_sectors = refl };
    stripes = w.first.stripes_many;
  }

  pub accepted : Accepted out (task_of y Write both) missing
  accepted =
      let joint = accepting.accepted one other out (stripe_count y p) (task_of y Write a) (task_of y Write b) missing (missing_behind (length a.stripes) missing) is.merged pair alone.first alone.second in
      let task : followed (task_of y Write a) (task_of y Write b) ≡ task_of y Write both =
      sym (ap (λ (m : Touched). task_of y Write m) both_follow ∙ tasks_follow y Write a b) in
      subst (λ (t : Aim). Accepted out t missing) task
      (subst (λ (m : Missing). Accepted out (followed (task_of y Write a) (task_of y Write b)) m) (missing_same (task_of y Write a) missing) joint)

  pub atomic : Atomic out (task_of y Write both) missing
  atomic = accepted-atomic out (task_of y Write both) missing accepted
