-- There is a joined graph for each line, and it fits the pool.
use Rattle.std.proofs.Common.{◌≡◌, ◌∙◌, ℕ, suc, ◌+◌, ◌≤◌, Bool, true, false, List, [], ◌∷◌, length, Result, Ok, Err, refl, sym, ap, subst, arith, All}
use Rattle.std.specs.Prelude.{Option, Some, None}
use Rattle.std.proofs.lemmas.List.Elements.{All-cons, All-nil}
use Rattle.blk_plain.specs.declared.op.Span.{Span}
use Rattle.lay_core.specs.Layout.{Shape}
use Rattle.lay_core.specs.Touched.{stripe_count}
use Rattle.graph_mean.specs.Graph.{View, blank}
use Rattle.graph_merge.proofs.Small.{joined_within}
use Rattle.graph_text.specs.Format.{Named}
use Rattle.text_steps.specs.declared.at.At.{At}
use Rattle.raid_script.specs.declared.join.Join.{Join}
use Rattle.raid_script.specs.Asked.{Asked}
use Rattle.top_bound.specs.Laws.{IsSmall}
use Rattle.top_join.specs.Joining.{AreJoined, Follows, IsOver}
use Rattle.top_join.specs.Steps.{IsInTurn, IsJoint, is_before, may_join, graph_at, spans_in}

blank_small : (v : View) → ◌≡◌ {A = Result View ℕ} (Ok v) (Ok blank) → IsSmall v
blank_small v h = let same : v ≡ blank = cc h in subst IsSmall (sym same) (let z : 0 ≤ 2048 = omega arith in z)

small_in_turn : (y : Shape) (a b : View) (p : Span) (before : Bool) (v : View) → IsInTurn y a b p before (Ok v) → IsSmall v
small_in_turn y a b p false v h = absurd (cc h)
small_in_turn y a b p true v h = (joined_within a b v (stripe_count y p) h).bufs

small_joint : (y : Shape) (a b : View) (p q : Span) (may : Bool) (v : View) → IsJoint y a b p q may (Ok v) → IsSmall v
small_joint y a b p q false v h = blank_small v h
small_joint y a b p q true v h = small_in_turn y a b p (is_before y p q) v h

small_over : (y : Shape) (a b : View) (spans : Option (List Span)) (v : View) → IsOver y a b spans (Ok v) → IsSmall v
small_over y a b None v h = blank_small v h
small_over y a b (Some []) v h = blank_small v h
small_over y a b (Some (p ∷ [])) v h = blank_small v h
small_over y a b (Some (p ∷ q ∷ [])) v h = small_joint y a b p q (may_join y (p ∷ q ∷ [])) v h
small_over y a b (Some (p ∷ q ∷ (x ∷ spans))) v h = blank_small v h

module _ (y : Shape) (book : List Named) (clients : List (List Asked)) where
  -- the graphs of lines are that of the first and those of the others
  record Split (join : Join) (rest : Result (List View) At → Type 0) (one : Result View ℕ) (views : List View) : Type 0 where
    view : View
    views_behind : List View
    is : views ≡ view ∷ views_behind
    first : one ≡ Ok view
    others : rest (Ok views_behind)

  split : (join : Join) (rest : Result (List View) At → Type 0) (one : Result View ℕ) (views : List View) → Follows y book clients join rest one (Ok views) → Split join rest one views
  split join rest (Err code) views h = absurd (cc h)
  split join rest (Ok view) [] h = absurd h
  split join rest (Ok view) (v ∷ vs) h = record { view = v; views_behind = vs; is = refl; first = ap (λ (x : View). Ok x) (sym h.0); others = h.1 }

  pub joined_count : (n : ℕ) (joins : List Join) (views : List View) → AreJoined y book clients n joins (Ok views) → length views ≡ length joins
  joined_count n [] views h = let same : views ≡ [] = cc h in ap (λ (vs : List View). length vs) same
  joined_count n (join ∷ joins) views h =
      let s = split join (AreJoined y book clients (n + 1) joins) h.0 views h.2 in
      let more = joined_count (n + 1) joins s.views_behind s.others in
      ap (λ (vs : List View). length vs) s.is ∙ ap suc more

  pub joined_small : (n : ℕ) (joins : List Join) (views : List View) → AreJoined y book clients n joins (Ok views) → All IsSmall views
  joined_small n [] views h = let same : views ≡ [] = cc h in subst (λ (vs : List View). All IsSmall vs) (sym same) (All-nil IsSmall)
  joined_small n (join ∷ joins) views h =
      let s = split join (AreJoined y book clients (n + 1) joins) h.0 views h.2 in
      let one = small_over y (graph_at book join.first) (graph_at book join.second) (spans_in n clients) s.view
      (subst (λ (r : Result View ℕ). IsOver y (graph_at book join.first) (graph_at book join.second) (spans_in n clients) r) s.first h.1) in
      subst (λ (vs : List View). All IsSmall vs) (sym s.is) (All-cons IsSmall s.view s.views_behind one (joined_small (n + 1) joins s.views_behind s.others))
