-- One thing alone comes of join lines.
use Rattle.std.proofs.Common.{◌≡◌, ◌∙◌, ℕ, zero, suc, ◌+◌, Bool, true, false, List, [], ◌∷◌, Result, Ok, Err, refl, sym, ap, subst}
use Rattle.std.specs.Prelude.{Option, Some, None}
use Rattle.blk_plain.specs.declared.op.Span.{Span}
use Rattle.lay_core.specs.Layout.{Shape}
use Rattle.lay_core.specs.Touched.{stripe_count}
use Rattle.graph_mean.specs.Graph.{View}
use Rattle.graph_merge.specs.declared.fault.MergeFault.{MergeFault}
use Rattle.graph_merge.specs.declared.fault.MergeFault.TheVariants.{Form, Large}
use Rattle.graph_merge.specs.Form.{IsCause, IsFirst, IsFormed, IsSecond}
use Rattle.graph_merge.specs.Joined.{IsJoined}
use Rattle.graph_merge.proofs.Unique.{unique}
use Rattle.graph_text.specs.Format.{Named}
use Rattle.text_steps.specs.declared.at.At.{At}
use Rattle.raid_script.specs.declared.join.Join.{Join}
use Rattle.raid_script.specs.Asked.{Asked}
use Rattle.top_join.specs.Joining.{AreJoined, Follows, IsOver, code_of}
use Rattle.top_join.specs.Steps.{IsInTurn, IsJoint, IsMerged, is_before, may_join, graph_at, spans_in}

-- ## Two graphs

is_first : (a b out : View) (shift : ℕ) → IsJoined a b shift out → IsFirst a shift
is_first a b out shift j =
    ((j.first.ends.commit, j.first.ends.end, subst (λ (g : View). IsFormed g j.first.ends.commit j.first.ends.end) j.of_first j.first_marked.formed), j.first_below)

is_second : (a b out : View) (shift : ℕ) → IsJoined a b shift out → IsSecond b shift
is_second a b out shift j =
    ((j.second.ends.commit, j.second.ends.end, subst (λ (g : View). IsFormed g j.second.ends.commit j.second.ends.end) j.of_second j.second_marked.formed), j.second_movable)

-- graphs that are joined have no cause of refusal
no_cause : (a b out : View) (shift : ℕ) (f : MergeFault) → IsJoined a b shift out → IsCause a b shift f → ⊥
no_cause a b out shift (Form zero) j h = h (is_first a b out shift j)
no_cause a b out shift (Form (suc zero)) j h = h.1 (is_second a b out shift j)
no_cause a b out shift (Form (suc (suc which))) j h = h
no_cause a b out shift Large j h = j.small h.2

-- two causes have one code
one_code : (a b : View) (shift : ℕ) (f g : MergeFault) → IsCause a b shift f → IsCause a b shift g → code_of f ≡ code_of g
one_code a b shift (Form m) (Form n) h k = refl
one_code a b shift Large Large h k = refl
one_code a b shift (Form zero) Large h k = absurd (h k.0)
one_code a b shift (Form (suc zero)) Large h k = absurd (h.1 k.1)
one_code a b shift (Form (suc (suc which))) Large h k = absurd h
one_code a b shift Large (Form zero) h k = absurd (k h.0)
one_code a b shift Large (Form (suc zero)) h k = absurd (k.1 h.1)
one_code a b shift Large (Form (suc (suc which))) h k = absurd k

one_merged : (a b : View) (shift : ℕ) (r s : Result View ℕ) → IsMerged a b shift r → IsMerged a b shift s → r ≡ s
one_merged a b shift (Ok out) (Ok other) h k = ap (λ (v : View). Ok v) (unique a b shift out other h k)
one_merged a b shift (Ok out) (Err code) h k = absurd (no_cause a b out shift k.0 h k.1)
one_merged a b shift (Err code) (Ok out) h k = absurd (no_cause a b out shift h.0 k h.1)
one_merged a b shift (Err c) (Err d) h k = ap (λ (n : ℕ). Err n) (h.2 ∙ (one_code a b shift h.0 k.0 h.1 k.1 ∙ sym k.2))

-- ## One line

one_in_turn : (y : Shape) (a b : View) (p : Span) (before : Bool) (r s : Result View ℕ) → IsInTurn y a b p before r → IsInTurn y a b p before s → r ≡ s
one_in_turn y a b p false r s h k = h ∙ sym k
one_in_turn y a b p true r s h k = one_merged a b (stripe_count y p) r s h k

one_joint : (y : Shape) (a b : View) (p q : Span) (may : Bool) (r s : Result View ℕ) → IsJoint y a b p q may r → IsJoint y a b p q may s → r ≡ s
one_joint y a b p q false r s h k = h ∙ sym k
one_joint y a b p q true r s h k = one_in_turn y a b p (is_before y p q) r s h k

one_over : (y : Shape) (a b : View) (spans : Option (List Span)) (r s : Result View ℕ) → IsOver y a b spans r → IsOver y a b spans s → r ≡ s
one_over y a b None r s h k = h ∙ sym k
one_over y a b (Some []) r s h k = h ∙ sym k
one_over y a b (Some (p ∷ [])) r s h k = h ∙ sym k
one_over y a b (Some (p ∷ q ∷ [])) r s h k = one_joint y a b p q (may_join y (p ∷ q ∷ [])) r s h k
one_over y a b (Some (p ∷ q ∷ (x ∷ spans))) r s h k = h ∙ sym k

-- ## All lines

module _ (y : Shape) (book : List Named) (clients : List (List Asked)) where
  one_behind : (join : Join) (rest : Result (List View) At → Type 0) (one : Result View ℕ) (r s : Result (List View) At)
      → ((u v : Result (List View) At) → rest u → rest v → u ≡ v)
      → Follows y book clients join rest one r → Follows y book clients join rest one s → r ≡ s
  one_behind join rest (Err code) r s same h k = h ∙ sym k
  one_behind join rest (Ok view) (Ok []) s same h k = absurd h
  one_behind join rest (Ok view) (Ok (v ∷ vs)) (Ok []) same h k = absurd k
  one_behind join rest (Ok view) (Ok (v ∷ vs)) (Ok (w ∷ ws)) same h k =
      let tails : ◌≡◌ {A = Result (List View) At} (Ok vs) (Ok ws) = same (Ok vs) (Ok ws) h.1 k.1 in
      both v w vs ws (h.0 ∙ sym k.0) tails
    where
      both : (v w : View) (vs ws : List View) → v ≡ w → ◌≡◌ {A = Result (List View) At} (Ok vs) (Ok ws) → ◌≡◌ {A = Result (List View) At} (Ok (v ∷ vs)) (Ok (w ∷ ws))
      both v w vs ws one two = cc (one, two)
  one_behind join rest (Ok view) (Ok (v ∷ vs)) (Err at) same h k = let no : ◌≡◌ {A = Result (List View) At} (Ok vs) (Err at) = same (Ok vs) (Err at) h.1 k in absurd (cc no)
  one_behind join rest (Ok view) (Err at) (Ok []) same h k = absurd k
  one_behind join rest (Ok view) (Err at) (Ok (w ∷ ws)) same h k = let no : ◌≡◌ {A = Result (List View) At} (Err at) (Ok ws) = same (Err at) (Ok ws) h k.1 in absurd (cc no)
  one_behind join rest (Ok view) (Err at) (Err bt) same h k = same (Err at) (Err bt) h k

  pub one_end : (n : ℕ) (joins : List Join) (r s : Result (List View) At) → AreJoined y book clients n joins r → AreJoined y book clients n joins s → r ≡ s
  one_end n [] r s h k = h ∙ sym k
  one_end n (join ∷ joins) r s h k =
      let same = one_over y (graph_at book join.first) (graph_at book join.second) (spans_in n clients) h.0 k.0 h.1 k.1 in
      one_behind join (AreJoined y book clients (n + 1) joins) h.0 r s (λ u v a b. one_end (n + 1) joins u v a b) h.2
      (subst (λ (x : Result View ℕ). Follows y book clients join (AreJoined y book clients (n + 1) joins) x s) (sym same) k.2)
