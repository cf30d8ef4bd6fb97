-- The spans that two graphs are joined over.
use Rattle.std.proofs.Common.{◌≡◌, Bool, true, List, [], ◌∷◌, Ok, get_or, length, map, refl, sym, ap, subst, arith}
use Rattle.std.specs.Prelude.{ℕ, Result, Some}
use Rattle.blk_plain.specs.declared.op.Patch.{Patch}
use Rattle.blk_plain.specs.declared.op.Span.{Span}
use Rattle.lay_core.specs.Layout.{Shape}
use Rattle.lay_core.specs.Touched.{stripe_count}
use Rattle.graph_mean.specs.Graph.{View, blank}
use Rattle.top_join.specs.Joining.{IsOver}
use Rattle.top_join.specs.Steps.{IsInTurn, IsJoint, IsMerged, is_before, may_join}

-- two of them
pub two : (ps : List Patch) (c d : Patch) → length ps ≡ 2 → map (λ (p : Patch). p.span) ps ≡ (get_or ps 0 c).span ∷ (get_or ps 1 d).span ∷ []
two [] c d l = absurd (let u : ⊥ = omega (arith, l) in u)
two (p ∷ []) c d l = absurd (let u : ⊥ = omega (arith, l) in u)
two (p ∷ q ∷ []) c d l = refl
two (p ∷ q ∷ (r ∷ ps)) c d l = absurd (let u : ⊥ = omega (arith, l) in u)

-- or another number of them
pub other : (y : Shape) (a b v : View) (ps : List Patch) → (length ps ≡ 2 → ⊥) → v ≡ blank → IsOver y a b (Some (map (λ (p : Patch). p.span) ps)) (Ok v)
other y a b v [] none is = ap (λ (x : View). Ok x) is
other y a b v (p ∷ []) none is = ap (λ (x : View). Ok x) is
other y a b v (p ∷ q ∷ []) none is = absurd (none refl)
other y a b v (p ∷ q ∷ (r ∷ ps)) none is = ap (λ (x : View). Ok x) is

-- two that may be joined over, the one before the other
pub merged : (y : Shape) (a b : View) (p q : Span) (spans : List Span) (r : Result View ℕ) → spans ≡ p ∷ q ∷ [] → may_join y spans ≡ true → is_before y p q ≡ true → IsMerged a b (stripe_count y p) r → IsOver y a b (Some spans) r
merged y a b p q spans r is may before m =
    let both : may_join y (p ∷ q ∷ []) ≡ true = subst (λ (s : List Span). may_join y s ≡ true) is may in
    let inner : IsInTurn y a b p (is_before y p q) r = subst (λ (x : Bool). IsInTurn y a b p x r) (sym before) m in
    let whole : IsJoint y a b p q (may_join y (p ∷ q ∷ [])) r = subst (λ (x : Bool). IsJoint y a b p q x r) (sym both) inner in
    subst (λ (s : List Span). IsOver y a b (Some s) r) (sym is) whole
