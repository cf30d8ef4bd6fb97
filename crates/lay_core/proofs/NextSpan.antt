-- The search for the span that begins next.
use Rattle.std.specs.Prelude.{◌≡◌, ◌<◌, ◌≤◌, ◌+◌, ℕ, zero, suc, List, [], ◌∷◌, ◌++◌, length, take, nat_lt, nat_le, Option, Some, None, All}
use Rattle.std.proofs.Common.{arith, ap, sym, subst, ◌∙◌, inl, inr, get_or}
use Rattle.std.proofs.Math.Seq.{take-suc}
use Rattle.std.proofs.lemmas.Bool.{cases_Bool, cond-true, cond-false, ltb-true, ltb-false, leb-true, leb-false}
use Rattle.std.proofs.lemmas.List.{get_or-map, length-map, length-take, take_all}
use Rattle.std.proofs.lemmas.List.Elements.{All-append, Contains-push, Contains-append_left}
use Rattle.blk_plain.specs.declared.op.Span.{Span}
use Rattle.blk_plain.specs.declared.op.Patch.{Patch}
use Rattle.blk_plain.specs.declared.op.Patches.{Patches}
use Rattle.blk_plain.specs.Plain.{used_of, spans_of}
use Rattle.blk_plain.specs.Laws.{length-used, used-at}
use Rattle.lay_core.specs.Joined.{nearer, nearer_of, IsNext}

pub one : (P : Span → Type 0) (s : Span) → P s → All P (s ∷ [])
one P s h zero d l = h
one P s h (suc k) d l = absurd (omega (arith, l))

-- a span more is looked at
pub next-more : (at : ℕ) (xs : List Span) (n : Option Span) (s : Span) → IsNext at xs n → IsNext at (xs ++ s ∷ []) (nearer at n s)
next-more at xs n s h = elim (cases_Bool (nat_lt s.first at)) [
  | inl e ↦ subst (IsNext at (xs ++ s ∷ [])) (sym (cond-true (nat_lt s.first at) _ _ e)) (far n h (ltb-true s.first at e))
  | inr e ↦ subst (IsNext at (xs ++ s ∷ [])) (sym (cond-false (nat_lt s.first at) _ _ e)) (close n h (ltb-false s.first at e))
]
  where
    far : (n : Option Span) → IsNext at xs n → s.first < at → IsNext at (xs ++ s ∷ []) n
    far None h l = All-append (λ t. t.first < at) xs (s ∷ []) h (one (λ t. t.first < at) s l)
    far (Some m) h l = (Contains-append_left xs (s ∷ []) m h.0, h.1, All-append (λ t. at ≤ t.first → m.first ≤ t.first) xs (s ∷ []) h.2 (one (λ t. at ≤ t.first → m.first ≤ t.first) s (λ q. absurd (let u : ⊥ = omega (arith, q, l) in u))))

    close : (n : Option Span) → IsNext at xs n → at ≤ s.first → IsNext at (xs ++ s ∷ []) (nearer_of n s)
    close None h l = (Contains-push xs s, l, All-append (λ t. at ≤ t.first → s.first ≤ t.first) xs (s ∷ []) (λ k d w q. absurd (let z = h k d w in let u : ⊥ = omega (arith, z, q) in u)) (one (λ t. at ≤ t.first → s.first ≤ t.first) s (λ q. omega arith)))
    close (Some m) h l = elim (cases_Bool (nat_le m.first s.first)) [
      | inl e ↦ subst (IsNext at (xs ++ s ∷ [])) (sym (cond-true (nat_le m.first s.first) (Some m) (Some s) e))
          (Contains-append_left xs (s ∷ []) m h.0, h.1, All-append (λ t. at ≤ t.first → m.first ≤ t.first) xs (s ∷ []) h.2 (one (λ t. at ≤ t.first → m.first ≤ t.first) s (λ q. leb-true m.first s.first e)))
      | inr e ↦ subst (IsNext at (xs ++ s ∷ [])) (sym (cond-false (nat_le m.first s.first) (Some m) (Some s) e))
          (Contains-push xs s, l, All-append (λ t. at ≤ t.first → s.first ≤ t.first) xs (s ∷ []) (λ k d w q. let z = h.2 k d w q in let v = leb-false m.first s.first e in omega (arith, z, v)) (one (λ t. at ≤ t.first → s.first ≤ t.first) s (λ q. omega arith)))
    ]

module _ (patches : Patches) (long : length patches.list ≡ 8) (few : patches.used ≤ 8) where
  pub spans-long : length (spans_of patches) ≡ patches.used
  spans-long = length-map (used_of patches) (λ p. p.span) ∙ length-used patches long few

  pub span-at : (i : ℕ) (d : Patch) (e : Span) → i < patches.used → get_or (spans_of patches) i e ≡ (get_or patches.list i d).span
  span-at i d e h =
      let n = length-used patches long few in
      get_or-map (λ p. p.span) (used_of patches) i d e (omega (arith, h, n)) ∙ ap (λ (p : Patch). p.span) (used-at patches i d h)

  pub spans-more : (i : ℕ) (d : Patch) → i < patches.used → take (i + 1) (spans_of patches) ≡ take i (spans_of patches) ++ (get_or patches.list i d).span ∷ []
  spans-more i d h =
      let n = spans-long in
      ap (λ k. take k (spans_of patches)) (let z : i + 1 ≡ suc i = omega arith in z) ∙ (take-suc (spans_of patches) i d.span (omega (arith, h, n)) ∙ ap (λ s. take i (spans_of patches) ++ s ∷ []) (span-at i d d.span h))

-- the spans are no more than are in use
pub spans-most : (patches : Patches) → length (spans_of patches) ≤ patches.used
spans-most patches = let a = length-map (used_of patches) (λ p. p.span) in let b = length-take patches.used patches.list in omega (arith, a, b)

pub spans-all : (patches : Patches) (i : ℕ) → patches.used ≤ i → take i (spans_of patches) ≡ spans_of patches
spans-all patches i h = let n = spans-most patches in take_all i (spans_of patches) (omega (arith, n, h))
