-- The spans of one write, each by itself: it is in range, and has no more stripes than all of them.
use Rattle.std.proofs.Common.{◌≡◌, ℕ, ◌<◌, ◌≤◌, ◌+◌, length, get_or, subst, sym, arith, inl, inr}
use Rattle.std.specs.Prelude.{Contains}
use Rattle.std.proofs.lemmas.Bool.{cases_lt}
use Rattle.blk_plain.specs.declared.op.Op.TheVariants.{Writes}
use Rattle.blk_plain.specs.declared.op.Patch.{Patch}
use Rattle.blk_plain.specs.declared.op.Patches.{Patches}
use Rattle.blk_plain.specs.declared.op.Span.{Span}
use Rattle.blk_plain.specs.Plain.{is_in, is_in_some, spans_of}
use Rattle.stripe_lock.specs.Table.{Table}
use Rattle.stripe_lock.specs.declared.mode.Mode.{Mode}
use Rattle.lay_core.specs.Layout.{Shape, IsLayout, blocks_in}
use Rattle.lay_core.specs.Touched.{HasBlock, PassesEnd, stripe_count}
use Rattle.lay_core.proofs.NextSpan.{span-at, spans-long, spans-most}
use Rattle.lay_core.proofs.Walked.{is-some-count, is-in-range}
use Rattle.eng_plan.specs.Asked.{IsInside}
use Rattle.eng_choice.specs.Free.{AreFreeOf}
use Rattle.eng_plan.proofs.SpanStripes.{own-block, some-block, span-few}

module _ (y : Shape) (law : IsLayout y) (patches : Patches) (long : length patches.list ≡ 8) (inside : IsInside y (Writes patches)) (i : ℕ) (d : Patch) (lt : i < patches.used) where
  abbrev span : Span
  span = (get_or patches.list i d).span

  at-place : (e : Span) → get_or (spans_of patches) i e ≡ span
  at-place e = span-at patches long inside.asked.0.few i d e lt

  own : Contains (spans_of patches) span
  own = (i, (let n = spans-long patches long inside.asked.0.few in omega (arith, n, lt)), at-place span)

  pub has-blocks : 1 ≤ span.count
  has-blocks = is-some-count (spans_of patches) span own inside.asked.1

  in-range : span.first + span.count ≤ blocks_in y
  in-range = is-in-range y (spans_of patches) span own inside.inside

  pub within : PassesEnd y span → ⊥
  within past = let r = in-range in let u : ⊥ = omega (arith, r, past) in u

  pub few : stripe_count y span ≤ 16
  few = let n = span-few y law (spans_of patches) span own has-blocks in-range in elim (cases_lt 16 (stripe_count y span)) [
    | inl over ↦ absurd (inside.short (omega (arith, n, over)))
    | inr le ↦ le
  ]

  -- where all are free, it is
  pub one-free : (locks : Table) (c : ℕ) (mode : Mode) → AreFreeOf locks c mode (HasBlock y (is_in_some (spans_of patches))) → AreFreeOf locks c mode (HasBlock y (is_in span))
  one-free locks c mode free k s m ne wanted held = free k s m ne (own-block y law (spans_of patches) span own s wanted) held

  -- those so far, and this one
  pub free-more : (P : Span → Type 0) → ((k : ℕ) (e : Span) → k < i → P (get_or (spans_of patches) k e)) → P span → (k : ℕ) (e : Span) → k < i + 1 → P (get_or (spans_of patches) k e)
  free-more P so_far here k e l = elim (cases_lt k i) [
    | inl less ↦ so_far k e less
    | inr last ↦ let same : i ≡ k = omega (arith, last, l) in subst (λ (n : ℕ). P (get_or (spans_of patches) n e)) same (subst P (sym (at-place e)) here)
  ]

-- where each is free, all are
pub all-free : (y : Shape) (patches : Patches) (locks : Table) (c : ℕ) (mode : Mode) (i : ℕ) → patches.used ≤ i
    → ((k : ℕ) (e : Span) → k < i → AreFreeOf locks c mode (HasBlock y (is_in (get_or (spans_of patches) k e)))) → AreFreeOf locks c mode (HasBlock y (is_in_some (spans_of patches)))
all-free y patches locks c mode i all each k s m ne wanted held =
    let b = some-block y (spans_of patches) s wanted in
    let n = spans-most patches in
    let l = b.1.1 in
    subst (λ (z : Span). AreFreeOf locks c mode (HasBlock y (is_in z))) b.1.2 (each b.1.0 b.0 (omega (arith, l, n, all))) k s m ne b.2 held
