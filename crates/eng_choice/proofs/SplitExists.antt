-- Each operation in range that isn't too long has a map of its stripes and parts.
use Rattle.std.proofs.Common.{ℕ, zero, suc, ◌<◌, ◌≤◌, ◌+◌, ◌*◌, ◌/◌, List, [], ◌∷◌, ◌++◌, length, subst, sym, ap, arith, inl, inr, refl, Option, None, Some, length-append}
use Rattle.std.specs.Prelude.{Contains, All, min}
use Rattle.std.specs.List.{range_with_len}
use Rattle.std.proofs.lemmas.Bool.{cases_Bool, cases_lt, cond-true, cond-false}
use Rattle.std.proofs.lemmas.List.{append_assoc, append-nil}
use Rattle.blk_plain.specs.declared.op.Op.{Op}
use Rattle.blk_plain.specs.declared.op.Op.TheVariants.{Write, Writes, Read, Rebuild, Sync}
use Rattle.blk_plain.specs.declared.op.Span.{Span}
use Rattle.blk_plain.specs.Plain.{is_in_some, spans_of}
use Rattle.lay_core.specs.Layout.{Shape, IsLayout, blocks_in, stripe_of}
use Rattle.lay_core.specs.Touched.{Touched, IsJointSplit, PassesEndSome, nothing, stripe_count, stripes_among}
use Rattle.lay_core.specs.Joined.{IsNext, IsWalked, IsInSpan, added, began, ends_with, nearer}
use Rattle.lay_core.specs.Cut.{cut_of, first_unit, unit_count, parts_from}
use Rattle.lay_core.proofs.SpanSplit.{is_split}
use Rattle.lay_core.proofs.NextSpan.{next-more, spans-most}
use Rattle.lay_core.proofs.Walked.{Apart, Passed, begin-all, begin-span, end-span, end-walk, go-on, gone-on, is-in-range, is-over, is-some, is-some-count, is-stepped, is-within, none-passed, passed-next, spans-apart}
use Rattle.eng_plan.specs.Asked.{IsInside, IsOpSplit, whole}
use Rattle.eng_plan.proofs.Maps.{not-past, span-split, whole-inside, whole-one, whole-some}
use Rattle.eng_plan.proofs.SpanStripes.{fits, short-few}

-- one of some spans begins next, or none
some-next : (at : ℕ) (xs ys : List Span) (n : Option Span) → IsNext at xs n → (m : Option Span) × IsNext at (xs ++ ys) m
some-next at xs [] n is = (n, subst (λ (z : List Span). IsNext at z n) (sym (append-nil xs)) is)
some-next at xs (s ∷ ys) n is =
    let r = some-next at (xs ++ s ∷ []) ys (nearer at n s) (next-more at xs n s is) in
    (r.0, subst (λ (z : List Span). IsNext at z r.0) (append_assoc xs (s ∷ []) ys) r.1)

next-of : (at : ℕ) (ss : List Span) → (m : Option Span) × IsNext at ss m
next-of at ss = some-next at [] ss None (λ k d l. absurd (let u : ⊥ = omega (arith, l) in u))

module _ (y : Shape) (law : IsLayout y) (ss : List Span) (few : stripes_among y (is_in_some ss) ≤ 16) where
  abbrev edge : ℕ → ℕ
  edge low = (low / y.unit_sectors + 1) * y.unit_sectors

  -- ## Through a span

  module _ (span : Span) (own : Contains ss span) (inside : span.first + span.count ≤ blocks_in y) (n : ℕ) where
    abbrev end : ℕ
    end = span.first + span.count

    module _ (m : Touched) (low : ℕ) (w : IsInSpan y (is_in_some ss) m span.first end low n) (lt : low < end) where
      room : length (added y m low (min end (edge low))).stripes ≤ 16
      room = elim (cases_Bool (ends_with m.stripes (stripe_of y low))) [
        | inl e ↦ let c = ap length (cond-true (ends_with m.stripes (stripe_of y low)) m.stripes (m.stripes ++ stripe_of y low ∷ []) e) in let f = w.few in omega (arith, c, f)
        | inr e ↦
            let c = ap length (cond-false (ends_with m.stripes (stripe_of y low)) m.stripes (m.stripes ++ stripe_of y low ∷ []) e) in
            let l = length-append m.stripes (stripe_of y low ∷ []) in
            let f = w.few in
            elim (cases_lt (length m.stripes) 16) [
              | inl less ↦ omega (arith, c, l, less)
              | inr full ↦
                  let over = is-over y law ss span own inside n y.unit_sectors end low (min end (edge low)) m refl refl w lt refl (omega (arith, f, full)) e in
                  absurd (let u : ⊥ = omega (arith, over, few) in u)
            ]
      ]

      next : IsInSpan y (is_in_some ss) (added y m low (min end (edge low))) span.first end (min end (edge low)) n
      next = is-stepped y law ss span own inside n y.unit_sectors end low (min end (edge low)) m refl refl w lt refl (added y m low (min end (edge low))) refl room

      up : low < min end (edge low)
      up = is-some y law ss span own inside n y.unit_sectors end low (min end (edge low)) m refl refl w lt refl

      within : min end (edge low) ≤ end
      within = is-within y law ss span own inside n y.unit_sectors end low (min end (edge low)) m refl refl w lt refl

    through : (fuel : ℕ) (m : Touched) (low : ℕ) → end ≤ low + fuel → 1 ≤ span.count → IsInSpan y (is_in_some ss) m span.first end low n → (t : Touched) × IsWalked y (is_in_some ss) t end (n + 1)
    through zero m low more some w = (m, end-span y (is_in_some ss) m span.first end low n (omega (arith, some)) (omega (arith, more)) w)
    through (suc fuel) m low more some w = elim (cases_lt low end) [
      | inl lt ↦ let u = up m low w lt in through fuel (added y m low (min end (edge low))) (min end (edge low)) (omega (arith, u, more)) some (next m low w lt)
      | inr ends ↦ (m, end-span y (is_in_some ss) m span.first end low n (omega (arith, some)) ends w)
    ]

  -- ## From span to span

  module _ (eight : length ss ≤ 8) (all : All (λ s. 1 ≤ s.count) ss) (fit : PassesEndSome y ss → ⊥) (apart : Apart ss) where
    -- what is to be found from a block on
    Rest : ℕ → Type 0
    Rest fuel = (m : Touched) (at : ℕ) → blocks_in y < at + fuel → at ≤ blocks_in y → Passed ss at → IsWalked y (is_in_some ss) m at (began ss at) → (t : Touched) × IsJointSplit y ss t

    step : (fuel : ℕ) → Rest fuel → (m : Touched) (at : ℕ) → blocks_in y < at + suc fuel → Passed ss at → IsWalked y (is_in_some ss) m at (began ss at) → (n : Option Span) → IsNext at ss n → (t : Touched) × IsJointSplit y ss t
    unfolding Rest
    step fuel rest m at more passed w None none = (m, end-walk y law ss m at eight passed none w)
    step fuel rest m at more passed w (Some s) is =
        let some = is-some-count ss s is.0 all in
        let h = is-in-range y ss s is.0 fit in
        let l = is.1 in
        let v = go-on y ss m at s passed is w in
        let t = through s is.0 h (began ss s.first) s.count m s.first (omega arith) some (begin-span y (is_in_some ss) m s.first (s.first + s.count) (began ss s.first) (omega arith) v) in
        rest t.0 (s.first + s.count) (omega (arith, more, l, some)) h (passed-next ss at s apart (λ k d z. all k d z) passed is) (gone-on y ss t.0 at s some is t.1)

    walk : (fuel : ℕ) → Rest fuel
    unfolding Rest
    walk zero m at more inside passed w = absurd (let u : ⊥ = omega (arith, more, inside) in u)
    walk (suc fuel) m at more inside passed w = let n = next-of at ss in step fuel (walk fuel) m at more passed w n.0 n.1

    pub joint-exists : (t : Touched) × IsJointSplit y ss t
    unfolding Rest
    joint-exists = walk (blocks_in y + 1) nothing 0 (omega arith) (omega arith) (none-passed ss) (begin-all y ss nothing refl)

module _ (y : Shape) (law : IsLayout y) where
  abbrev of-span : Span → Touched
  of-span span = record {
    stripes = range_with_len (stripe_of y span.first) (stripe_count y span);
    parts = parts_from (cut_of y span) (first_unit (cut_of y span)) (unit_count (cut_of y span));
  }

  pub split-exists : (op : Op) → IsInside y op → (m : Touched) × IsOpSplit y op m
  split-exists (Write span pattern) is =
      let few = short-few (stripe_count y span) is.short in
      let s = span-split y law span (of-span span) few (is_split y law span is.asked (fits y law span is.asked is.inside) few) in
      (of-span span, record { split = s.0; stripes_few = s.1; parts_few = s.2 })
  split-exists (Writes patches) is =
      let ss = spans_of patches in
      let n = spans-most patches in
      let few = is.asked.0.few in
      let j = joint-exists y law ss (short-few (stripes_among y (is_in_some ss)) is.short) (omega (arith, n, few)) is.asked.1 is.inside (spans-apart patches is.asked.0) in
      (j.0, record { split = j.1.split; stripes_few = j.1.stripes_few; parts_few = j.1.parts_few })
  split-exists (Read span) is =
      let few = short-few (stripe_count y span) is.short in
      let s = span-split y law span (of-span span) few (is_split y law span is.asked (fits y law span is.asked is.inside) few) in
      (of-span span, record { split = s.0; stripes_few = s.1; parts_few = s.2 })
  split-exists (Rebuild stripe) is =
      let below = not-past stripe y.stripes is.inside in
      let span = whole y stripe in
      let one = whole-one y law stripe below in
      let some = whole-some y law stripe below in
      let few : stripe_count y (whole y stripe) ≤ 16 = omega (arith, one) in
      let s = span-split y law span (of-span span) few (is_split y law span some (fits y law span some (whole-inside y law stripe below)) few) in
      (of-span span, record { split = s.0; stripes_few = s.1; parts_few = s.2 })
  split-exists (Sync stripe) is =
      let below = not-past stripe y.stripes is.inside in
      let span = whole y stripe in
      let one = whole-one y law stripe below in
      let some = whole-some y law stripe below in
      let few : stripe_count y (whole y stripe) ≤ 16 = omega (arith, one) in
      let s = span-split y law span (of-span span) few (is_split y law span some (fits y law span some (whole-inside y law stripe below)) few) in
      (of-span span, record { split = s.0; stripes_few = s.1; parts_few = s.2 })
