-- The stripes of an operation by their numbers: no other holds one exactly where they could be taken.
use Rattle.std.proofs.Common.{◌≡◌, ◌⊎◌, ◌↔◌, ℕ, zero, suc, ◌<◌, ◌≤◌, ◌+◌, Bool, true, false, List, [], ◌∷◌, take, length, get_or, sym, ◌∙◌, arith, inl, inr, refl}
use Rattle.std.specs.Prelude.{Contains}
use Rattle.std.specs.List.{range_with_len}
use Rattle.std.proofs.lemmas.List.{ext_get_or, get_or-take, length-take}
use Rattle.std.proofs.lemmas.List.FromFn.{length-range_with_len, get_or-range_with_len}
use Rattle.blk_plain.specs.declared.op.Op.{Op}
use Rattle.blk_plain.specs.declared.op.Op.TheVariants.{Write, Writes, Read, Rebuild, Sync}
use Rattle.blk_plain.specs.Plain.{spans_of}
use Rattle.stripe_lock.specs.Table.{Table, Conflict}
use Rattle.stripe_lock.specs.declared.mode.Mode.{Mode}
use Rattle.stripe_lock.specs.declared.mode.Mode.TheVariants.{Share, Exclude}
use Rattle.lay_core.specs.Layout.{Shape, IsLayout}
use Rattle.lay_core.proofs.Walked.{is-some-count, is-in-range}
use Rattle.eng_world.specs.Planning.{Concerns}
use Rattle.eng_plan.specs.Asked.{IsInside}
use Rattle.eng_plan.proofs.Maps.{not-past}
use Rattle.eng_plan.proofs.SpanStripes.{block-stripe, some-block}
use Rattle.eng_choice.specs.Free.{AreFreeOf}

-- the first of these numbers
pub listed : (f n : ℕ) (xs : List ℕ) → length xs ≡ 16 → n ≤ 16 → ((k : ℕ) → k < 16 → get_or xs k 0 ≡ f + k) → take n xs ≡ range_with_len f n
listed f n xs long few each =
    let a = length-range_with_len f n in
    let b = length-take n xs in
    ext_get_or 0 (take n xs) (range_with_len f n) (omega (arith, a, b, long, few)) (λ i lt.
    let below : i < n = omega (arith, b, lt) in
    get_or-take n xs i 0 below ∙ (each i (omega (arith, below, few)) ∙ sym (get_or-range_with_len f n i 0 below)))

-- where neither is alone, both share
both-share : (a b : Mode) → ((a ≡ Exclude) ⊎ (b ≡ Exclude) → ⊥) → (a ≡ Share) × (b ≡ Share)
both-share Share Share h = (refl, refl)
both-share Share Exclude h = absurd (h (inr refl))
both-share Exclude Share h = absurd (h (inl refl))
both-share Exclude Exclude h = absurd (h (inl refl))

-- the answer to whether the stripes of a list can be taken says whether those that are wanted are free
pub free-where : (locks : Table) (c : ℕ) (m : Mode) (numbers : List ℕ) (Wanted : ℕ → Type 0) → ((s : ℕ) → Contains numbers s ↔ Wanted s) → (b : Bool) → (b ≡ false) ↔ Conflict locks c numbers m → (b ≡ true) ↔ AreFreeOf locks c m Wanted
free-where locks c m numbers Wanted each b iff = (
  λ yes_ k s theirs ne wanted held. both-share m theirs (λ alone.
      let x : Conflict locks c numbers m = record { other = k; stripe = s; theirs = theirs; apart = ne; wanted = (each s).1 wanted; held = held; alone = alone } in
      let z : true ≡ false = sym yes_ ∙ iff.1 x in let u : ⊥ = cc in u),
  λ free. by b (λ no_.
      let x = iff.0 no_ in
      let both = free x.other x.stripe x.theirs x.apart ((each x.stripe).0 x.wanted) x.held in
      elim x.alone [
        | inl mine ↦ let z : Share ≡ Exclude = sym both.0 ∙ mine in let u : ⊥ = cc in u
        | inr theirs ↦ let z : Share ≡ Exclude = sym both.1 ∙ theirs in let u : ⊥ = cc in u
      ]),
)
  where
    by : (b : Bool) → (b ≡ false → ⊥) → b ≡ true
    by true h = refl
    by false h = absurd (h refl)

pub one-each : (stripe s : ℕ) → Contains (stripe ∷ []) s ↔ (s ≡ stripe)
one-each stripe s = (λ c. at c.0 c.1 c.2, λ e. (0, omega arith, sym e))
  where
    at : (k : ℕ) → k < length (stripe ∷ []) → get_or (stripe ∷ []) k s ≡ s → s ≡ stripe
    at zero l e = sym e
    at (suc k) l e = absurd (omega (arith, l))

module _ (y : Shape) (law : IsLayout y) where
  -- what an operation concerns is in range
  pub concerns-below : (op : Op) → IsInside y op → (s : ℕ) → Concerns y op s → s < y.stripes
  concerns-below (Write span pattern) inside s h = block-stripe y law span inside.asked inside.inside s h
  concerns-below (Writes patches) inside s h =
      let ss = spans_of patches in
      let b = some-block y ss s h in
      let r = is-in-range y ss b.0 b.1 inside.inside in
      block-stripe y law b.0 (is-some-count ss b.0 b.1 inside.asked.1) (λ past. let u : ⊥ = omega (arith, r, past) in u) s b.2
  concerns-below (Read span) inside s h = block-stripe y law span inside.asked inside.inside s h
  concerns-below (Rebuild stripe) inside s h = let below = not-past stripe y.stripes inside.inside in omega (arith, below, h)
  concerns-below (Sync stripe) inside s h = let below = not-past stripe y.stripes inside.inside in omega (arith, below, h)
