-- A walk over some spans, from block to block.
use Rattle.std.specs.Prelude.{◌≡◌, ◌<◌, ◌≤◌, ◌+◌, ◌-◌, ◌*◌, ◌/◌, ◌%◌, ◌&&◌, ◌==◌, ℕ, zero, suc, Bool, true, false, List, [], ◌∷◌, ◌++◌, length, map, min, take, nat_lt, nat_le, Some, None, All, AllPairs, Contains}
use Rattle.std.proofs.Common.{arith, refl, ap, sym, subst, ◌∙◌, inl, inr, get_or, length-append}
use Rattle.std.proofs.Math.Nat.{mul-le-mul_right, suc-mul, lt-div-mul-add}
use Rattle.std.proofs.lemmas.Nat.{mod-mul-add, div-add-mod'}
use Rattle.std.proofs.lemmas.Bool.{cases_Bool, cases_lt, cond-true, cond-false, and_parts, and_from, ltb-true, ltb-false, leb-true, eqb-true, lt-ltb, le-leb}
use Rattle.std.proofs.lemmas.List.{get_or_push, get_or_default, get_or-map, length-map}
use Rattle.std.proofs.lemmas.List.Folds.{list_any_at, Any-from_list_any}
use Rattle.blk_plain.specs.declared.op.Span.{Span}
use Rattle.blk_plain.specs.declared.op.Patch.{Patch}
use Rattle.blk_plain.specs.declared.op.Patches.{Patches}
use Rattle.blk_plain.specs.Plain.{is_in, is_in_some, used_of, spans_of, AreApart, AreSound}
use Rattle.lay_core.specs.declared.place.Part.{Part}
use Rattle.lay_core.specs.Layout.{Shape, IsLayout, data_units, blocks_in, block_of, stripe_of, unit_of, offset_of}
use Rattle.lay_core.specs.Touched.{Touched, IsPart, IsSplit, IsJointSplit, PassesEndSome, stripes_among, nothing}
use Rattle.lay_core.specs.Joined.{before, ends_with, with_stripe, last_meets, longer, with_part, part_of, added, no_part, reach, IsWalked, IsInSpan, began, IsNext}
use Rattle.lay_core.proofs.Numbering.{blocks_in-most, block_of-home, stripe_of-below, unit_of-below, offset_of-below}
use Rattle.lay_core.proofs.Putting.{Near}
use Rattle.lay_core.proofs.Joining.{near, put, has-block, within, added-split, added-few}
use Rattle.lay_core.proofs.Counting.{among-least, split-count}

-- tests that say the same of each block have the same split
pub split-same : (y : Shape) (t u : ℕ → Bool) (m : Touched) → ((b : ℕ) → t b ≡ u b) → IsSplit y t m → IsSplit y u m
split-same y t u m e s = record {
  stripes_ascend = s.stripes_ascend;
  stripes_within = s.stripes_within;
  stripes_touched = λ z h. (
    λ c. let b = (s.stripes_touched z h).0 c in (b.0, b.1, b.2, b.3, sym (e (block_of y z b.0 b.1)) ∙ b.4),
    λ b. (s.stripes_touched z h).1 (b.0, b.1, b.2, b.3, e (block_of y z b.0 b.1) ∙ b.4),
  );
  parts_ascend = s.parts_ascend;
  parts_within = s.parts_within;
  parts_touched = λ p i o hp hi ho. s.parts_touched p i o hp hi ho ∙ e _;
}

-- ## The last part

-- it is of the stripe and unit of the one that was put
last-put-at : (y : Shape) (xs : List Part) (p : Part) → (p.stripe ≡ p.stripe) → reach y (with_part xs p) ≡ p.stripe * data_units y + p.unit
last-put-at y xs p _ = elim (cases_Bool (last_meets xs p)) [
  | inl m ↦
      let one = and_parts (nat_lt 0 (length xs)) _ m in
      let two = and_parts ((get_or xs (length xs - 1) p).stripe == p.stripe) _ one.1 in
      let three = and_parts ((get_or xs (length xs - 1) p).unit == p.unit) _ two.1 in
      let z = longer (get_or xs (length xs - 1) p) p.count in
      ap (reach y) (cond-true (last_meets xs p) _ _ m) ∙ (ends (take (length xs - 1) xs) z
      ∙ (ap (λ n. n * data_units y + z.unit) (same z.stripe p.stripe two.0) ∙ ap (λ n. p.stripe * data_units y + n) (same z.unit p.unit three.0)))
  | inr m ↦ ap (reach y) (cond-false (last_meets xs p) _ _ m) ∙ ends xs p
]
  where
    same : (a b : ℕ) → (a == b) ≡ true → a ≡ b
    same a b h = eqb-true a b h

    ends : (f : List Part) (z : Part) → reach y (f ++ z ∷ []) ≡ z.stripe * data_units y + z.unit
    ends f z =
        let n : length (f ++ z ∷ []) - 1 ≡ length f = let l = length-append f (z ∷ []) in omega (arith, l) in
        ap (λ (a : Part). a.stripe * data_units y + a.unit) (ap (λ k. get_or (f ++ z ∷ []) k no_part) n ∙ get_or_push f z no_part (length f) refl)

module _ (y : Shape) (law : IsLayout y) where
  -- no part reaches past 16 stripes
  reach-most : (xs : List Part) (n : ℕ) → n ≤ 16 → All (IsPart y n) xs → 0 < length xs → reach y xs ≤ 511
  reach-most xs n few all some =
      let w = all (length xs - 1) no_part (omega (arith, some)) in
      let d : data_units y ≤ 32 = let a = law.width_most in let b = law.columns_most in omega (arith, a, b) in
      let s = w.stripe in
      let u = w.unit in
      let m = mul-le-mul_right (data_units y) (let z : suc (get_or xs (length xs - 1) no_part).stripe ≤ 16 = omega (arith, s, few) in z) in
      let e = suc-mul (get_or xs (length xs - 1) no_part).stripe (data_units y) in
      omega (arith, m, e, u, d)

-- ## One step

module _ (y : Shape) (law : IsLayout y) (test : ℕ → Bool) (m : Touched) (first end low high spans : ℕ) (w : IsInSpan y test m first end low spans)
    (some : low < high) (le : high ≤ end) (one : offset_of y low + (high - low) ≤ y.unit_sectors) (fits : end ≤ blocks_in y) (all : (b : ℕ) → first ≤ b → b < end → test b ≡ true) where
  here : (b : ℕ) → low ≤ b → b < high → test b ≡ true
  here b l h = let f = w.least in all b (omega (arith, f, l)) (omega (arith, h, le))

  inside : high ≤ blocks_in y
  inside = omega (arith, le, fits)

  -- the part before is of no later unit
  near-reach : (a : Part) (p i f : ℕ) → Near p i f a → a.unit < data_units y → 0 < a.count → (a.stripe * data_units y + a.unit ≤ p * data_units y + i) × (f ≡ 0 → a.stripe * data_units y + a.unit < p * data_units y + i)
  near-reach a p i f (inl l) u c =
      let m = mul-le-mul_right (data_units y) (let z : suc a.stripe ≤ p = omega (arith, l) in z) in
      let e = suc-mul a.stripe (data_units y) in
      (omega (arith, m, e, u), λ z. omega (arith, m, e, u))
  near-reach a p i f (inr (s, inl l)) u c = let e = ap (λ n. n * data_units y) s in (omega (arith, e, l), λ z. omega (arith, e, l))
  near-reach a p i f (inr (s, inr l)) u c = let e = ap (λ n. n * data_units y) s in let l0 = l.0 in let l1 = l.1 in (omega (arith, e, l0), λ z. absurd (let v : ⊥ = omega (arith, l1, z, c) in v))

  new : Part
  new = part_of y (length (with_stripe m.stripes (stripe_of y low)) - 1) low high

  new-reach : reach y (added y m low high).parts ≡ (length (with_stripe m.stripes (stripe_of y low)) - 1) * data_units y + unit_of y low
  new-reach = last-put-at y m.parts (part_of y (length (with_stripe m.stripes (stripe_of y low)) - 1) low high) refl

  old-reach : 0 < length m.parts → (reach y m.parts ≤ (length (with_stripe m.stripes (stripe_of y low)) - 1) * data_units y + unit_of y low) × (offset_of y low ≡ 0 → reach y m.parts < (length (with_stripe m.stripes (stripe_of y low)) - 1) * data_units y + unit_of y low)
  old-reach h =
      let k : length m.parts - 1 < length m.parts = omega (arith, h) in
      let a = w.split.parts_within (length m.parts - 1) no_part k in
      near-reach (get_or m.parts (length m.parts - 1) no_part) (length (with_stripe m.stripes (stripe_of y low)) - 1) (unit_of y low) (offset_of y low) (near y law test m low high w.split some one inside here (length m.parts - 1) no_part k) a.unit a.some

  pub room : spans ≤ 7 → length m.parts < 520
  room seven = elim (cases_lt 0 (length m.parts)) [
    | inl h ↦
        let r = reach-most y law m.parts (length m.stripes) w.few w.split.parts_within h in
        let f = w.least in
        elim (cases_lt first low) [
          | inl l ↦ let p = (w.some l).0 in omega (arith, p, r, seven)
          | inr l ↦ let p = w.none (omega (arith, l, f)) in omega (arith, p, r, seven)
        ]
    | inr h ↦ omega (arith, h)
  ]

  -- the count of parts goes up by one at most, and so does the unit
  parts-few : length (added y m low high).parts ≤ reach y (added y m low high).parts + (spans + 1)
  parts-few =
      let n = new-reach in
      let more = added-few y law test m low high w.split some one inside here in
      elim (cases_lt 0 (length m.parts)) [
        | inl h ↦
            let o = old-reach h in
            let o0 = o.0 in
            let f = w.least in
            elim (cases_lt first low) [
              | inl l ↦ let p = (w.some l).0 in let z = o.1 (w.next l (omega (arith, some, le))) in omega (arith, p, z, n, more)
              | inr l ↦ let p = w.none (omega (arith, l, f)) in omega (arith, p, o0, n, more)
            ]
        | inr h ↦ omega (arith, h, more)
      ]

  pub stepped : length (added y m low high).stripes ≤ 16 → 0 < length (added y m low high).parts → (high < end → offset_of y high ≡ 0) → IsInSpan y test (added y m low high) first end high spans
  stepped few parts next = record {
    split = added-split y law test m low high w.split some one inside here;
    few = few;
    least = let f = w.least in omega (arith, f, some);
    most = le;
    none = λ e. absurd (let f = w.least in let u : ⊥ = omega (arith, e, f, some) in u);
    some = λ l. (parts-few, parts);
    next = λ l h. next h;
  }

  -- where a 17th stripe would be needed, the blocks of the test are of more than 16
  pub over : length m.stripes ≡ 16 → ends_with m.stripes (stripe_of y low) ≡ false → 16 < stripes_among y test
  over full other =
      let xs = with_stripe m.stripes (stripe_of y low) in
      let p = put y law test m low high w.split some one inside here in
      let long : length xs ≡ 17 = ap length (cond-false (ends_with m.stripes (stripe_of y low)) _ _ other) ∙ (let l = length-append m.stripes (stripe_of y low ∷ []) in omega (arith, l, full)) in
      let least = among-least y test xs p.ascend (λ k h. within y law test m low high w.split some one inside here k h) (λ k h.
      let b = has-block y law test m low high w.split some one inside here (get_or xs k 0) (within y law test m low high w.split some one inside here k h) (k, h, get_or_default xs k (get_or xs k 0) 0 h) in
      (b.0, b.1, b.2, b.3, (and_parts (test (block_of y (get_or xs k 0) b.0 b.1)) (nat_lt (block_of y (get_or xs k 0) b.0 b.1) high) b.4).0)) in
      omega (arith, least, long)

-- ## From span to span

began-most : (ss : List Span) (at : ℕ) → began ss at ≤ length ss
unfolding began
began-most [] at = omega arith
began-most (s ∷ ss) at = elim (cases_Bool (nat_lt s.first at)) [
  | inl e ↦ let c = cond-true (nat_lt s.first at) (suc (began ss at)) (began ss at) e in let m = began-most ss at in omega (arith, c, m)
  | inr e ↦ let c = cond-false (nat_lt s.first at) (suc (began ss at)) (began ss at) e in let m = began-most ss at in omega (arith, c, m)
]

-- more spans begin before a later block
pub began-up : (ss : List Span) (a b : ℕ) → a ≤ b → began ss a ≤ began ss b
unfolding began
began-up [] a b l = omega arith
began-up (s ∷ ss) a b l =
    let m = began-up ss a b l in
    elim (cases_Bool (nat_lt s.first a)) [
      | inl e ↦
          let x = ltb-true s.first a e in
          let c = cond-true (nat_lt s.first a) (suc (began ss a)) (began ss a) e in
          let d = cond-true (nat_lt s.first b) (suc (began ss b)) (began ss b) (lt-ltb s.first b (omega (arith, x, l))) in
          omega (arith, c, d, m)
      | inr e ↦
          let c = cond-false (nat_lt s.first a) (suc (began ss a)) (began ss a) e in
          elim (cases_Bool (nat_lt s.first b)) [
            | inl f ↦ let d = cond-true (nat_lt s.first b) (suc (began ss b)) (began ss b) f in omega (arith, c, d, m)
            | inr f ↦ let d = cond-false (nat_lt s.first b) (suc (began ss b)) (began ss b) f in omega (arith, c, d, m)
          ]
    ]

-- and one more, where one begins between the two
pub began-more : (ss : List Span) (a b k : ℕ) (x : Span) → a ≤ b → k < length ss → a ≤ (get_or ss k x).first → (get_or ss k x).first < b → began ss a + 1 ≤ began ss b
unfolding began
began-more [] a b k x l h low high = absurd (omega (arith, h))
began-more (s ∷ ss) a b zero x l h low high =
    let m = began-up ss a b l in
    let c = cond-false (nat_lt s.first a) (suc (began ss a)) (began ss a) (not-lt s.first a low) in
    let d = cond-true (nat_lt s.first b) (suc (began ss b)) (began ss b) (lt-ltb s.first b high) in
    omega (arith, c, d, m)
  where
    not-lt : (p q : ℕ) → q ≤ p → nat_lt p q ≡ false
    not-lt p q h = elim (cases_Bool (nat_lt p q)) [ inl e ↦ absurd (let z = ltb-true p q e in let u : ⊥ = omega (arith, z, h) in u) | inr e ↦ e ]
began-more (s ∷ ss) a b (suc k) x l h low high =
    let m = began-more ss a b k x l (omega (arith, h)) low high in
    elim (cases_Bool (nat_lt s.first a)) [
      | inl e ↦
          let y = ltb-true s.first a e in
          let c = cond-true (nat_lt s.first a) (suc (began ss a)) (began ss a) e in
          let d = cond-true (nat_lt s.first b) (suc (began ss b)) (began ss b) (lt-ltb s.first b (omega (arith, y, l))) in
          omega (arith, c, d, m)
      | inr e ↦
          let c = cond-false (nat_lt s.first a) (suc (began ss a)) (began ss a) e in
          elim (cases_Bool (nat_lt s.first b)) [
            | inl f ↦ let d = cond-true (nat_lt s.first b) (suc (began ss b)) (began ss b) f in omega (arith, c, d, m)
            | inr f ↦ let d = cond-false (nat_lt s.first b) (suc (began ss b)) (began ss b) f in omega (arith, c, d, m)
          ]
    ]

in-span : (s : Span) (b : ℕ) → s.first ≤ b → b < s.first + s.count → is_in s b ≡ true
in-span s b l h = and_from _ _ (le-leb s.first b l) (lt-ltb b (s.first + s.count) h)

pub span-in : (s : Span) (b : ℕ) → is_in s b ≡ true → (s.first ≤ b) × (b < s.first + s.count)
span-in s b h = let p = and_parts (nat_le s.first b) (nat_lt b (s.first + s.count)) h in (leb-true s.first b p.0, ltb-true b (s.first + s.count) p.1)

-- each span that begins before a block ends there at the latest
pub Passed : List Span → ℕ → Type 0
Passed ss at = (k : ℕ) (d : Span) → k < length ss → (get_or ss k d).first < at → (get_or ss k d).first + (get_or ss k d).count ≤ at

-- no two of the spans share a block
pub Apart : List Span → Type 0
Apart ss = (i j : ℕ) (d : Span) (b : ℕ) → i < length ss → j < length ss → is_in (get_or ss i d) b ≡ true → is_in (get_or ss j d) b ≡ true → i ≡ j

module _ (ss : List Span) where
  -- a block of some span
  some-of : (b : ℕ) → is_in_some ss b ≡ true → (k : ℕ) × (s : Span) × (k < length ss) × (get_or ss k s ≡ s) × (is_in s b ≡ true)
  some-of b h = Any-from_list_any (λ s. is_in s b) ss h

  pub of-some : (s : Span) → Contains ss s → (b : ℕ) → s.first ≤ b → b < s.first + s.count → is_in_some ss b ≡ true
  of-some s c b l h = list_any_at (λ s. is_in s b) ss c.0 s c.1 (ap (λ (z : Span). is_in z b) c.2 ∙ in-span s b l h)

  -- up to the span that begins next there is nothing more
  pub nothing-before : (at : ℕ) (s : Span) → Passed ss at → IsNext at ss (Some s) → (b : ℕ) → before (is_in_some ss) at b ≡ before (is_in_some ss) s.first b
  unfolding Passed
  nothing-before at s passed next b = elim (cases_Bool (is_in_some ss b)) [
    | inr e ↦ ap (λ z. z && nat_lt b at) e ∙ sym (ap (λ z. z && nat_lt b s.first) e)
    | inl e ↦ ap (λ z. z && nat_lt b at) e ∙ (same e ∙ sym (ap (λ z. z && nat_lt b s.first) e))
  ]
    where
      same : is_in_some ss b ≡ true → nat_lt b at ≡ nat_lt b s.first
      same e = elim (cases_Bool (nat_lt b at)) [
        | inl l ↦ l ∙ sym (lt-ltb b s.first (let x = ltb-true b at l in let n = next.1 in omega (arith, x, n)))
        | inr l ↦ l ∙ sym (elim (cases_Bool (nat_lt b s.first)) [
          | inr m ↦ m
          | inl m ↦
              let t = some-of b e in
              let r = span-in t.1 b t.4 in
              let r0 = r.0 in
              let r1 = r.1 in
              let x = ltb-false b at l in
              let y = ltb-true b s.first m in
              absurd (elim (cases_lt t.1.first at) [
                | inl less ↦
                    let p = subst (λ (z : Span). z.first < at → z.first + z.count ≤ at) t.3 (passed t.0 t.1 t.2) less in
                    let u : ⊥ = omega (arith, p, x, r1) in u
                | inr more ↦
                    let n = subst (λ (z : Span). at ≤ z.first → s.first ≤ z.first) t.3 (next.2 t.0 t.1 t.2) more in
                    let u : ⊥ = omega (arith, n, y, r0) in u
              ])
        ])
      ]

  -- behind it all that began has ended
  pub passed-next : (at : ℕ) (s : Span) → Apart ss → ((k : ℕ) (d : Span) → k < length ss → 1 ≤ (get_or ss k d).count) → Passed ss at → IsNext at ss (Some s) → Passed ss (s.first + s.count)
  unfolding Passed Apart
  passed-next at s apart some passed next k d h l = elim (cases_lt (get_or ss k d).first at) [
    | inl less ↦ let p = passed k d h less in let n = next.1 in omega (arith, p, n)
    | inr more ↦
        let n = next.2 k d h more in
        let c = next.0 in
        let is : get_or ss c.0 d ≡ s = get_or_default ss c.0 d s c.1 ∙ c.2 in
        let one = some k d h in
        let same = apart k c.0 d (get_or ss k d).first h c.1 (in-span (get_or ss k d) (get_or ss k d).first (omega arith) (omega (arith, one))) (ap (λ (z : Span). is_in z (get_or ss k d).first) is ∙ in-span s (get_or ss k d).first n l) in
        let e : get_or ss k d ≡ s = ap (λ (j : ℕ). get_or ss j d) same ∙ is in
        subst (λ (z : Span). z.first + z.count ≤ s.first + s.count) (sym e) (omega arith)
  ]

  -- where none begins any more, all have been passed
  pub all-passed : (at : ℕ) → Passed ss at → IsNext at ss None → (b : ℕ) → before (is_in_some ss) at b ≡ is_in_some ss b
  unfolding Passed
  all-passed at passed none b = elim (cases_Bool (is_in_some ss b)) [
    | inr e ↦ ap (λ z. z && nat_lt b at) e ∙ sym e
    | inl e ↦
        let t = some-of b e in
        let l = subst (λ (z : Span). z.first < at) t.3 (none t.0 t.1 t.2) in
        let p = subst (λ (z : Span). z.first < at → z.first + z.count ≤ at) t.3 (passed t.0 t.1 t.2) l in
        let r = (span-in t.1 b t.4).1 in
        ap (λ z. z && nat_lt b at) e ∙ (lt-ltb b at (omega (arith, p, r)) ∙ sym e)
  ]

-- the spans of sound patches are apart
pub spans-apart : (patches : Patches) → AreSound patches → Apart (spans_of patches)
unfolding Apart
spans-apart patches sound i j d b hi hj p q = by (used_of patches) sound.apart i j hi hj p q
  where
    by : (ps : List Patch) → AllPairs AreApart ps → (i j : ℕ) → i < length (map (λ p. p.span) ps) → j < length (map (λ p. p.span) ps) → is_in (get_or (map (λ p. p.span) ps) i d) b ≡ true → is_in (get_or (map (λ p. p.span) ps) j d) b ≡ true → i ≡ j
    by [] apart i j hi hj p q = absurd (omega (arith, hi))
    by (x ∷ xs) apart i j hi hj p q =
        let n = length-map (x ∷ xs) (λ p. p.span) in
        let li : i < length (x ∷ xs) = omega (arith, hi, n) in
        let lj : j < length (x ∷ xs) = omega (arith, hj, n) in
        let ei = get_or-map (λ p. p.span) (x ∷ xs) i x d li in
        let ej = get_or-map (λ p. p.span) (x ∷ xs) j x d lj in
        let pi = subst (λ (s : Span). is_in s b ≡ true) ei p in
        let qj = subst (λ (s : Span). is_in s b ≡ true) ej q in
        elim (cases_lt i j) [
          | inl l ↦ absurd (apart i j x l lj b pi qj)
          | inr l ↦ elim (cases_lt j i) [ inl m ↦ absurd (apart j i x m li b qj pi) | inr m ↦ omega (arith, l, m) ]
        ]

-- ## The ends of a walk

pub begin-walk : (y : Shape) (test : ℕ → Bool) → IsWalked y test nothing 0 0
begin-walk y test = record {
  split = record {
    stripes_ascend = λ k h. absurd (let u : ⊥ = omega (arith, h) in u);
    stripes_within = λ k d h. absurd (let u : ⊥ = omega (arith, h) in u);
    stripes_touched = λ s h. (
      λ c. let l = c.1 in absurd (let u : ⊥ = omega (arith, l) in u),
      λ b. absurd (let l = ltb-true (block_of y s b.0 b.1) 0 (and_parts (test (block_of y s b.0 b.1)) (nat_lt (block_of y s b.0 b.1) 0) b.4).1 in let u : ⊥ = omega (arith, l) in u),
    );
    parts_ascend = λ i j d l h. absurd (let u : ⊥ = omega (arith, h) in u);
    parts_within = λ k d h. absurd (let u : ⊥ = omega (arith, h) in u);
    parts_touched = λ p i o h hi ho. absurd (let u : ⊥ = omega (arith, h) in u);
  };
  few = omega arith;
  parts = omega arith;
}

pub begin-span : (y : Shape) (test : ℕ → Bool) (m : Touched) (first end n : ℕ) → first ≤ end → IsWalked y test m first n → IsInSpan y test m first end first n
begin-span y test m first end n le w = record {
  split = w.split;
  few = w.few;
  least = omega arith;
  most = le;
  none = λ e. w.parts;
  some = λ l. absurd (let u : ⊥ = omega (arith, l) in u);
  next = λ l h. absurd (let u : ⊥ = omega (arith, l) in u);
}

pub end-span : (y : Shape) (test : ℕ → Bool) (m : Touched) (first end low n : ℕ) → first < end → end ≤ low → IsInSpan y test m first end low n → IsWalked y test m end (n + 1)
end-span y test m first end low n some ends w =
    let most = w.most in
    let same : low ≡ end = omega (arith, most, ends) in
    record {
      split = subst (λ k. IsSplit y (before test k) m) same w.split;
      few = w.few;
      parts = (w.some (omega (arith, some, same))).0;
    }

-- the walk goes on from a block to the span that begins next
pub go-on : (y : Shape) (ss : List Span) (m : Touched) (at : ℕ) (s : Span) → Passed ss at → IsNext at ss (Some s) → IsWalked y (is_in_some ss) m at (began ss at) → IsWalked y (is_in_some ss) m s.first (began ss s.first)
go-on y ss m at s passed next w = record {
  split = split-same y (before (is_in_some ss) at) (before (is_in_some ss) s.first) m (nothing-before ss at s passed next) w.split;
  few = w.few;
  parts = let p = w.parts in let b = began-up ss at s.first next.1 in omega (arith, p, b);
}

-- and behind it
pub gone-on : (y : Shape) (ss : List Span) (m : Touched) (at : ℕ) (s : Span) → 1 ≤ s.count → IsNext at ss (Some s) → IsWalked y (is_in_some ss) m (s.first + s.count) (began ss s.first + 1) → IsWalked y (is_in_some ss) m (s.first + s.count) (began ss (s.first + s.count))
gone-on y ss m at s some next w = record {
  split = w.split;
  few = w.few;
  parts =
      let c = next.0 in
      let is = c.2 in
      let f = ap (λ (z : Span). z.first) is in
      let b = began-more ss s.first (s.first + s.count) c.0 s (omega arith) c.1 (omega (arith, f)) (omega (arith, f, some)) in
      let p = w.parts in
      omega (arith, p, b);
}

-- not all have begun before the one that is next
pub one-left : (ss : List Span) (at : ℕ) (s : Span) → length ss ≤ 8 → 1 ≤ s.count → IsNext at ss (Some s) → began ss s.first ≤ 7
one-left ss at s few some next =
    let c = next.0 in
    let is = c.2 in
    let f = ap (λ (z : Span). z.first) is in
    let b = began-more ss s.first (s.first + s.count) c.0 s (omega arith) c.1 (omega (arith, f)) (omega (arith, f, some)) in
    let m = began-most ss (s.first + s.count) in
    omega (arith, b, m, few)

-- the walk is over
pub end-walk : (y : Shape) (law : IsLayout y) (ss : List Span) (m : Touched) (at : ℕ) → length ss ≤ 8 → Passed ss at → IsNext at ss None → IsWalked y (is_in_some ss) m at (began ss at) → IsJointSplit y ss m
end-walk y law ss m at few passed none w = record {
  split = split-same y (before (is_in_some ss) at) (is_in_some ss) m (all-passed ss at passed none) w.split;
  stripes_few = w.few;
  parts_few = elim (cases_lt 0 (length m.parts)) [
    | inl h ↦ let r = reach-most y law m.parts (length m.stripes) w.few w.split.parts_within h in let p = w.parts in let b = began-most ss at in omega (arith, r, p, b, few)
    | inr h ↦ omega (arith, h)
  ];
}

-- a map of few stripes is one of blocks of few
pub few-among : (y : Shape) (ss : List Span) (m : Touched) → IsJointSplit y ss m → 16 < stripes_among y (is_in_some ss) → ⊥
few-among y ss m s h = let c = split-count y (is_in_some ss) m s.split in let f = s.stripes_few in omega (arith, c, f, h)

-- a list of parts with one put at its end isn't empty
pub some-part : (xs : List Part) (p : Part) → 0 < length (with_part xs p)
some-part xs p = elim (cases_Bool (last_meets xs p)) [
  | inl m ↦ let e = ap length (cond-true (last_meets xs p) (take (length xs - 1) xs ++ longer (get_or xs (length xs - 1) p) p.count ∷ []) (xs ++ p ∷ []) m) in let l = length-append (take (length xs - 1) xs) (longer (get_or xs (length xs - 1) p) p.count ∷ []) in omega (arith, e, l)
  | inr m ↦ let e = ap length (cond-false (last_meets xs p) (take (length xs - 1) xs ++ longer (get_or xs (length xs - 1) p) p.count ∷ []) (xs ++ p ∷ []) m) in let l = length-append xs (p ∷ []) in omega (arith, e, l)
]

-- ## The end of a unit

module _ (y : Shape) (law : IsLayout y) (low : ℕ) where
  edge : ℕ
  edge = (low / y.unit_sectors + 1) * y.unit_sectors

  edge-is : (low / y.unit_sectors + 1) * y.unit_sectors ≡ low / y.unit_sectors * y.unit_sectors + y.unit_sectors
  edge-is = ap (λ (n : ℕ). n * y.unit_sectors) (let z : low / y.unit_sectors + 1 ≡ suc (low / y.unit_sectors) = omega arith in z) ∙ suc-mul (low / y.unit_sectors) y.unit_sectors

  pub behind-low : low < (low / y.unit_sectors + 1) * y.unit_sectors
  behind-low = let e = edge-is in let l = lt-div-mul-add {a = low} law.unit_least in omega (arith, e, l)

  pub within-unit : (high : ℕ) → low ≤ high → high ≤ (low / y.unit_sectors + 1) * y.unit_sectors → offset_of y low + (high - low) ≤ y.unit_sectors
  within-unit high a b = let e = edge-is in let d = div-add-mod' low y.unit_sectors in omega (arith, e, d, a, b)

  pub edge-begins : offset_of y ((low / y.unit_sectors + 1) * y.unit_sectors) ≡ 0
  edge-begins = ap (λ (n : ℕ). n % y.unit_sectors) (let z : (low / y.unit_sectors + 1) * y.unit_sectors ≡ (low / y.unit_sectors + 1) * y.unit_sectors + 0 = omega arith in z) ∙ mod-mul-add (low / y.unit_sectors + 1) y.unit_sectors 0 law.unit_least

-- ## A step of the code

module _ (y : Shape) (law : IsLayout y) (ss : List Span) (span : Span) (own : Contains ss span) (inside : span.first + span.count ≤ blocks_in y) (n sectors end low high : ℕ) (m : Touched)
    (sectors-is : sectors ≡ y.unit_sectors) (end-is : end ≡ span.first + span.count) (w : IsInSpan y (is_in_some ss) m span.first end low n) (lt : low < end) (high-is : high ≡ min end ((low / sectors + 1) * sectors)) where
  high-min : high ≡ min end ((low / y.unit_sectors + 1) * y.unit_sectors)
  high-min = high-is ∙ ap (λ (u : ℕ). min end ((low / u + 1) * u)) sectors-is

  pub is-some : low < high
  is-some = let e = behind-low y law low in let h = high-min in omega (arith, e, h, lt)

  pub is-within : high ≤ end
  is-within = let h = high-min in omega (arith, h)

  pub is-one : offset_of y low + (high - low) ≤ y.unit_sectors
  is-one = let h = high-min in let s = is-some in within-unit y law low high (omega (arith, s)) (omega (arith, h))

  pub is-inside : end ≤ blocks_in y
  is-inside = omega (arith, end-is, inside)

  pub is-high : high ≤ blocks_in y
  is-high = let a = is-within in let b = is-inside in omega (arith, a, b)

  pub is-own : (b : ℕ) → span.first ≤ b → b < end → is_in_some ss b ≡ true
  is-own b l h = of-some ss span own b l (omega (arith, h, end-is))

  pub is-next : high < end → offset_of y high ≡ 0
  is-next h = let e = high-min in let same : high ≡ (low / y.unit_sectors + 1) * y.unit_sectors = omega (arith, e, h) in ap (offset_of y) same ∙ edge-begins y law low

  pub is-room : n ≤ 7 → length m.parts < 520
  is-room seven = room y law (is_in_some ss) m span.first end low high n w is-some is-within is-one is-inside is-own seven

  pub is-stepped : (now : Touched) → now ≡ added y m low high → length now.stripes ≤ 16 → IsInSpan y (is_in_some ss) now span.first end high n
  is-stepped now is few =
      let f : length (added y m low high).stripes ≤ 16 = subst (λ (t : Touched). length t.stripes ≤ 16) is few in
      subst (λ (t : Touched). IsInSpan y (is_in_some ss) t span.first end high n) (sym is) (stepped y law (is_in_some ss) m span.first end low high n w is-some is-within is-one is-inside is-own f (some-part m.parts (part_of y (length (with_stripe m.stripes (stripe_of y low)) - 1) low high)) is-next)

  pub is-over : length m.stripes ≡ 16 → ends_with m.stripes (stripe_of y low) ≡ false → 16 < stripes_among y (is_in_some ss)
  is-over full other = over y law (is_in_some ss) m span.first end low high n w is-some is-within is-one is-inside is-own full other

  pub is-fit : All (λ p. p.from + p.count ≤ 128) m.parts
  is-fit k d h = let f = (w.split.parts_within k d h).fits in let u = law.unit_most in omega (arith, f, u)

-- ## The walk of the code

pub begin-all : (y : Shape) (ss : List Span) (m : Touched) → m ≡ nothing → IsWalked y (is_in_some ss) m 0 (began ss 0)
begin-all y ss m e =
    let w = begin-walk y (is_in_some ss) in
    subst (λ (t : Touched). IsWalked y (is_in_some ss) t 0 (began ss 0)) (sym e) (record { split = w.split; few = w.few; parts = let p = w.parts in omega (arith, p) })

pub none-passed : (ss : List Span) → Passed ss 0
unfolding Passed
none-passed ss k d h l = absurd (let u : ⊥ = omega (arith, l) in u)

pub is-some-count : (ss : List Span) (s : Span) → Contains ss s → All (λ s. 1 ≤ s.count) ss → 1 ≤ s.count
is-some-count ss s c all = subst (λ (z : Span). 1 ≤ z.count) c.2 (all c.0 s c.1)

pub is-in-range : (y : Shape) (ss : List Span) (s : Span) → Contains ss s → (PassesEndSome y ss → ⊥) → s.first + s.count ≤ blocks_in y
is-in-range y ss s c fits = elim (cases_lt (blocks_in y) (s.first + s.count)) [ inl past ↦ absurd (fits (c.0, s, c.1, c.2, past)) | inr h ↦ h ]

pub is-range-word : (y : Shape) (law : IsLayout y) (ss : List Span) (s : Span) → Contains ss s → (PassesEndSome y ss → ⊥) → s.first + s.count ≤ 4294967296
is-range-word y law ss s c fits = let a = is-in-range y ss s c fits in let b = blocks_in-most y law in omega (arith, a, b)

-- a map of the blocks of a test has a stripe where one of them is in range
pub split-some : (y : Shape) (law : IsLayout y) (test : ℕ → Bool) (m : Touched) (b : ℕ) → IsSplit y test m → b < blocks_in y → test b ≡ true → 0 < length m.stripes
split-some y law test m b s below t =
    let e = block_of-home y law b in
    let c = (s.stripes_touched (stripe_of y b) (stripe_of-below y law b below)).1 (unit_of y b, offset_of y b, unit_of-below y law b, offset_of-below y law b, ap test e ∙ t) in
    let h = c.1 in
    omega (arith, h)
