-- Blocks that follow those of a map are added to it.
use Rattle.std.specs.Prelude.{◌≡◌, ◌<◌, ◌≤◌, ◌+◌, ◌-◌, ◌*◌, ◌/◌, ◌⊎◌, ◌||◌, ℕ, Bool, true, List, length, nat_lt, Contains}
use Rattle.std.proofs.Common.{arith, refl, ap, sym, subst, ◌∙◌, inl, inr, get_or}
use Rattle.std.proofs.lemmas.Nat.{div-mul-add}
use Rattle.std.proofs.lemmas.Bool.{cases_lt, and_parts, and_from, ltb-true, lt-ltb, le-leb, eq-eqb}
use Rattle.std.proofs.lemmas.List.{get_or_default}
use Rattle.std.proofs.lemmas.List.Folds.{list_any_at, Any-from_list_any}
use Rattle.lay_core.specs.declared.place.Part.{Part}
use Rattle.lay_core.specs.Layout.{Shape, IsLayout, data_units, blocks_in, block_of, stripe_of, unit_of, offset_of}
use Rattle.lay_core.specs.Touched.{Touched, HasBlock, IsPart, IsSplit, part_has, is_touched}
use Rattle.lay_core.specs.Joined.{before, with_stripe, with_part, part_of, added}
use Rattle.lay_core.proofs.Putting.{both-ways, or-left, or-right, or-cases, once, IsAdded, is-added, Near, IsPutBehind, put-behind, has-own, has-only}
use Rattle.lay_core.proofs.Quotients.{div-le-div}
use Rattle.lay_core.proofs.Numbering.{stripe_of-block_of, stripe_of-below, block_of-home, block_of-one_to_one, unit_of-below, offset_of-below}

-- ## The next blocks of a unit

-- the order of two sectors of data units goes by stripe, then by unit, then by offset
module _ (y : Shape) (law : IsLayout y) where
  some-units : 0 < data_units y
  some-units = let c = law.checks_below in omega (arith, c)

  unit-block : (s i o : ℕ) → o < y.unit_sectors → block_of y s i o / y.unit_sectors ≡ s * data_units y + i
  unit-block s i o h = div-mul-add (s * data_units y + i) y.unit_sectors o h

  pub stripe-up : (a b : ℕ) → a ≤ b → stripe_of y a ≤ stripe_of y b
  stripe-up a b h = div-le-div (a / y.unit_sectors) (b / y.unit_sectors) (data_units y) some-units (div-le-div a b y.unit_sectors law.unit_least h)

  pub in-order : (s i o t j p : ℕ) → i < data_units y → j < data_units y → o < y.unit_sectors → p < y.unit_sectors → block_of y s i o < block_of y t j p
      → (s < t) ⊎ ((s ≡ t) × ((i < j) ⊎ ((i ≡ j) × (o < p))))
  in-order s i o t j p hi hj ho hp lt = elim (cases_lt s t) [
    | inl l ↦ inl l
    | inr l ↦
        let up = stripe-up (block_of y s i o) (block_of y t j p) (omega (arith, lt)) in
        let a = stripe_of-block_of y law s i o hi ho in
        let b = stripe_of-block_of y law t j p hj hp in
        let same : s ≡ t = omega (arith, l, up, a, b) in
        inr (same, units same)
  ]
    where
      units : s ≡ t → (i < j) ⊎ ((i ≡ j) × (o < p))
      units same = elim (cases_lt i j) [
        | inl l ↦ inl l
        | inr l ↦
            let q = div-le-div (block_of y s i o) (block_of y t j p) y.unit_sectors law.unit_least (omega (arith, lt)) in
            let a = unit-block s i o ho in
            let b = unit-block t j p hp in
            let d = ap (λ (n : ℕ). n * data_units y) same in
            let e : i ≡ j = omega (arith, l, q, a, b, d) in
            let u : (s * data_units y + i) * y.unit_sectors ≡ (t * data_units y + j) * y.unit_sectors = ap (λ (n : ℕ). n * y.unit_sectors) (let z : s * data_units y + i ≡ t * data_units y + j = omega (arith, d, e) in z) in
            inr (e, omega (arith, lt, u))
      ]

module _ (y : Shape) (law : IsLayout y) (test : ℕ → Bool) (map : Touched) (low high : ℕ) (split : IsSplit y (before test low) map)
    (some : low < high) (one : offset_of y low + (high - low) ≤ y.unit_sectors) (fits : high ≤ blocks_in y) (all : (b : ℕ) → low ≤ b → b < high → test b ≡ true) where
  s : ℕ
  s = stripe_of y low

  i : ℕ
  i = unit_of y low

  f : ℕ
  f = offset_of y low

  iw : unit_of y low < data_units y
  iw = unit_of-below y law low

  fw : offset_of y low < y.unit_sectors
  fw = offset_of-below y law low

  at-low : block_of y (stripe_of y low) (unit_of y low) (offset_of y low) ≡ low
  at-low = block_of-home y law low

  -- a block below is before
  is-below : (b : ℕ) → before test low b ≡ true → (test b ≡ true) × (b < low)
  is-below b t = let h = and_parts (test b) (nat_lt b low) t in (h.0, ltb-true b low h.1)

  passes : (b : ℕ) → test b ≡ true → b < high → before test high b ≡ true
  passes b t l = and_from _ _ t (lt-ltb b high l)

  passes-low : (b : ℕ) → test b ≡ true → b < low → before test low b ≡ true
  passes-low b t l = and_from _ _ t (lt-ltb b low l)

  -- a stripe of the map isn't behind
  behind : (k : ℕ) → k < length map.stripes → get_or map.stripes k 0 ≤ stripe_of y low
  behind k h =
      let z = get_or map.stripes k 0 in
      let w = split.stripes_within k 0 h in
      let b = (split.stripes_touched z w).0 (k, h, get_or_default map.stripes k z 0 h) in
      let l = (is-below (block_of y z b.0 b.1) b.4).1 in
      let up = stripe-up y law (block_of y z b.0 b.1) low (omega (arith, l)) in
      let is = stripe_of-block_of y law z b.0 b.1 b.2 b.3 in
      omega (arith, up, is)

  stripes : List ℕ
  stripes = with_stripe map.stripes (stripe_of y low)

  p : ℕ
  p = length (with_stripe map.stripes (stripe_of y low)) - 1

  pub put : IsAdded map.stripes (with_stripe map.stripes (stripe_of y low)) (stripe_of y low) (length (with_stripe map.stripes (stripe_of y low)) - 1)
  put = is-added map.stripes (stripe_of y low) split.stripes_ascend behind

  abbrev pub P : ℕ
  P = length (with_stripe map.stripes (stripe_of y low)) - 1

  abbrev pub new_part : Part
  new_part = part_of y P low high

  -- a part of the map ends before the blocks that are added
  pub near : (k : ℕ) (d : Part) → k < length map.parts → Near P (unit_of y low) (offset_of y low) (get_or map.parts k d)
  near k d h = go (get_or map.parts k d) (split.parts_within k d h) refl
    where
      go : (a : Part) → IsPart y (length map.stripes) a → get_or map.parts k d ≡ a → Near P (unit_of y low) (offset_of y low) a
      go a w is =
          let o = a.from + a.count - 1 in
          let z = get_or map.stripes a.stripe 0 in
          let hc = w.some in
          let hf = w.fits in
          let ow : o < y.unit_sectors = omega (arith, hc, hf) in
          let has : is_touched map.parts a.stripe a.unit o ≡ true = list_any_at (part_has a.stripe a.unit o) map.parts k d h (ap (part_has a.stripe a.unit o) is ∙ has-own a o (omega (arith, hc)) (omega (arith, hc))) in
          let t = is-below (block_of y z a.unit o) (sym (split.parts_touched a.stripe a.unit o w.stripe w.unit ow) ∙ has) in
          let lt : block_of y z a.unit o < block_of y (stripe_of y low) (unit_of y low) (offset_of y low) = let l = t.1 in let e = at-low in omega (arith, l, e) in
          let kept = put.kept a.stripe w.stripe in
          let there = put.there in
          let long = put.long in
          let most = put.most in
          let sw = w.stripe in
          let le : a.stripe ≤ P = omega (arith, sw, most) in
          let equal : z ≡ stripe_of y low → a.stripe ≡ P = λ e. once (with_stripe map.stripes (stripe_of y low)) put.ascend a.stripe P (omega (arith, le, long)) (omega (arith, long)) (kept ∙ (e ∙ sym there)) in
          elim (in-order y law z a.unit o (stripe_of y low) (unit_of y low) (offset_of y low) w.unit iw ow fw lt) [
            | inl less ↦ elim (cases_lt a.stripe P) [
              | inl l ↦ inl l
              | inr l ↦
                  let same : a.stripe ≡ P = omega (arith, l, le) in
                  let e : get_or (with_stripe map.stripes (stripe_of y low)) a.stripe 0 ≡ stripe_of y low = ap (λ (j : ℕ). get_or (with_stripe map.stripes (stripe_of y low)) j 0) same ∙ there in
                  absurd (let u : ⊥ = omega (arith, less, e, kept) in u)
            ]
            | inr same ↦ inr (
              equal same.0,
              elim same.1 [
                | inl less ↦ inl less
                | inr less ↦ inr (less.0, let q = less.1 in omega (arith, q, hc))
              ],
            )
          ]

  pub put-part : IsPutBehind y map.parts (with_part map.parts (part_of y P low high)) (part_of y P low high)
  put-part = put-behind y map.parts (part_of y P low high) split.parts_ascend (omega (arith, some)) (λ k d h. (split.parts_within k d h).some) near

  -- the sector of an added block
  module _ (S I O : ℕ) (hI : I < data_units y) (hO : O < y.unit_sectors) where
    -- a block that is added is of this stripe and unit
    own : low ≤ block_of y S I O → block_of y S I O < high → (S ≡ stripe_of y low) × (I ≡ unit_of y low) × (offset_of y low ≤ O) × (O < offset_of y low + (high - low))
    own l h =
        let b = block_of y S I O in
        let o = offset_of y low + (b - low) in
        let ow : o < y.unit_sectors = omega (arith, l, h, one) in
        let same : b ≡ block_of y (stripe_of y low) (unit_of y low) o = let e = at-low in omega (arith, l, e) in
        let is = block_of-one_to_one y law S (stripe_of y low) I (unit_of y low) O o hI iw hO ow same in
        let oe = is.2 in
        (is.0, is.1, omega (arith, oe), omega (arith, oe, l, h))

    -- and the other way round
    adds : S ≡ stripe_of y low → I ≡ unit_of y low → offset_of y low ≤ O → O < offset_of y low + (high - low) → (low ≤ block_of y S I O) × (block_of y S I O < high)
    adds es ei l h =
        let b = block_of y S I O in
        let base : (S * data_units y + I) * y.unit_sectors ≡ (stripe_of y low * data_units y + unit_of y low) * y.unit_sectors = ap (λ (n : ℕ). n * y.unit_sectors) (ap (λ (n : ℕ). n * data_units y + I) es ∙ ap (λ (n : ℕ). stripe_of y low * data_units y + n) ei) in
        let e = at-low in
        (omega (arith, base, e, l), omega (arith, base, e, l, h))

  -- the stripes are those with a block before high
  pub has-block : (S : ℕ) → S < y.stripes → Contains (with_stripe map.stripes (stripe_of y low)) S → HasBlock y (before test high) S
  has-block S hS (k, h, is) = elim (cases_lt k (length map.stripes)) [
    | inl l ↦
        let b = (split.stripes_touched S hS).0 (k, l, get_or_default map.stripes k S 0 l ∙ (sym (put.kept k l) ∙ (get_or_default (with_stripe map.stripes (stripe_of y low)) k 0 S h ∙ is))) in
        let t = is-below (block_of y S b.0 b.1) b.4 in
        let lt = t.1 in
        (b.0, b.1, b.2, b.3, passes (block_of y S b.0 b.1) t.0 (omega (arith, lt, some)))
    | inr l ↦
        let long = put.long in
        let least = put.least in
        let e : k ≡ P = omega (arith, h, l, long, least) in
        let same : stripe_of y low ≡ S = sym put.there ∙ (ap (λ (j : ℕ). get_or (with_stripe map.stripes (stripe_of y low)) j 0) (sym e) ∙ (get_or_default (with_stripe map.stripes (stripe_of y low)) k 0 S h ∙ is)) in
        let b = at-low in
        subst (HasBlock y (before test high)) same (unit_of y low, offset_of y low, iw, fw, passes (block_of y (stripe_of y low) (unit_of y low) (offset_of y low)) (all _ (omega (arith, b)) (omega (arith, b, some))) (omega (arith, b, some)))
  ]

  block-has : (S : ℕ) → S < y.stripes → HasBlock y (before test high) S → Contains (with_stripe map.stripes (stripe_of y low)) S
  block-has S hS (I, O, hI, hO, t) =
      let b = block_of y S I O in
      let q = and_parts (test b) (nat_lt b high) t in
      let long = put.long in
      elim (cases_lt b low) [
        | inl l ↦
            let c = (split.stripes_touched S hS).1 (I, O, hI, hO, passes-low b q.0 l) in
            let most = put.most in
            let k = c.0 in
            let kw = c.1 in
            let w : c.0 < length (with_stripe map.stripes (stripe_of y low)) = omega (arith, kw, most, long) in
            (c.0, w, get_or_default (with_stripe map.stripes (stripe_of y low)) c.0 S 0 w ∙ (put.kept c.0 c.1 ∙ (get_or_default map.stripes c.0 0 S c.1 ∙ c.2)))
        | inr l ↦
            let o = own S I O hI hO l (ltb-true b high q.1) in
            let w : P < length (with_stripe map.stripes (stripe_of y low)) = omega (arith, long) in
            (P, w, get_or_default (with_stripe map.stripes (stripe_of y low)) P S 0 w ∙ (put.there ∙ sym o.0))
      ]

  -- the stripe at a position
  module _ (q : ℕ) (hq : q < length (with_stripe map.stripes (stripe_of y low))) where
    old-at : q < length map.stripes → get_or (with_stripe map.stripes (stripe_of y low)) q 0 ≡ get_or map.stripes q 0
    old-at h = put.kept q h

    last-at : length map.stripes ≤ q → (q ≡ P) × (get_or (with_stripe map.stripes (stripe_of y low)) q 0 ≡ stripe_of y low)
    last-at h =
        let long = put.long in
        let least = put.least in
        let e : q ≡ P = omega (arith, hq, h, long, least) in
        (e, ap (λ (j : ℕ). get_or (with_stripe map.stripes (stripe_of y low)) j 0) e ∙ put.there)

    place : get_or (with_stripe map.stripes (stripe_of y low)) q 0 ≡ stripe_of y low → q ≡ P
    place e =
        let long = put.long in
        let w : P < length (with_stripe map.stripes (stripe_of y low)) = omega (arith, long) in
        once (with_stripe map.stripes (stripe_of y low)) put.ascend q P hq w (e ∙ sym put.there)

    pub within : get_or (with_stripe map.stripes (stripe_of y low)) q 0 < y.stripes
    within = elim (cases_lt q (length map.stripes)) [
      | inl l ↦ let e = old-at l in let w = split.stripes_within q 0 l in omega (arith, e, w)
      | inr l ↦ let e = (last-at l).1 in let w = stripe_of-below y law low (omega (arith, some, fits)) in omega (arith, e, w)
    ]

    touched-at : (I O : ℕ) → I < data_units y → O < y.unit_sectors → is_touched (with_part map.parts (part_of y P low high)) q I O ≡ before test high (block_of y (get_or (with_stripe map.stripes (stripe_of y low)) q 0) I O)
    touched-at I O hI hO = put-part.touched q I O ∙ both-ways _ _ there back
      where
        S : ℕ
        S = get_or (with_stripe map.stripes (stripe_of y low)) q 0

        there : (is_touched map.parts q I O || part_has q I O (part_of y P low high)) ≡ true → before test high (block_of y (get_or (with_stripe map.stripes (stripe_of y low)) q 0) I O) ≡ true
        there h = elim (or-cases (is_touched map.parts q I O) (part_has q I O (part_of y P low high)) h) [
          | inl g ↦
              let any = Any-from_list_any (part_has q I O) map.parts g in
              let only_ = has-only q I O any.1 any.4 in
              let w = split.parts_within any.0 any.1 any.2 in
              let sw : any.1.stripe < length map.stripes = subst (λ (a : Part). a.stripe < length map.stripes) any.3 w.stripe in
              let ql : q < length map.stripes = let e = only_.0 in omega (arith, sw, e) in
              let t = is-below (block_of y (get_or map.stripes q 0) I O) (sym (split.parts_touched q I O ql hI hO) ∙ g) in
              let lt = t.1 in
              subst (λ (z : ℕ). before test high (block_of y z I O) ≡ true) (sym (old-at ql)) (passes (block_of y (get_or map.stripes q 0) I O) t.0 (omega (arith, lt, some)))
          | inr g ↦
              let o = has-only q I O (part_of y P low high) g in
              let e : get_or (with_stripe map.stripes (stripe_of y low)) q 0 ≡ stripe_of y low = ap (λ (j : ℕ). get_or (with_stripe map.stripes (stripe_of y low)) j 0) (sym o.0) ∙ put.there in
              let r = adds (get_or (with_stripe map.stripes (stripe_of y low)) q 0) I O hI hO e (sym o.1) o.2 o.3 in
              passes (block_of y (get_or (with_stripe map.stripes (stripe_of y low)) q 0) I O) (all _ r.0 r.1) r.1
        ]

        back : before test high (block_of y (get_or (with_stripe map.stripes (stripe_of y low)) q 0) I O) ≡ true → (is_touched map.parts q I O || part_has q I O (part_of y P low high)) ≡ true
        back t =
            let b = block_of y (get_or (with_stripe map.stripes (stripe_of y low)) q 0) I O in
            let h = and_parts (test b) (nat_lt b high) t in
            elim (cases_lt b low) [
              | inl l ↦ elim (cases_lt q (length map.stripes)) [
                | inl ql ↦
                    let e = old-at ql in
                    or-left _ _ (split.parts_touched q I O ql hI hO ∙ subst (λ (z : ℕ). before test low (block_of y z I O) ≡ true) e (passes-low b h.0 l))
                | inr ql ↦
                    let at = last-at ql in
                    let S : ℕ = get_or (with_stripe map.stripes (stripe_of y low)) q 0 in
                    let c = (split.stripes_touched S within).1 (I, O, hI, hO, passes-low b h.0 l) in
                    let kept : get_or (with_stripe map.stripes (stripe_of y low)) c.0 0 ≡ S = put.kept c.0 c.1 ∙ (get_or_default map.stripes c.0 0 S c.1 ∙ c.2) in
                    let kw = c.1 in
                    let long = put.long in
                    let most = put.most in
                    let w : c.0 < length (with_stripe map.stripes (stripe_of y low)) = omega (arith, kw, most, long) in
                    let same = once (with_stripe map.stripes (stripe_of y low)) put.ascend c.0 q w hq kept in
                    absurd (let u : ⊥ = omega (arith, same, kw, ql) in u)
              ]
              | inr l ↦
                  let o = own (get_or (with_stripe map.stripes (stripe_of y low)) q 0) I O hI hO l (ltb-true b high h.1) in
                  or-right (is_touched map.parts q I O) (part_has q I O (part_of y P low high)) (and_from _ _ (eq-eqb P q (sym (place o.0))) (and_from _ _ (eq-eqb (unit_of y low) I (sym o.1)) (and_from _ _ (le-leb (offset_of y low) O o.2) (lt-ltb O (offset_of y low + (high - low)) o.3))))
            ]

  -- the map with the blocks added is that of the blocks before high
  pub added-split : IsSplit y (before test high) (added y map low high)
  added-split = record {
    stripes_ascend = put.ascend;
    stripes_within = λ k d h. subst (λ (z : ℕ). z < y.stripes) (get_or_default (with_stripe map.stripes (stripe_of y low)) k 0 d h) (within k h);
    stripes_touched = λ S hS. (has-block S hS, block-has S hS);
    parts_ascend = put-part.ascend;
    parts_within = put-part.within (length map.stripes) (length (with_stripe map.stripes (stripe_of y low))) (let m = put.most in let l = put.long in omega (arith, m, l)) split.parts_within (record {
      stripe = let l = put.long in omega (arith, l);
      unit = iw;
      some = omega (arith, some);
      fits = one;
    });
    parts_touched = λ q I O hq hI hO. touched-at q hq I O hI hO;
  }

  pub added-few : length (with_part map.parts (part_of y P low high)) ≤ length map.parts + 1
  added-few = put-part.few
