-- Stripes and parts that are put at the end of lists in ascending order.
use Rattle.std.specs.Prelude.{◌≡◌, ◌<◌, ◌≤◌, ◌+◌, ◌-◌, ◌⊎◌, ◌||◌, ◌==◌, ℕ, zero, suc, Bool, true, false, List, [], ◌∷◌, ◌++◌, length, take, nat_lt, nat_le, slice_set, All, AllPairs}
use Rattle.std.specs.List.Sorted.{IsStrictlyIncreasing}
use Rattle.std.proofs.Common.{arith, refl, ap, sym, subst, ◌∙◌, inl, inr, get_or, length-append}
use Rattle.std.proofs.Math.Seq.{take-suc, take-suc-set}
use Rattle.std.proofs.lemmas.Bool.{cases_Bool, cases_lt, cond-true, cond-false, and_parts, and_from, ltb-true, leb-true, eqb-true, lt-ltb, le-leb, eq-eqb}
use Rattle.std.proofs.lemmas.List.{get_or_append_left, get_or_push, get_or_default, get_or-take, take_all, length-take-le, length-set}
use Rattle.std.proofs.lemmas.List.Elements.{All-append}
use Rattle.std.proofs.lemmas.List.Folds.{list_any-append}
use Rattle.std.proofs.lemmas.List.Kept.{AllPairs-from_increasing}
use Rattle.std.proofs.lemmas.List.Quantifiers.{all_pairs_push}
use Rattle.lay_core.specs.declared.place.Part.{Part}
use Rattle.lay_core.specs.Layout.{Shape}
use Rattle.lay_core.specs.Touched.{IsPart, IsBefore, part_has, is_touched}
use Rattle.lay_core.specs.Joined.{ends_with, with_stripe, meets, last_meets, longer, with_part}

pub both-ways : (a b : Bool) → (a ≡ true → b ≡ true) → (b ≡ true → a ≡ true) → a ≡ b
both-ways true b f g = sym (f refl)
both-ways false true f g = g refl
both-ways false false f g = refl

pub or-left : (a b : Bool) → a ≡ true → (a || b) ≡ true
or-left true b h = refl
or-left false b h = absurd (let z : false ≡ true = h in let u : ⊥ = cc in u)

pub or-right : (a b : Bool) → b ≡ true → (a || b) ≡ true
or-right true b h = refl
or-right false b h = h

pub or-cases : (a b : Bool) → (a || b) ≡ true → (a ≡ true) ⊎ (b ≡ true)
or-cases true b h = inl refl
or-cases false b h = inr h

-- ## Numbers in ascending order

-- no number stands twice
pub once : (xs : List ℕ) → IsStrictlyIncreasing xs → (j k : ℕ) → j < length xs → k < length xs → get_or xs j 0 ≡ get_or xs k 0 → j ≡ k
once xs up j k hj hk e =
    let pairs = AllPairs-from_increasing xs up in
    elim (cases_lt j k) [
      | inl l ↦ let p = pairs j k 0 l hk in absurd (let u : ⊥ = omega (arith, p, e) in u)
      | inr l ↦ elim (cases_lt k j) [
        | inl m ↦ let p = pairs k j 0 m hj in absurd (let u : ⊥ = omega (arith, p, e) in u)
        | inr m ↦ omega (arith, l, m)
      ]
    ]

-- the list ends with this number at this place, and else goes by the other list
pub record IsAdded (xs ys : List ℕ) (s p : ℕ) : Type 0 where
  pub long : length ys ≡ suc p
  pub there : get_or ys p 0 ≡ s
  pub kept : (k : ℕ) → k < length xs → get_or ys k 0 ≡ get_or xs k 0
  pub least : p ≤ length xs
  pub most : length xs ≤ suc p
  pub ascend : IsStrictlyIncreasing ys

-- a number that isn't below any of the list is added
pub is-added : (xs : List ℕ) (s : ℕ) → IsStrictlyIncreasing xs → ((k : ℕ) → k < length xs → get_or xs k 0 ≤ s) → IsAdded xs (with_stripe xs s) s (length (with_stripe xs s) - 1)
is-added xs s up below = elim (cases_Bool (ends_with xs s)) [
  | inl e ↦
      let parts = and_parts (nat_lt 0 (length xs)) (get_or xs (length xs - 1) 0 == s) e in
      let some = ltb-true 0 (length xs) parts.0 in
      let last = eqb-true (get_or xs (length xs - 1) 0) s parts.1 in
      subst (λ (ys : List ℕ). IsAdded xs ys s (length ys - 1)) (sym (cond-true (ends_with xs s) _ _ e)) (record {
        long = omega (arith, some);
        there = last;
        kept = λ k h. refl;
        least = omega arith;
        most = omega (arith, some);
        ascend = up;
      })
  | inr e ↦
      let long : length (xs ++ s ∷ []) ≡ suc (length xs) = omega (arith, length-append xs (s ∷ [])) in
      let at : length (xs ++ s ∷ []) - 1 ≡ length xs = omega (arith, long) in
      let old : (k : ℕ) → k < length xs → get_or (xs ++ s ∷ []) k 0 ≡ get_or xs k 0 = λ k h. get_or_append_left xs (s ∷ []) 0 k h in
      let end : get_or (xs ++ s ∷ []) (length xs) 0 ≡ s = get_or_push xs s 0 (length xs) refl in
      subst (λ (ys : List ℕ). IsAdded xs ys s (length ys - 1)) (sym (cond-false (ends_with xs s) _ _ e)) (record {
        long = omega (arith, long);
        there = ap (λ (k : ℕ). get_or (xs ++ s ∷ []) k 0) at ∙ end;
        kept = old;
        least = omega (arith, at);
        most = omega (arith, at);
        ascend = λ k h. elim (cases_lt (k + 1) (length xs)) [
          | inl l ↦ let a = old k (omega (arith, l)) in let b = old (k + 1) l in let u = up k l in omega (arith, a, b, u)
          | inr l ↦
              let is : k + 1 ≡ length xs = omega (arith, h, l, long) in
              let a = old k (omega (arith, is)) in
              let b : get_or (xs ++ s ∷ []) (k + 1) 0 ≡ s = ap (λ (j : ℕ). get_or (xs ++ s ∷ []) j 0) is ∙ end in
              let le = below k (omega (arith, is)) in
              let ne : get_or xs k 0 ≡ s → ⊥ = λ same. not-last xs s e (let some : 0 < length xs = omega (arith, is) in some) (ap (λ (j : ℕ). get_or xs j 0) (let z : length xs - 1 ≡ k = omega (arith, is) in z) ∙ same) in
              elim (cases_lt (get_or xs k 0) s) [ inl lt ↦ omega (arith, a, b, lt) | inr ge ↦ absurd (ne (omega (arith, ge, le))) ]
        ];
      })
]
  where
    not-last : (xs : List ℕ) (s : ℕ) → ends_with xs s ≡ false → 0 < length xs → get_or xs (length xs - 1) 0 ≡ s → ⊥
    not-last xs s e some same =
        let yes_ : ends_with xs s ≡ true = and_from _ _ (lt-ltb 0 (length xs) some) (eq-eqb (get_or xs (length xs - 1) 0) s same) in
        let z : true ≡ false = sym yes_ ∙ e in let u : ⊥ = cc in u

-- ## Parts in ascending order

-- the part ends no later than at offset f of unit i of the stripe at position p
abbrev pub Near : ℕ → ℕ → ℕ → Part → Type 0
Near p i f a = (a.stripe < p) ⊎ ((a.stripe ≡ p) × ((a.unit < i) ⊎ ((a.unit ≡ i) × (a.from + a.count ≤ f))))

-- a part that begins at that offset goes behind them
pub record IsPutBehind (y : Shape) (xs ys : List Part) (p : Part) : Type 0 where
  pub touched : (s i o : ℕ) → is_touched ys s i o ≡ (is_touched xs s i o || part_has s i o p)
  pub ascend : AllPairs IsBefore ys
  pub within : (m n : ℕ) → m ≤ n → All (IsPart y m) xs → IsPart y n p → All (IsPart y n) ys
  pub few : length ys ≤ length xs + 1

-- the part has each of its own offsets
pub has-own : (a : Part) (o : ℕ) → a.from ≤ o → o < a.from + a.count → part_has a.stripe a.unit o a ≡ true
has-own a o low high = and_from _ _ (eq-eqb a.stripe a.stripe refl) (and_from _ _ (eq-eqb a.unit a.unit refl) (and_from _ _ (le-leb a.from o low) (lt-ltb o (a.from + a.count) high)))

-- and only those
pub has-only : (s i o : ℕ) (a : Part) → part_has s i o a ≡ true → (a.stripe ≡ s) × (a.unit ≡ i) × (a.from ≤ o) × (o < a.from + a.count)
has-only s i o a h =
    let one = and_parts (a.stripe == s) _ h in
    let two = and_parts (a.unit == i) _ one.1 in
    let three = and_parts (nat_le a.from o) (nat_lt o (a.from + a.count)) two.1 in
    (eqb-true a.stripe s one.0, eqb-true a.unit i two.0, leb-true a.from o three.0, ltb-true o (a.from + a.count) three.1)

pub wider : (y : Shape) (m n : ℕ) → m ≤ n → (a : Part) → IsPart y m a → IsPart y n a
wider y m n le a h = record { stripe = omega (arith, h.stripe, le); unit = h.unit; some = h.some; fits = h.fits }

pub only : (y : Shape) (n : ℕ) (p : Part) → IsPart y n p → All (IsPart y n) (p ∷ [])
only y n p own zero d h = own
only y n p own (suc k) d h = absurd (omega (arith, h))

or-false : (b : Bool) → (b || false) ≡ b
or-false true = refl
or-false false = refl

-- a part is the sum of two that follow one another
pub joins : (s i o : ℕ) (a p : Part) → meets a p ≡ true → part_has s i o (longer a p.count) ≡ (part_has s i o a || part_has s i o p)
joins s i o a p m =
    let one = and_parts (a.stripe == p.stripe) _ m in
    let two = and_parts (a.unit == p.unit) (a.from + a.count == p.from) one.1 in
    let es = eqb-true a.stripe p.stripe one.0 in
    let ei = eqb-true a.unit p.unit two.0 in
    let ef = eqb-true (a.from + a.count) p.from two.1 in
    both-ways _ _
    (λ h.
    let k = has-only s i o (longer a p.count) h in
    elim (cases_lt o p.from) [
      | inl l ↦ or-left _ _ (holds a s i o k.0 k.1 k.2 (omega (arith, l, ef)))
      | inr l ↦ or-right (part_has s i o a) (part_has s i o p) (holds p s i o (omega (arith, es, k.0)) (omega (arith, ei, k.1)) l (let q = k.3 in omega (arith, q, ef)))
    ])
    (λ h. elim (or-cases (part_has s i o a) (part_has s i o p) h) [
      | inl g ↦ let k = has-only s i o a g in holds (longer a p.count) s i o k.0 k.1 k.2 (let q = k.3 in omega (arith, q))
      | inr g ↦ let k = has-only s i o p g in holds (longer a p.count) s i o (omega (arith, es, k.0)) (omega (arith, ei, k.1)) (let q = k.2 in omega (arith, q, ef)) (let q = k.3 in omega (arith, q, ef))
    ])
  where
    holds : (b : Part) (s i o : ℕ) → b.stripe ≡ s → b.unit ≡ i → b.from ≤ o → o < b.from + b.count → part_has s i o b ≡ true
    holds b s i o es ei low high = and_from _ _ (eq-eqb b.stripe s es) (and_from _ _ (eq-eqb b.unit i ei) (and_from _ _ (le-leb b.from o low) (lt-ltb o (b.from + b.count) high)))

module _ (y : Shape) (xs : List Part) (p : Part) (up : AllPairs IsBefore xs) (some : 0 < p.count)
    (each : (k : ℕ) (d : Part) → k < length xs → 0 < (get_or xs k d).count) (near : (k : ℕ) (d : Part) → k < length xs → Near p.stripe p.unit p.from (get_or xs k d)) where
  last : Part
  last = get_or xs (length xs - 1) p

  -- the last part doesn't meet it
  module _ (apart : last_meets xs p ≡ false) where
    not-met : 0 < length xs → meets (get_or xs (length xs - 1) p) p ≡ true → ⊥
    not-met s m = let e : last_meets xs p ≡ true = and_from _ _ (lt-ltb 0 (length xs) s) m in let z : true ≡ false = sym e ∙ apart in let u : ⊥ = cc in u

    meets-at : (a : Part) → a.stripe ≡ p.stripe → a.unit ≡ p.unit → a.from + a.count ≡ p.from → meets a p ≡ true
    meets-at a s i f = and_from _ _ (eq-eqb a.stripe p.stripe s) (and_from _ _ (eq-eqb a.unit p.unit i) (eq-eqb (a.from + a.count) p.from f))

    -- so no part does
    short-of : (k : ℕ) (d : Part) → k < length xs → (get_or xs k d).stripe ≡ p.stripe → (get_or xs k d).unit ≡ p.unit → (get_or xs k d).from + (get_or xs k d).count ≤ p.from → (get_or xs k d).from + (get_or xs k d).count < p.from
    short-of k d h s i f = elim (cases_lt (k + 1) (length xs)) [
      | inl l ↦ go (get_or xs k d) (get_or xs (length xs - 1) d) s i f (up k (length xs - 1) d (omega (arith, l)) (omega (arith, l))) (near (length xs - 1) d (omega (arith, l))) (each (length xs - 1) d (omega (arith, l)))
      | inr l ↦
          let is : k ≡ length xs - 1 = omega (arith, h, l) in
          let a : get_or xs k d ≡ get_or xs (length xs - 1) p = ap (λ (j : ℕ). get_or xs j d) is ∙ get_or_default xs (length xs - 1) d p (omega (arith, h)) in
          elim (cases_lt ((get_or xs k d).from + (get_or xs k d).count) p.from) [
            | inl lt ↦ lt
            | inr ge ↦ absurd (not-met (omega (arith, h)) (subst (λ (z : Part). meets z p ≡ true) a (meets-at (get_or xs k d) s i (omega (arith, ge, f)))))
          ]
    ]
      where
        go : (a b : Part) → a.stripe ≡ p.stripe → a.unit ≡ p.unit → a.from + a.count ≤ p.from → IsBefore a b → Near p.stripe p.unit p.from b → 0 < b.count → a.from + a.count < p.from
        go a b s i f (inl less) (inl n) c = absurd (omega (arith, s, less, n))
        go a b s i f (inl less) (inr n) c = absurd (omega (arith, s, less, n.0))
        go a b s i f (inr (inl less)) (inl n) c = absurd (omega (arith, s, less.0, n))
        go a b s i f (inr (inl less)) (inr (n, inl m)) c = absurd (omega (arith, i, less.1, m))
        go a b s i f (inr (inl less)) (inr (n, inr m)) c = absurd (omega (arith, i, less.1, m.0))
        go a b s i f (inr (inr less)) (inl n) c = absurd (omega (arith, s, less.0.0, n))
        go a b s i f (inr (inr less)) (inr (n, inl m)) c = absurd (omega (arith, i, less.0.1, m))
        go a b s i f (inr (inr less)) (inr (n, inr m)) c = omega (arith, less.1, m.1, c)

    is-before : (a : Part) → Near p.stripe p.unit p.from a → (a.stripe ≡ p.stripe → a.unit ≡ p.unit → a.from + a.count ≤ p.from → a.from + a.count < p.from) → IsBefore a p
    is-before a (inl n) h = inl n
    is-before a (inr (n, inl m)) h = inr (inl (n, m))
    is-before a (inr (n, inr m)) h = inr (inr ((n, m.0), h n m.0 m.1))

    pushed : IsPutBehind y xs (xs ++ p ∷ []) p
    pushed = record {
      touched = λ s i o. list_any-append (part_has s i o) xs (p ∷ []) ∙ ap (λ (b : Bool). is_touched xs s i o || b) (or-false (part_has s i o p));
      ascend = all_pairs_push IsBefore xs p up (λ k d h. is-before (get_or xs k d) (near k d h) (short-of k d h));
      within = λ m n le all own. All-append (IsPart y n) xs (p ∷ []) (λ k d h. wider y m n le (get_or xs k d) (all k d h)) (only y n p own);
      few = omega (arith, length-append xs (p ∷ []));
    }

  -- the last part meets it
  module _ (m : last_meets xs p ≡ true) where
    some-part : 0 < length xs
    some-part = ltb-true 0 (length xs) (and_parts (nat_lt 0 (length xs)) (meets (get_or xs (length xs - 1) p) p) m).0

    met : meets (get_or xs (length xs - 1) p) p ≡ true
    met = (and_parts (nat_lt 0 (length xs)) (meets (get_or xs (length xs - 1) p) p) m).1

    front : List Part
    front = take (length xs - 1) xs

    parts-are : xs ≡ take (length xs - 1) xs ++ get_or xs (length xs - 1) p ∷ []
    parts-are =
        let s = some-part in
        let n : suc (length xs - 1) ≡ length xs = omega (arith, s) in
        sym (take_all (length xs) xs (omega arith)) ∙ (ap (λ (k : ℕ). take k xs) (sym n) ∙ take-suc xs (length xs - 1) p (omega (arith, s)))

    long : length (take (length xs - 1) xs) ≡ length xs - 1
    long = length-take-le (length xs - 1) xs (omega arith)

    taken : (k : ℕ) (d : Part) → k < length (take (length xs - 1) xs) → get_or (take (length xs - 1) xs) k d ≡ get_or xs k d
    taken k d h = get_or-take (length xs - 1) xs k d (omega (arith, h, long))

    grown : IsPutBehind y xs (take (length xs - 1) xs ++ longer (get_or xs (length xs - 1) p) p.count ∷ []) p
    grown = record {
      touched = λ s i o.
          let a = get_or xs (length xs - 1) p in
          let f = take (length xs - 1) xs in
          let one : is_touched xs s i o ≡ (is_touched f s i o || part_has s i o a) = ap (λ (l : List Part). is_touched l s i o) parts-are ∙ (list_any-append (part_has s i o) f (a ∷ []) ∙ ap (λ (b : Bool). is_touched f s i o || b) (or-false (part_has s i o a))) in
          list_any-append (part_has s i o) f (longer a p.count ∷ []) ∙ (ap (λ (b : Bool). is_touched f s i o || b) (or-false (part_has s i o (longer a p.count)) ∙ joins s i o a p met)
          ∙ (or-assoc (is_touched f s i o) (part_has s i o a) (part_has s i o p) ∙ ap (λ (b : Bool). b || part_has s i o p) (sym one)));
      ascend = all_pairs_push IsBefore (take (length xs - 1) xs) (longer (get_or xs (length xs - 1) p) p.count) pairs (λ k d h.
          let s = some-part in
          let l : k < length xs - 1 = omega (arith, h, long) in
          let e = up k (length xs - 1) p l (omega (arith, s)) in
          subst (λ (z : Part). IsBefore z (longer (get_or xs (length xs - 1) p) p.count)) (sym (taken k d h ∙ get_or_default xs k d p (omega (arith, l)))) (grows (get_or xs k p) (get_or xs (length xs - 1) p) e));
      within = λ m n le all own.
          let s = some-part in
          All-append (IsPart y n) (take (length xs - 1) xs) (longer (get_or xs (length xs - 1) p) p.count ∷ [])
          (λ k d h. let l : k < length xs = omega (arith, h, long) in subst (IsPart y n) (sym (taken k d h)) (wider y m n le (get_or xs k d) (all k d l)))
          (let l : length xs - 1 < length xs = omega (arith, s) in only y n (longer (get_or xs (length xs - 1) p) p.count) (fit m n le (get_or xs (length xs - 1) p) (all (length xs - 1) p l) own met));
      few = let s = some-part in let l = length-append (take (length xs - 1) xs) (longer (get_or xs (length xs - 1) p) p.count ∷ []) in omega (arith, s, long, l);
    }
      where
        or-assoc : (a b c : Bool) → (a || (b || c)) ≡ ((a || b) || c)
        or-assoc true b c = refl
        or-assoc false b c = refl

        pairs : AllPairs IsBefore (take (length xs - 1) xs)
        pairs i j d l h =
            let hi : i < length (take (length xs - 1) xs) = omega (arith, l, h) in
            let e = up i j d l (omega (arith, h, long)) in
            subst (λ (z : Part). IsBefore z (get_or (take (length xs - 1) xs) j d)) (sym (taken i d hi)) (subst (λ (z : Part). IsBefore (get_or xs i d) z) (sym (taken j d h)) e)

        grows : (a b : Part) → IsBefore a b → IsBefore a (longer b p.count)
        grows a b (inl h) = inl h
        grows a b (inr (inl h)) = inr (inl h)
        grows a b (inr (inr h)) = inr (inr h)

        fit : (m n : ℕ) → m ≤ n → (a : Part) → IsPart y m a → IsPart y n p → meets a p ≡ true → IsPart y n (longer a p.count)
        fit m n le a h own e =
            let one = and_parts (a.stripe == p.stripe) _ e in
            let two = and_parts (a.unit == p.unit) (a.from + a.count == p.from) one.1 in
            let ef = eqb-true (a.from + a.count) p.from two.1 in
            let hs = h.stripe in let hc = h.some in let of = own.fits in
            record { stripe = omega (arith, hs, le); unit = h.unit; some = omega (arith, hc); fits = omega (arith, ef, of) }

  -- either way it goes behind them
  pub put-behind : IsPutBehind y xs (with_part xs p) p
  put-behind = elim (cases_Bool (last_meets xs p)) [
    | inl m ↦ subst (λ (ys : List Part). IsPutBehind y xs ys p) (sym (cond-true (last_meets xs p) _ _ m)) (grown m)
    | inr m ↦ subst (λ (ys : List Part). IsPutBehind y xs ys p) (sym (cond-false (last_meets xs p) _ _ m)) (pushed m)
  ]

-- the last part of a list that is changed in its place
pub set-last : (xs : List Part) (p : Part) → last_meets xs p ≡ true → slice_set xs (length xs - 1) (longer (get_or xs (length xs - 1) p) p.count) ≡ with_part xs p
set-last xs p m =
    let some = ltb-true 0 (length xs) (and_parts (nat_lt 0 (length xs)) (meets (get_or xs (length xs - 1) p) p) m).0 in
    let a = longer (get_or xs (length xs - 1) p) p.count in
    let n : suc (length xs - 1) ≡ length xs = omega (arith, some) in
    let long = length-set xs (length xs - 1) a in
    let l : length xs - 1 < length xs = omega (arith, some) in
    sym (take_all (length xs) (slice_set xs (length xs - 1) a) (omega (arith, long))) ∙ (ap (λ (k : ℕ). take k (slice_set xs (length xs - 1) a)) (sym n) ∙ (take-suc-set xs (length xs - 1) a l ∙ sym (cond-true (last_meets xs p) _ _ m)))

-- the same as the code has it
pub last-put : (xs : List Part) (p a b : Part) (n : ℕ) → n ≡ length xs → 0 < n → a ≡ get_or xs (n - 1) a → meets a p ≡ true → b ≡ get_or xs (n - 1) b → slice_set xs (n - 1) (longer b p.count) ≡ with_part xs p
last-put xs p a b n is some a-is m b-is =
    let at : n - 1 ≡ length xs - 1 = omega (arith, is) in
    let l : n - 1 < length xs = omega (arith, is, some) in
    let la : a ≡ get_or xs (length xs - 1) p = a-is ∙ (get_or_default xs (n - 1) a p l ∙ ap (λ (k : ℕ). get_or xs k p) at) in
    let lb : b ≡ get_or xs (length xs - 1) p = b-is ∙ (get_or_default xs (n - 1) b p l ∙ ap (λ (k : ℕ). get_or xs k p) at) in
    let e : last_meets xs p ≡ true = and_from _ _ (lt-ltb 0 (length xs) (omega (arith, is, some))) (subst (λ (z : Part). meets z p ≡ true) la m) in
    ap (λ (k : ℕ). slice_set xs k (longer b p.count)) at ∙ (ap (λ (z : Part). slice_set xs (length xs - 1) (longer z p.count)) lb ∙ set-last xs p e)
