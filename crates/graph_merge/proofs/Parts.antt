-- Ascending numbers are settled by which they are, and ascending parts by the sectors that they have.
use Rattle.std.proofs.Common.{◌≡◌, ◌⊎◌, ◌∙◌, inl, inr, ℕ, zero, suc, ◌+◌, ◌<◌, ◌≤◌, ◌==◌, ◌&&◌, ◌||◌, nat_le, nat_lt, Bool, true, false, List, [], ◌∷◌, length, get_or, refl, sym, ap, subst, arith}
use Rattle.std.specs.Prelude.{AllPairs, Contains}
use Rattle.std.proofs.lemmas.Bool.{cases_Bool, cases_lt, true≢false, and_parts, and_from, eqb-true, eq-eqb, leb-true, le-leb, ltb-true, lt-ltb}
use Rattle.std.proofs.lemmas.List.Folds.{Any-from_list_any, list_any_at}
use Rattle.lay_core.specs.declared.place.Part.{Part}
use Rattle.lay_core.specs.Touched.{IsBefore, part_has, is_touched}

module _ {X : Type 0} where
  -- an element of a list is its first or one of the others
  contains_cases : (x : X) (xs : List X) (z : X) → Contains (x ∷ xs) z → (x ≡ z) ⊎ Contains xs z
  contains_cases x xs z h = go h.0 h.1 h.2
    where
      go : (k : ℕ) → k < length (x ∷ xs) → get_or (x ∷ xs) k z ≡ z → (x ≡ z) ⊎ Contains xs z
      go zero l e = inl e
      go (suc k) l e = inr (k, omega arith, e)

  contains_first : (x : X) (xs : List X) → Contains (x ∷ xs) x
  contains_first x xs = (0, omega arith, refl)

  contains_later : (x : X) (xs : List X) (z : X) → Contains xs z → Contains (x ∷ xs) z
  contains_later x xs z h = (suc h.0, (let l = h.1 in omega arith), h.2)

  pairs_first : (R : X → X → Type 0) (x : X) (xs : List X) → AllPairs R (x ∷ xs) → (z : X) → Contains xs z → R x z
  pairs_first R x xs h z has = subst (R x) has.2 (h 0 (suc has.0) z (omega arith) (let l = has.1 in omega arith))

  pairs_later : (R : X → X → Type 0) (x : X) (xs : List X) → AllPairs R (x ∷ xs) → AllPairs R xs
  pairs_later R x xs h i j d less within = h (suc i) (suc j) d (omega arith) (omega arith)

  no_elements : (z : X) → Contains {X = X} [] z → ⊥
  no_elements z h = let l : h.0 < 0 = h.1 in omega arith

module _ (x : ℕ) (xs : List ℕ) (y : ℕ) (ys : List ℕ) (up : AllPairs (λ p q. p < q) (x ∷ xs)) (up' : AllPairs (λ p q. p < q) (y ∷ ys))
    (to : (z : ℕ) → Contains (x ∷ xs) z → Contains (y ∷ ys) z) (from : (z : ℕ) → Contains (y ∷ ys) z → Contains (x ∷ xs) z) where
  first_same : x ≡ y
  first_same = elim (contains_cases y ys x (to x (contains_first x xs))) [
    | inl is ↦ sym is
    | inr later ↦ elim (contains_cases x xs y (from y (contains_first y ys))) [
      | inl is ↦ is
      | inr later' ↦ let a : y < x = pairs_first (λ p q. p < q) y ys up' x later in let b : x < y = pairs_first (λ p q. p < q) x xs up y later' in absurd (omega arith)
    ]
  ]

  to_rest : (z : ℕ) → Contains xs z → Contains ys z
  to_rest z has = elim (contains_cases y ys z (to z (contains_later x xs z has))) [
    | inl is ↦ let a : x < z = pairs_first (λ p q. p < q) x xs up z has in let e = first_same in absurd (omega arith)
    | inr later ↦ later
  ]

  from_rest : (z : ℕ) → Contains ys z → Contains xs z
  from_rest z has = elim (contains_cases x xs z (from z (contains_later y ys z has))) [
    | inl is ↦ let a : y < z = pairs_first (λ p q. p < q) y ys up' z has in let e = first_same in absurd (omega arith)
    | inr later ↦ later
  ]

-- two ascending lists of the same numbers are one
pub same_numbers : (xs ys : List ℕ) → AllPairs (λ x y. x < y) xs → AllPairs (λ x y. x < y) ys → ((z : ℕ) → Contains xs z → Contains ys z) → ((z : ℕ) → Contains ys z → Contains xs z) → xs ≡ ys
same_numbers [] [] up up' to from = refl
same_numbers [] (y ∷ ys) up up' to from = absurd (no_elements y (from y (contains_first y ys)))
same_numbers (x ∷ xs) [] up up' to from = absurd (no_elements x (to x (contains_first x xs)))
same_numbers (x ∷ xs) (y ∷ ys) up up' to from =
    ap (λ (z : ℕ). z ∷ xs) (first_same x xs y ys up up' to from)
    ∙ ap (λ (zs : List ℕ). y ∷ zs) (same_numbers xs ys (pairs_later (λ p q. p < q) x xs up) (pairs_later (λ p q. p < q) y ys up') (to_rest x xs y ys up up' to from) (from_rest x xs y ys up up' to from))

-- ## Parts

-- the part has this sector
pub record Has (p i o : ℕ) (x : Part) : Type 0 where
  pub stripe : x.stripe ≡ p
  pub unit : x.unit ≡ i
  pub least : x.from ≤ o
  pub most : o < x.from + x.count

has_in : (p i o : ℕ) (x : Part) → part_has p i o x ≡ true → Has p i o x
has_in p i o x h =
    let a = and_parts (x.stripe == p) ((x.unit == i) && (nat_le x.from o && nat_lt o (x.from + x.count))) h in
    let b = and_parts (x.unit == i) (nat_le x.from o && nat_lt o (x.from + x.count)) a.1 in
    let d = and_parts (nat_le x.from o) (nat_lt o (x.from + x.count)) b.1 in
    record { stripe = eqb-true x.stripe p a.0; unit = eqb-true x.unit i b.0; least = leb-true x.from o d.0; most = ltb-true o (x.from + x.count) d.1 }

has_out : (p i o : ℕ) (x : Part) → Has p i o x → part_has p i o x ≡ true
has_out p i o x h = and_from (x.stripe == p) _ (eq-eqb x.stripe p h.stripe) (and_from (x.unit == i) _ (eq-eqb x.unit i h.unit) (and_from (nat_le x.from o) _ (le-leb x.from o h.least) (lt-ltb o (x.from + x.count) h.most)))

-- a touched sector is of one of the parts
pub touched_in : (p i o : ℕ) (xs : List Part) → is_touched xs p i o ≡ true → (x : Part) × Contains xs x × Has p i o x
touched_in p i o xs h = let w = Any-from_list_any (part_has p i o) xs h in (w.1, (w.0, w.2, w.3), has_in p i o w.1 w.4)

touched_out : (p i o : ℕ) (xs : List Part) (x : Part) → Contains xs x → Has p i o x → is_touched xs p i o ≡ true
touched_out p i o xs x has h = list_any_at (part_has p i o) xs has.0 x has.1 (subst (λ (y : Part). part_has p i o y ≡ true) (sym has.2) (has_out p i o x h))

-- the sector at which a part begins is no later than this one
abbrev Begins : Part → ℕ → ℕ → ℕ → Type 0
Begins x p i o = (x.stripe < p) ⊎ (((x.stripe ≡ p) × (x.unit < i)) ⊎ ((x.stripe ≡ p) × (x.unit ≡ i) × (x.from ≤ o)))

begins_own : (p i o : ℕ) (x : Part) → Has p i o x → Begins x p i o
begins_own p i o x h = inr (inr (h.stripe, h.unit, h.least))

begins_before : (p i o : ℕ) (x z : Part) → IsBefore x z → Has p i o z → Begins x p i o
begins_before p i o x z (inl l) h = inl (let s = h.stripe in omega arith)
begins_before p i o x z (inr (inl l)) h = inr (inl ((let s = h.stripe in let e = l.0 in omega arith), (let u = h.unit in let m = l.1 in omega arith)))
begins_before p i o x z (inr (inr l)) h = inr (inr ((let s = h.stripe in let e = l.0.0 in omega arith), (let u = h.unit in let e = l.0.1 in omega arith), (let f = l.1 in let g = h.least in omega arith)))

-- no later part has a sector of this one
apart : (p i o : ℕ) (x z : Part) → IsBefore x z → Has p i o x → Has p i o z → ⊥
apart p i o x z (inl l) h g = let a = h.stripe in let b = g.stripe in omega arith
apart p i o x z (inr (inl l)) h g = let a = h.unit in let b = g.unit in let m = l.1 in omega arith
apart p i o x z (inr (inr l)) h g = let m = l.1 in let a = h.most in let b = g.least in omega arith

-- nor has it the sector behind this one
gap : (x z : Part) → IsBefore x z → Has x.stripe x.unit (x.from + x.count) z → ⊥
gap x z (inl l) g = let b = g.stripe in omega arith
gap x z (inr (inl l)) g = let b = g.unit in let m = l.1 in omega arith
gap x z (inr (inr l)) g = let m = l.1 in let b = g.least in omega arith

-- each part has a sector
abbrev pub HaveSome : List Part → Type 0
HaveSome xs = (z : Part) → Contains xs z → 0 < z.count

have_later : (x : Part) (xs : List Part) → HaveSome (x ∷ xs) → HaveSome xs
have_later x xs h z has = h z (contains_later x xs z has)

-- they have the same sectors
abbrev pub AreSame : List Part → List Part → Type 0
AreSame xs ys = (p i o : ℕ) → is_touched xs p i o ≡ is_touched ys p i o

module _ (x : Part) (xs : List Part) (up : AllPairs IsBefore (x ∷ xs)) (some : HaveSome (x ∷ xs)) where
  own : Has x.stripe x.unit x.from x
  own = record { stripe = refl; unit = refl; least = omega arith; most = (let s = some x (contains_first x xs) in omega arith) }

  touched_first : is_touched (x ∷ xs) x.stripe x.unit x.from ≡ true
  touched_first = touched_out x.stripe x.unit x.from (x ∷ xs) x (contains_first x xs) own

  -- no sector comes before the first part's first
  begins_first : (p i o : ℕ) → is_touched (x ∷ xs) p i o ≡ true → Begins x p i o
  begins_first p i o h =
      let w = touched_in p i o (x ∷ xs) h in
      elim (contains_cases x xs w.0 w.1) [
        | inl is ↦ begins_own p i o x (subst (Has p i o) (sym is) w.2)
        | inr later ↦ begins_before p i o x w.0 (pairs_first IsBefore x xs up w.0 later) w.2
      ]

  -- the sector behind the first part isn't touched
  behind : is_touched (x ∷ xs) x.stripe x.unit (x.from + x.count) ≡ true → ⊥
  behind h =
      let w = touched_in x.stripe x.unit (x.from + x.count) (x ∷ xs) h in
      elim (contains_cases x xs w.0 w.1) [
        | inl is ↦ let z = subst (Has x.stripe x.unit (x.from + x.count)) (sym is) w.2 in let m = z.most in omega arith
        | inr later ↦ gap x w.0 (pairs_first IsBefore x xs up w.0 later) w.2
      ]

  -- what the first part has no other has
  none_later : (p i o : ℕ) → part_has p i o x ≡ true → is_touched xs p i o ≡ false
  none_later p i o h = elim (cases_Bool (is_touched xs p i o)) [
    | inl t ↦ let w = touched_in p i o xs t in absurd (apart p i o x w.0 (pairs_first IsBefore x xs up w.0 w.1) (has_in p i o x h) w.2)
    | inr f ↦ f
  ]

-- two parts that begin no later than each other begin at one sector
same_begin : (x y : Part) → Begins x y.stripe y.unit y.from → Begins y x.stripe x.unit x.from → (x.stripe ≡ y.stripe) × (x.unit ≡ y.unit) × (x.from ≡ y.from)
same_begin x y (inl l) (inl m) = absurd (omega arith)
same_begin x y (inl l) (inr (inl m)) = let e = m.0 in absurd (omega arith)
same_begin x y (inl l) (inr (inr m)) = let e = m.0 in absurd (omega arith)
same_begin x y (inr (inl l)) (inl m) = let e = l.0 in absurd (omega arith)
same_begin x y (inr (inl l)) (inr (inl m)) = let e = l.1 in let f = m.1 in absurd (omega arith)
same_begin x y (inr (inl l)) (inr (inr m)) = let e = l.1 in let f = m.1 in absurd (omega arith)
same_begin x y (inr (inr l)) (inl m) = let e = l.0 in absurd (omega arith)
same_begin x y (inr (inr l)) (inr (inl m)) = let e = l.1 in let f = m.1 in absurd (omega arith)
same_begin x y (inr (inr l)) (inr (inr m)) = (l.0, l.1, (let e = l.2 in let f = m.2 in omega arith))

part_is : (x y : Part) → x.stripe ≡ y.stripe → x.unit ≡ y.unit → x.from ≡ y.from → x.count ≡ y.count → x ≡ y
part_is x y s u f c = λ i. record { stripe = s i; unit = u i; from = f i; count = c i }

-- the first of one list isn't shorter than that of another with the same sectors
no_shorter : (x : Part) (xs : List Part) (y : Part) (ys : List Part) → AllPairs IsBefore (x ∷ xs) → HaveSome (x ∷ xs) → AreSame (x ∷ xs) (y ∷ ys) → (x.stripe ≡ y.stripe) × (x.unit ≡ y.unit) × (x.from ≡ y.from) → x.count < y.count → ⊥
no_shorter x xs y ys up some same begin less =
    let has : Has x.stripe x.unit (x.from + x.count) y = record { stripe = sym begin.0; unit = sym begin.1; least = (let f = begin.2 in omega arith); most = (let f = begin.2 in omega arith) } in
    behind x xs up some (same x.stripe x.unit (x.from + x.count) ∙ touched_out x.stripe x.unit (x.from + x.count) (y ∷ ys) y (contains_first y ys) has)

module _ (x : Part) (xs : List Part) (y : Part) (ys : List Part) (up : AllPairs IsBefore (x ∷ xs)) (up' : AllPairs IsBefore (y ∷ ys))
    (some : HaveSome (x ∷ xs)) (some' : HaveSome (y ∷ ys)) (same : AreSame (x ∷ xs) (y ∷ ys)) where
  begin : (x.stripe ≡ y.stripe) × (x.unit ≡ y.unit) × (x.from ≡ y.from)
  begin = same_begin x y (begins_first x xs up some y.stripe y.unit y.from (same y.stripe y.unit y.from ∙ touched_first y ys up' some')) (begins_first y ys up' some' x.stripe x.unit x.from (sym (same x.stripe x.unit x.from) ∙ touched_first x xs up some))

  count : x.count ≡ y.count
  count = elim (cases_lt x.count y.count) [
    | inl less ↦ absurd (no_shorter x xs y ys up some same begin less)
    | inr most ↦ elim (cases_lt y.count x.count) [
      | inl less ↦ absurd (no_shorter y ys x xs up' some' (λ p i o. sym (same p i o)) (sym begin.0, sym begin.1, sym begin.2) less)
      | inr least ↦ omega arith
    ]
  ]

  first_part : x ≡ y
  first_part = part_is x y begin.0 begin.1 begin.2 count

  rest_same : AreSame xs ys
  rest_same p i o = elim (cases_Bool (part_has p i o x)) [
    | inl t ↦ none_later x xs up some p i o t ∙ sym (none_later y ys up' some' p i o (subst (λ (z : Part). part_has p i o z ≡ true) first_part t))
    | inr f ↦
        let f' : part_has p i o y ≡ false = subst (λ (z : Part). part_has p i o z ≡ false) first_part f in
        sym (ap (λ (b : Bool). b || is_touched xs p i o) f) ∙ (same p i o ∙ ap (λ (b : Bool). b || is_touched ys p i o) f')
  ]

-- two ascending lists of parts with the same sectors are one
pub same_parts : (xs ys : List Part) → AllPairs IsBefore xs → AllPairs IsBefore ys → HaveSome xs → HaveSome ys → AreSame xs ys → xs ≡ ys
same_parts [] [] up up' some some' same = refl
same_parts [] (y ∷ ys) up up' some some' same = absurd (true≢false (sym (touched_first y ys up' some') ∙ sym (same y.stripe y.unit y.from)))
same_parts (x ∷ xs) [] up up' some some' same = absurd (true≢false (sym (touched_first x xs up some) ∙ same x.stripe x.unit x.from))
same_parts (x ∷ xs) (y ∷ ys) up up' some some' same =
    ap (λ (z : Part). z ∷ xs) (first_part x xs y ys up up' some some' same)
    ∙ ap (λ (zs : List Part). y ∷ zs) (same_parts xs ys (pairs_later IsBefore x xs up) (pairs_later IsBefore y ys up') (have_later x xs some) (have_later y ys some') (rest_same x xs y ys up up' some some' same))
