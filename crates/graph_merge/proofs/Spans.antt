-- Two spans, of which the one ends in a stripe below that in which the other begins, are split one after the other.
use Rattle.std.proofs.Common.{◌≡◌, ◌⊎◌, ◌∙◌, inl, inr, ℕ, ◌+◌, ◌-◌, ◌<◌, ◌≤◌, ◌/◌, ◌||◌, nat_le, nat_lt, Bool, true, false, List, [], ◌∷◌, ◌++◌, Option, None, length, map, get_or, refl, sym, ap, subst, arith, length-append}
use Rattle.std.specs.Prelude.{All, AllPairs, Contains, ◌↔◌}
use Rattle.std.specs.List.Sorted.{IsStrictlyIncreasing}
use Rattle.std.proofs.lemmas.Bool.{cases_Bool, cases_lt, true≢false, and_parts, or_left, or_right, leb-true, ltb-true, lt-ltb, le-ltb, cond-true, cond-false}
use Rattle.std.proofs.lemmas.List.{get_or_append_left, get_or-append_right, get_or-map, length-map}
use Rattle.std.proofs.lemmas.List.Elements.{All-append, All-contains, Contains-append_left, Contains-append_right, Contains-append_cases, Contains-get_or}
use Rattle.std.proofs.lemmas.List.Kept.{AllPairs-from_increasing}
use Rattle.blk_plain.specs.declared.op.Span.{Span}
use Rattle.blk_plain.specs.Plain.{is_in, is_in_some}
use Rattle.lay_core.specs.declared.place.Part.{Part}
use Rattle.lay_core.specs.Layout.{Shape, IsLayout, data_units, block_of, stripe_of}
use Rattle.lay_core.specs.Touched.{Touched, IsPart, IsBefore, IsSplit, IsSpanSplit, IsJointSplit, HasBlock, is_touched}
use Rattle.lay_core.proofs.Numbering.{stripe_of-block_of}
use Rattle.lay_core.proofs.Quotients.{div-le-div}
use Rattle.graph_mean.specs.declared.task.Kind.{Kind}
use Rattle.graph_mean.specs.Task.{Aim, task_of, missing_of}
use Rattle.graph_merge.specs.Tasks.{AreInTurn, followed, map_followed, missing_followed, moved_part}
use Rattle.graph_merge.proofs.Tasks.{touched_first, touched_second}
use Rattle.graph_merge.proofs.Parts.{same_numbers, same_parts, HaveSome, AreSame, touched_in}

-- ## One test has one split

module _ (y : Shape) (test : ℕ → Bool) (a b : Touched) (sa : IsSplit y test a) (sb : IsSplit y test b) where
  to_other : (s : ℕ) → Contains a.stripes s → Contains b.stripes s
  to_other s has =
      let below = All-contains (λ i. i < y.stripes) a.stripes s sa.stripes_within has in
      (sb.stripes_touched s below).1 ((sa.stripes_touched s below).0 has)

have_some : (y : Shape) (n : ℕ) (xs : List Part) → All (IsPart y n) xs → HaveSome xs
have_some y n xs all z has = (All-contains (IsPart y n) xs z all has).some

module _ (y : Shape) (test : ℕ → Bool) (a b : Touched) (sa : IsSplit y test a) (sb : IsSplit y test b) where
  same_stripes : a.stripes ≡ b.stripes
  same_stripes = same_numbers a.stripes b.stripes (AllPairs-from_increasing a.stripes sa.stripes_ascend) (AllPairs-from_increasing b.stripes sb.stripes_ascend) (to_other y test a b sa sb) (to_other y test b a sb sa)

  -- a touched sector of the one is one of the other
  touched_too : (p i o : ℕ) → is_touched a.parts p i o ≡ true → is_touched b.parts p i o ≡ true
  touched_too p i o h =
      let w = touched_in p i o a.parts h in
      let within = All-contains (IsPart y (length a.stripes)) a.parts w.0 sa.parts_within w.1 in
      let has = w.2 in
      let p_in : p < length a.stripes = (let s = within.stripe in let e = has.stripe in omega arith) in
      let i_in : i < data_units y = (let u = within.unit in let e = has.unit in omega arith) in
      let o_in : o < y.unit_sectors = (let f = within.fits in let m = has.most in omega arith) in
      let p_in' : p < length b.stripes = subst (λ (xs : List ℕ). p < length xs) same_stripes p_in in
      sb.parts_touched p i o p_in' i_in o_in
      ∙ (ap (λ (xs : List ℕ). test (block_of y (get_or xs p 0) i o)) (sym same_stripes)
      ∙ (sym (sa.parts_touched p i o p_in i_in o_in) ∙ h))

pub one_split : (y : Shape) (test : ℕ → Bool) (a b : Touched) → IsSplit y test a → IsSplit y test b → a ≡ b
one_split y test a b sa sb = pair a b (same_stripes y test a b sa sb) (same_parts a.parts b.parts sa.parts_ascend sb.parts_ascend (have_some y (length a.stripes) a.parts sa.parts_within) (have_some y (length b.stripes) b.parts sb.parts_within) alike)
  where
    pair : (c d : Touched) → c.stripes ≡ d.stripes → c.parts ≡ d.parts → c ≡ d
    pair c d s p = λ i. record { stripes = s i; parts = p i }

    alike : AreSame a.parts b.parts
    alike p i o = elim (cases_Bool (is_touched a.parts p i o)) [
      | inl t ↦ t ∙ sym (touched_too y test a b sa sb p i o t)
      | inr f ↦ elim (cases_Bool (is_touched b.parts p i o)) [
        | inl t ↦ absurd (true≢false (sym (touched_too y test b a sb sa p i o t) ∙ f))
        | inr g ↦ f ∙ sym g
      ]
    ]

-- ## Lists

module _ {X : Type 0} (R : X → X → Type 0) (xs ys : List X) where
  pairs_append : AllPairs R xs → AllPairs R ys → ((x y : X) → Contains xs x → Contains ys y → R x y) → AllPairs R (xs ++ ys)
  pairs_append one two across i j d less within = elim (cases_lt j (length xs)) [
    | inl jl ↦ subst (λ (z : X). R z (get_or (xs ++ ys) j d)) (sym (get_or_append_left xs ys d i (omega arith))) (subst (R (get_or xs i d)) (sym (get_or_append_left xs ys d j jl)) (one i j d less jl))
    | inr jg ↦
        let total : length (xs ++ ys) ≡ length xs + length ys = length-append xs ys in
        let right = get_or-append_right xs ys (length xs) j d refl jg in
        elim (cases_lt i (length xs)) [
          | inl il ↦ subst (λ (z : X). R z (get_or (xs ++ ys) j d)) (sym (get_or_append_left xs ys d i il)) (subst (R (get_or xs i d)) (sym right) (across _ _ (Contains-get_or xs i d il) (Contains-get_or ys (j - length xs) d (omega arith))))
          | inr ig ↦ subst (λ (z : X). R z (get_or (xs ++ ys) j d)) (sym (get_or-append_right xs ys (length xs) i d refl ig)) (subst (R (get_or ys (i - length xs) d)) (sym right) (two (i - length xs) (j - length xs) d (omega arith) (omega arith)))
        ]
  ]

-- an element that is moved was one
moved_contains : (n : ℕ) (xs : List Part) (z : Part) → Contains (map (moved_part n) xs) z → (x : Part) × Contains xs x × (z ≡ moved_part n x)
moved_contains n xs z h =
    let l : length (map (moved_part n) xs) ≡ length xs = length-map xs (moved_part n) in
    let w : h.0 < length xs = (let v = h.1 in omega arith) in
    (get_or xs h.0 z, Contains-get_or xs h.0 z w, sym h.2 ∙ get_or-map (moved_part n) xs h.0 z z w)

moved_before : (n : ℕ) (x z : Part) → IsBefore x z → IsBefore (moved_part n x) (moved_part n z)
moved_before n x z (inl l) = inl (omega arith)
moved_before n x z (inr (inl l)) = inr (inl (ap (λ (s : ℕ). s + n) l.0, l.1))
moved_before n x z (inr (inr l)) = inr (inr ((ap (λ (s : ℕ). s + n) l.0.0, l.0.1), l.1))

moved_ascend : (n : ℕ) (xs : List Part) → AllPairs IsBefore xs → AllPairs IsBefore (map (moved_part n) xs)
moved_ascend n xs up i j d less within =
    let l : length (map (moved_part n) xs) ≡ length xs = length-map xs (moved_part n) in
    subst (λ (z : Part). IsBefore z (get_or (map (moved_part n) xs) j d)) (sym (get_or-map (moved_part n) xs i d d (omega arith)))
    (subst (IsBefore (moved_part n (get_or xs i d))) (sym (get_or-map (moved_part n) xs j d d (omega arith))) (moved_before n (get_or xs i d) (get_or xs j d) (up i j d less (omega arith))))

-- ## The two spans

module _ (y : Shape) (law : IsLayout y) (p q : Span) (turn : AreInTurn y p q) (a b : Touched) (sa : IsSpanSplit y p a) (sb : IsSpanSplit y q b) where
  abbrev some : ℕ → Bool
  some = is_in_some (p ∷ q ∷ [])

  units : 0 < data_units y
  units = let l = law.checks_below in omega arith

  -- a block that comes later is of no lower stripe
  up : (x z : ℕ) → x ≤ z → stripe_of y x ≤ stripe_of y z
  up x z h = div-le-div (x / y.unit_sectors) (z / y.unit_sectors) (data_units y) units (div-le-div x z y.unit_sectors law.unit_least h)

  -- the stripes of the first span and of the second
  first_high : (k : ℕ) → k < length a.stripes → get_or a.stripes k 0 ≤ stripe_of y (p.first + p.count - 1)
  first_high k h = let at = sa.stripes_follow k h in let many = sa.stripes_many in omega arith

  second_low : (k : ℕ) → k < length b.stripes → stripe_of y q.first ≤ get_or b.stripes k 0
  second_low k h = let at = sb.stripes_follow k h in omega arith

  not_second : (x : ℕ) → stripe_of y x < stripe_of y q.first → is_in q x ≡ false
  not_second x h = elim (cases_Bool (is_in q x)) [
    | inl t ↦ let l = leb-true q.first x (and_parts (nat_le q.first x) (nat_lt x (q.first + q.count)) t).0 in let m = up q.first x l in absurd (omega arith)
    | inr f ↦ f
  ]

  not_first : (x : ℕ) → stripe_of y (p.first + p.count - 1) < stripe_of y x → is_in p x ≡ false
  not_first x h = elim (cases_Bool (is_in p x)) [
    | inl t ↦ let l = ltb-true x (p.first + p.count) (and_parts (nat_le p.first x) (nat_lt x (p.first + p.count)) t).1 in let m = up x (p.first + p.count - 1) (omega arith) in absurd (omega arith)
    | inr f ↦ f
  ]

  some_first : (x : ℕ) → is_in q x ≡ false → some x ≡ is_in p x
  some_first x h = ap (λ (t : Bool). is_in p x || (t || false)) h ∙ or_false (is_in p x)
    where
      or_false : (t : Bool) → (t || (false || false)) ≡ t
      or_false true = refl
      or_false false = refl

  some_second : (x : ℕ) → is_in p x ≡ false → some x ≡ is_in q x
  some_second x h = ap (λ (t : Bool). t || (is_in q x || false)) h ∙ or_false (is_in q x)
    where
      or_false : (t : Bool) → (false || (t || false)) ≡ t
      or_false true = refl
      or_false false = refl

  some_cases : (x : ℕ) → some x ≡ true → (is_in p x ≡ true) ⊎ (is_in q x ≡ true)
  some_cases x h = elim (cases_Bool (is_in p x)) [
    | inl t ↦ inl t
    | inr f ↦ inr (sym (some_second x f) ∙ h)
  ]

  some_left : (x : ℕ) → is_in p x ≡ true → some x ≡ true
  some_left x h = or_left (is_in p x) (is_in q x || false) h

  some_right : (x : ℕ) → is_in q x ≡ true → some x ≡ true
  some_right x h = or_right (is_in p x) (is_in q x || false) (or_left (is_in q x) false h)

  total : length (a.stripes ++ b.stripes) ≡ length a.stripes + length b.stripes
  total = length-append a.stripes b.stripes

  at_first : (k : ℕ) → k < length a.stripes → get_or (a.stripes ++ b.stripes) k 0 ≡ get_or a.stripes k 0
  at_first k h = get_or_append_left a.stripes b.stripes 0 k h

  at_second : (k : ℕ) → length a.stripes ≤ k → get_or (a.stripes ++ b.stripes) k 0 ≡ get_or b.stripes (k - length a.stripes) 0
  at_second k h = get_or-append_right a.stripes b.stripes (length a.stripes) k 0 refl h

  stripes_ascend : IsStrictlyIncreasing (a.stripes ++ b.stripes)
  stripes_ascend k h =
      let all = total in
      elim (cases_lt (k + 1) (length a.stripes)) [
        | inl l ↦ let x = at_first k (omega arith) in let z = at_first (k + 1) l in let m = sa.split.stripes_ascend k l in omega arith
        | inr g ↦ let z = at_second (k + 1) g in elim (cases_lt k (length a.stripes)) [
          | inl l ↦ let x = at_first k l in let low = first_high k l in let high = second_low (k + 1 - length a.stripes) (omega arith) in let apart = turn.apart in omega arith
          | inr m ↦
              let x = at_second k m in
              let next : k + 1 - length a.stripes ≡ k - length a.stripes + 1 = omega arith in
              let same = ap (λ (i : ℕ). get_or b.stripes i 0) next in
              let less = sb.split.stripes_ascend (k - length a.stripes) (omega arith) in
              omega arith
        ]
      ]

  stripes_touched : (s : ℕ) → s < y.stripes → Contains (a.stripes ++ b.stripes) s ↔ HasBlock y some s
  stripes_touched s h = (
    λ has. elim (Contains-append_cases a.stripes b.stripes s has) [
      | inl l ↦ let w = (sa.split.stripes_touched s h).0 l in (w.0, w.1, w.2, w.3, some_left (block_of y s w.0 w.1) w.4)
      | inr r ↦ let w = (sb.split.stripes_touched s h).0 r in (w.0, w.1, w.2, w.3, some_right (block_of y s w.0 w.1) w.4)
    ],
    λ w. elim (some_cases (block_of y s w.0 w.1) w.4) [
      | inl l ↦ Contains-append_left a.stripes b.stripes s ((sa.split.stripes_touched s h).1 (w.0, w.1, w.2, w.3, l))
      | inr r ↦ Contains-append_right a.stripes b.stripes s ((sb.split.stripes_touched s h).1 (w.0, w.1, w.2, w.3, r))
    ],
  )

  first_below : All (λ x. x.stripe < length a.stripes) a.parts
  first_below k d h = (sa.split.parts_within k d h).stripe

  parts_ascend : AllPairs IsBefore (a.parts ++ map (moved_part (length a.stripes)) b.parts)
  parts_ascend = pairs_append IsBefore a.parts (map (moved_part (length a.stripes)) b.parts) sa.split.parts_ascend (moved_ascend (length a.stripes) b.parts sb.split.parts_ascend)
      (λ x z hx hz.
      let low = All-contains (λ v. v.stripe < length a.stripes) a.parts x first_below hx in
      let was = moved_contains (length a.stripes) b.parts z hz in
      inl (subst (λ (v : Part). x.stripe < v.stripe) (sym was.2) (omega arith)))

  parts_within : All (IsPart y (length (a.stripes ++ b.stripes))) (a.parts ++ map (moved_part (length a.stripes)) b.parts)
  parts_within = All-append (IsPart y (length (a.stripes ++ b.stripes))) a.parts (map (moved_part (length a.stripes)) b.parts)
      (λ k d h. let w = sa.split.parts_within k d h in let all = total in record { stripe = (let s = w.stripe in omega arith); unit = w.unit; some = w.some; fits = w.fits })
      (λ k d h.
      let l : length (map (moved_part (length a.stripes)) b.parts) ≡ length b.parts = length-map b.parts (moved_part (length a.stripes)) in
      let h' : k < length b.parts = omega arith in
      let w = sb.split.parts_within k d h' in
      let all = total in
      subst (IsPart y (length (a.stripes ++ b.stripes))) (sym (get_or-map (moved_part (length a.stripes)) b.parts k d d h'))
      (record { stripe = (let s = w.stripe in omega arith); unit = w.unit; some = w.some; fits = w.fits }))

  touched_at : (r i o : ℕ) → r < length (a.stripes ++ b.stripes) → i < data_units y → o < y.unit_sectors
      → is_touched (a.parts ++ map (moved_part (length a.stripes)) b.parts) r i o ≡ some (block_of y (get_or (a.stripes ++ b.stripes) r 0) i o)
  touched_at r i o hr hi ho = elim (cases_lt r (length a.stripes)) [
    | inl l ↦
        let at = stripe_of-block_of y law (get_or a.stripes r 0) i o hi ho in
        let low : stripe_of y (block_of y (get_or a.stripes r 0) i o) < stripe_of y q.first = (let f = first_high r l in let apart = turn.apart in omega arith) in
        touched_first (length a.stripes) r i o l a.parts b.parts
        ∙ (sa.split.parts_touched r i o l hi ho
        ∙ (sym (some_first (block_of y (get_or a.stripes r 0) i o) (not_second (block_of y (get_or a.stripes r 0) i o) low))
        ∙ ap (λ (s : ℕ). some (block_of y s i o)) (sym (at_first r l))))
    | inr g ↦
        let all = total in
        let k : ℕ = r - length a.stripes in
        let is : r ≡ k + length a.stripes = omega arith in
        let within : k < length b.stripes = omega arith in
        let at = stripe_of-block_of y law (get_or b.stripes k 0) i o hi ho in
        let high : stripe_of y (p.first + p.count - 1) < stripe_of y (block_of y (get_or b.stripes k 0) i o) = (let f = second_low k within in let apart = turn.apart in omega arith) in
        ap (λ (n : ℕ). is_touched (a.parts ++ map (moved_part (length a.stripes)) b.parts) n i o) is
        ∙ (touched_second (length a.stripes) k i o a.parts b.parts first_below
        ∙ (sb.split.parts_touched k i o within hi ho
        ∙ (sym (some_second (block_of y (get_or b.stripes k 0) i o) (not_first (block_of y (get_or b.stripes k 0) i o) high))
        ∙ ap (λ (s : ℕ). some (block_of y s i o)) (sym (at_second r g)))))
  ]

  both_split : IsSplit y some (map_followed a b)
  both_split = record {
    stripes_ascend = stripes_ascend;
    stripes_within = All-append (λ s. s < y.stripes) a.stripes b.stripes sa.split.stripes_within sb.split.stripes_within;
    stripes_touched = stripes_touched;
    parts_ascend = parts_ascend;
    parts_within = parts_within;
    parts_touched = touched_at;
  }

pub maps_follow : (y : Shape) (p q : Span) (a b both : Touched) → IsLayout y → AreInTurn y p q → IsSpanSplit y p a → IsSpanSplit y q b → IsJointSplit y (p ∷ q ∷ []) both → both ≡ map_followed a b
maps_follow y p q a b both law turn sa sb joint = one_split y (is_in_some (p ∷ q ∷ [])) both (map_followed a b) joint.split (both_split y law p q turn a b sa sb)

-- ## Their tasks

pub tasks_follow : (y : Shape) (kind : Kind) (a b : Touched) → task_of y kind (map_followed a b) ≡ followed (task_of y kind a) (task_of y kind b)
tasks_follow y kind a b = ap (λ (n : ℕ). let t : Aim = record { kind = kind; stripes = n; parts = a.parts ++ map (moved_part (length a.stripes)) b.parts; width = y.width; checks = y.checks; unit_sectors = y.unit_sectors } in t) (length-append a.stripes b.stripes)

missing_at : (t : Aim) (m k : List (Option ℕ)) → length m ≡ t.stripes → (s : ℕ) → missing_of (m ++ k) s ≡ missing_followed t (missing_of m) (missing_of k) s
missing_at t m k is s = elim (cases_lt s t.stripes) [
  | inl l ↦ get_or_append_left m k None s (omega arith) ∙ sym (cond-true (nat_lt s t.stripes) (missing_of m s) (missing_of k (s - t.stripes)) (lt-ltb s t.stripes l))
  | inr g ↦
      let back : s - length m ≡ s - t.stripes = omega arith in
      get_or-append_right m k (length m) s None refl (omega arith)
      ∙ (ap (λ (i : ℕ). missing_of k i) back ∙ sym (cond-false (nat_lt s t.stripes) (missing_of m s) (missing_of k (s - t.stripes)) (le-ltb s t.stripes g)))
]

pub missing_follow : (t : Aim) (m k : List (Option ℕ)) → length m ≡ t.stripes → missing_of (m ++ k) ≡ missing_followed t (missing_of m) (missing_of k)
missing_follow t m k is = λ i. λ s. missing_at t m k is s i
