-- Spans of a block at least share none exactly where one of them ends before the other begins.
use Rattle.std.proofs.Common.{◌≡◌, ℕ, suc, ◌+◌, ◌<◌, ◌≤◌, Bool, true, List, [], ◌∷◌, length, map, get_or, refl, sym, subst, inl, inr, arith, All}
use Rattle.std.specs.Prelude.{nat_le, nat_lt, AllPairs}
use Rattle.std.specs.Cmp.{both_ways}
use Rattle.std.specs.List.{list_all}
use Rattle.std.proofs.lemmas.Bool.{and_from, and_parts, cases_lt, le-leb, leb-true, lt-ltb, ltb-true, or_cases, or_left, or_right}
use Rattle.std.proofs.lemmas.List.{get_or-map, length-map}
use Rattle.std.proofs.lemmas.List.Elements.{All-cons, All-head, All-nil, All-tail}
use Rattle.std.proofs.lemmas.List.Kept.{AllPairs-cons}
use Rattle.blk_plain.specs.declared.op.Span.{Span}
use Rattle.blk_plain.specs.declared.op.Patch.{Patch}
use Rattle.blk_plain.specs.Plain.{is_in, AreApart}
use Rattle.raid_script.specs.Asked.{AskedPatch, IsPatch, ShareNone}
use Rattle.raid_script.specs.Format.{are_apart}
use Rattle.raid_script.specs.Steps.{are_two_apart, seen_patch}

in-bounds : (s : Span) (b : ℕ) → is_in s b ≡ true → (s.first ≤ b) × (b < s.first + s.count)
in-bounds s b h =
    let both = and_parts (nat_le s.first b) (nat_lt b (s.first + s.count)) h in
    (leb-true s.first b both.0, ltb-true b (s.first + s.count) both.1)

is-in : (s : Span) (b : ℕ) → s.first ≤ b → b < s.first + s.count → is_in s b ≡ true
is-in s b low high = and_from _ _ (le-leb s.first b low) (lt-ltb b (s.first + s.count) high)

-- ## Two spans

two-apart : (p q : AskedPatch) → are_two_apart p q ≡ true → ShareNone p q
two-apart p q h b in_p in_q =
    let one = in-bounds p.span b in_p in
    let two = in-bounds q.span b in_q in
    elim (or_cases (nat_le (p.span.first + p.span.count) q.span.first) (nat_le (q.span.first + q.span.count) p.span.first) h) [
      | inl e ↦ (let l = leb-true (p.span.first + p.span.count) q.span.first e in let u : ⊥ = omega (arith, l, one.1, two.0) in u)
      | inr e ↦ (let l = leb-true (q.span.first + q.span.count) p.span.first e in let u : ⊥ = omega (arith, l, two.1, one.0) in u)
    ]

-- the first block of the later span is in both, where neither ends before the other begins
apart-two : (p q : AskedPatch) → 0 < p.span.count → 0 < q.span.count → ShareNone p q → are_two_apart p q ≡ true
apart-two p q some_p some_q apart = elim (cases_lt q.span.first (p.span.first + p.span.count)) [
  | inr l ↦ or_left _ _ (le-leb (p.span.first + p.span.count) q.span.first l)
  | inl l ↦ elim (cases_lt p.span.first (q.span.first + q.span.count)) [
    | inr m ↦ or_right _ _ (le-leb (q.span.first + q.span.count) p.span.first m)
    | inl m ↦ absurd (elim (cases_lt p.span.first q.span.first) [
      | inl k ↦ apart q.span.first (is-in p.span q.span.first (let z : p.span.first ≤ q.span.first = omega (arith, k) in z) l)
          (is-in q.span q.span.first (let z : q.span.first ≤ q.span.first = omega arith in z) (let z : q.span.first < q.span.first + q.span.count = omega (arith, some_q) in z))
      | inr k ↦ apart p.span.first (is-in p.span p.span.first (let z : p.span.first ≤ p.span.first = omega arith in z) (let z : p.span.first < p.span.first + p.span.count = omega (arith, some_p) in z))
          (is-in q.span p.span.first k m)
    ])
  ]
]

-- ## All of them

first-apart : (p : AskedPatch) (ps : List AskedPatch) → list_all (λ q. are_two_apart p q) ps ≡ true → All (ShareNone p) ps
first-apart p [] h = All-nil (ShareNone p)
first-apart p (q ∷ qs) h =
    let both = and_parts (are_two_apart p q) (list_all (λ r. are_two_apart p r) qs) h in
    All-cons (ShareNone p) q qs (two-apart p q both.0) (first-apart p qs both.1)

pub test-apart : (ps : List AskedPatch) → are_apart ps ≡ true → AllPairs ShareNone ps
test-apart [] h = λ i j d l m. absurd (let u : ⊥ = omega (arith, m) in u)
test-apart (p ∷ ps) h =
    let both = and_parts (list_all (λ q. are_two_apart p q) ps) (are_apart ps) h in
    AllPairs-cons ShareNone p ps (first-apart p ps both.0) (test-apart ps both.1)

HasBlock : AskedPatch → Type 0
HasBlock p = 0 < p.span.count

apart-first : (p : AskedPatch) (ps : List AskedPatch) → HasBlock p → All HasBlock ps → All (ShareNone p) ps → list_all (λ q. are_two_apart p q) ps ≡ true
unfolding HasBlock
apart-first p [] some are apart = refl
apart-first p (q ∷ qs) some are apart =
    and_from _ _ (apart-two p q some (All-head HasBlock q qs are) (All-head (ShareNone p) q qs apart)) (apart-first p qs some (All-tail HasBlock q qs are) (All-tail (ShareNone p) q qs apart))

some-apart : (ps : List AskedPatch) → All HasBlock ps → AllPairs ShareNone ps → are_apart ps ≡ true
some-apart [] are apart = refl
some-apart (p ∷ ps) are apart =
    and_from _ _ (apart-first p ps (All-head HasBlock p ps are) (All-tail HasBlock p ps are) (λ k d l. apart 0 (suc k) d (omega arith) (let z : suc k < suc (length ps) = omega (arith, l) in z)))
    (some-apart ps (All-tail HasBlock p ps are) (λ i j d l m. apart (suc i) (suc j) d (let z : suc i < suc j = omega (arith, l) in z) (let z : suc j < suc (length ps) = omega (arith, m) in z)))

pub apart-test : (ps : List AskedPatch) → All IsPatch ps → AllPairs ShareNone ps → are_apart ps ≡ true
unfolding HasBlock
apart-test ps are apart = some-apart ps (λ i d l. (are i d l).1) apart

-- ## Of patches, as they are asked for

pub seen-apart : (ps : List Patch) → AllPairs ShareNone (map seen_patch ps) → AllPairs AreApart ps
seen-apart ps apart i j d l m =
    let many = length-map ps seen_patch in
    let at_i = get_or-map seen_patch ps i d (seen_patch d) (omega (arith, l, m)) in
    let at_j = get_or-map seen_patch ps j d (seen_patch d) m in
    let both = apart i j (seen_patch d) l (omega (arith, m, many)) in
    subst (λ (x : AskedPatch). ShareNone x (seen_patch (get_or ps j d))) at_i (subst (λ (y : AskedPatch). ShareNone (get_or (map seen_patch ps) i (seen_patch d)) y) at_j both)

pub apart-seen : (ps : List Patch) → AllPairs AreApart ps → AllPairs ShareNone (map seen_patch ps)
apart-seen [] apart i j d l m = absurd (let u : ⊥ = omega (arith, m) in u)
apart-seen (p ∷ ps) apart i j d l m =
    let many = length-map (p ∷ ps) seen_patch in
    let less : j < length (p ∷ ps) = omega (arith, m, many) in
    let at_i = get_or-map seen_patch (p ∷ ps) i p d (omega (arith, l, less)) in
    let at_j = get_or-map seen_patch (p ∷ ps) j p d less in
    subst (λ (x : AskedPatch). ShareNone x (get_or (map seen_patch (p ∷ ps)) j d)) (sym at_i)
    (subst (λ (y : AskedPatch). ShareNone (seen_patch (get_or (p ∷ ps) i p)) y) (sym at_j) (apart i j p l less))

-- the test goes by the blocks
pub test-is : (ps : List Patch) (b : Bool) → All (λ (p : Patch). 1 ≤ p.span.count) ps → (b ≡ true → AllPairs AreApart ps) → (AllPairs AreApart ps → b ≡ true) → are_apart (map seen_patch ps) ≡ b
unfolding HasBlock
test-is ps b some one other = both_ways (are_apart (map seen_patch ps)) b
    (λ h. other (seen-apart ps (test-apart (map seen_patch ps) h)))
    (λ h. some-apart (map seen_patch ps) (each ps some) (apart-seen ps (one h)))
  where
    each : (qs : List Patch) → All (λ (p : Patch). 1 ≤ p.span.count) qs → All HasBlock (map seen_patch qs)
    each [] are = All-nil HasBlock
    each (q ∷ qs) are =
        All-cons HasBlock (seen_patch q) (map seen_patch qs) (let o = All-head (λ (p : Patch). 1 ≤ p.span.count) q qs are in let z : 0 < q.span.count = omega (arith, o) in z)
        (each qs (All-tail (λ (p : Patch). 1 ≤ p.span.count) q qs are))
