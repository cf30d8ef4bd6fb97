-- Lists in one run of entries: what follows a link, and what an entry more does to them.
use Rattle.std.proofs.Common.{◌≡◌, ◌≢◌, ℕ, zero, suc, ◌+◌, ◌-◌, ◌<◌, ◌≤◌, inl, inr, List, [], ◌∷◌, ◌++◌, refl, ap, sym, ◌∙◌, subst, arith, length, slice_index_or, slice_set, replicate, length-append}
use Rattle.std.specs.Prelude.{◌==◌, if◌then◌else◌}
use Rattle.std.proofs.lemmas.List.{get_or-set_same, get_or-set_other, get_or_past, get_or-replicate, length-replicate, get_or_append_left, get_or_push}
use Rattle.std.proofs.lemmas.List.Sums.{sum_by-cons}
use Rattle.std.proofs.lemmas.Bool.{cases_eq, cases_lt, cond-true, cond-false, eq-eqb, ne_eqb}
use Rattle.graph_mean.specs.Fewest.{one_if}
use Rattle.eng_one.specs.Followers.{walk, names_from, Links, followers_in, AreLinked, IsBare}
use Rattle.eng_one.specs.Counts.{times}

abbrev Down : List ℕ → Type 0
Down next = (e : ℕ) → slice_index_or next e 0 ≤ e

-- steps to spare change nothing
walk-enough : (next names : List ℕ) → Down next → (steps more at : ℕ) → at ≤ steps → at ≤ more → walk next names steps at ≡ walk next names more at
unfolding walk
walk-enough next names down zero zero at l m = refl
walk-enough next names down zero (suc more) zero l m = refl
walk-enough next names down zero (suc more) (suc e) l m = absurd (omega arith)
walk-enough next names down (suc steps) zero zero l m = refl
walk-enough next names down (suc steps) zero (suc e) l m = absurd (omega arith)
walk-enough next names down (suc steps) (suc more) zero l m = refl
walk-enough next names down (suc steps) (suc more) (suc e) l m =
    let d = down e in
    ap (λ (xs : List ℕ). slice_index_or names e 0 ∷ xs) (walk-enough next names down steps more (slice_index_or next e 0) (omega arith) (omega arith))

pub names-none : (next names : List ℕ) → names_from next names 0 ≡ []
unfolding walk
names-none next names = refl

pub names-one : (next names : List ℕ) → Down next → (e : ℕ) → names_from next names (suc e) ≡ slice_index_or names e 0 ∷ names_from next names (slice_index_or next e 0)
unfolding walk
names-one next names down e = ap (λ (xs : List ℕ). slice_index_or names e 0 ∷ xs) (walk-enough next names down e (slice_index_or next e 0) (slice_index_or next e 0) (down e) (omega arith))

-- ---- an entry more

walk-more : (next names : List ℕ) (x y : ℕ) → length next ≡ length names → Down next → (steps at : ℕ) → at ≤ length names → walk (next ++ x ∷ []) (names ++ y ∷ []) steps at ≡ walk next names steps at
unfolding walk
walk-more next names x y long down zero at l = refl
walk-more next names x y long down (suc steps) zero l = refl
walk-more next names x y long down (suc steps) (suc e) l =
    let d = down e in
    let name : slice_index_or (names ++ y ∷ []) e 0 ≡ slice_index_or names e 0 = get_or_append_left names (y ∷ []) 0 e (omega arith) in
    let link : slice_index_or (next ++ x ∷ []) e 0 ≡ slice_index_or next e 0 = get_or_append_left next (x ∷ []) 0 e (omega arith) in
    ap (λ (z : ℕ). z ∷ walk (next ++ x ∷ []) (names ++ y ∷ []) steps (slice_index_or (next ++ x ∷ []) e 0)) name
    ∙ ap (λ (z : ℕ). slice_index_or names e 0 ∷ walk (next ++ x ∷ []) (names ++ y ∷ []) steps z) link
    ∙ ap (λ (xs : List ℕ). slice_index_or names e 0 ∷ xs) (walk-more next names x y long down steps (slice_index_or next e 0) (omega arith))

-- the same with what the entries have become
pub push-lists : (l : Links) (node y n : ℕ) (next names : List ℕ) → AreLinked l → node < length l.first → n ≡ length names → next ≡ l.next ++ slice_index_or l.first node 0 ∷ [] → names ≡ l.names ++ y ∷ [] → (c : ℕ) → followers_in (record { first = slice_set l.first node n; next = next; names = names }) c ≡ (if c == node then y ∷ followers_in l c else followers_in l c)
push-lists l node y n next names h below count links entries c =
    ap (λ (ns : List ℕ). names_from next ns (slice_index_or (slice_set l.first node n) c 0)) entries
    ∙ ap (λ (xs : List ℕ). names_from xs more-names (slice_index_or (slice_set l.first node n) c 0)) links
    ∙ elim (cases_eq c node) [
      | inl is ↦
          ap (names_from more-next more-names) (ap (λ (k : ℕ). slice_index_or (slice_set l.first node n) k 0) is ∙ get_or-set_same l.first node n 0 below ∙ last)
          ∙ here
          ∙ ap (λ (k : ℕ). y ∷ followers_in l k) (sym is)
          ∙ sym (cond-true (c == node) (y ∷ followers_in l c) (followers_in l c) (eq-eqb c node is))
      | inr apart ↦
          ap (names_from more-next more-names) (get_or-set_other l.first node c n 0 apart)
          ∙ walk-more l.next l.names link y h.long h.down (slice_index_or l.first c 0) (slice_index_or l.first c 0) (h.begins c)
          ∙ sym (cond-false (c == node) (y ∷ followers_in l c) (followers_in l c) (ne_eqb c node apart))
    ]
  where
    link : ℕ
    link = slice_index_or l.first node 0

    more-next : List ℕ
    more-next = l.next ++ link ∷ []

    more-names : List ℕ
    more-names = l.names ++ y ∷ []

    last : n ≡ suc (length l.names)
    last = let q = length-append l.names (y ∷ []) in let r = ap length entries in omega (arith, count, q, r)

    down : Down more-next
    down e = elim (cases_lt e (length l.next)) [
      | inl low ↦ subst (λ (z : ℕ). z ≤ e) (sym (get_or_append_left l.next (link ∷ []) 0 e low)) (h.down e)
      | inr past ↦ elim (cases_eq e (length l.next)) [
        | inl is ↦ subst (λ (z : ℕ). z ≤ e) (sym (get_or_push l.next link 0 e (sym is))) (let q = h.begins node in omega (arith, past, q, h.long))
        | inr apart ↦ subst (λ (z : ℕ). z ≤ e) (sym (get_or_past more-next e 0 (let q = length-append l.next (link ∷ []) in omega (arith, q, past, apart)))) (omega arith)
      ]
    ]

    here : names_from more-next more-names (suc (length l.names)) ≡ y ∷ followers_in l node
    here =
        names-one more-next more-names down (length l.names)
        ∙ ap (λ (z : ℕ). z ∷ names_from more-next more-names (slice_index_or more-next (length l.names) 0)) (get_or_push l.names y 0 (length l.names) refl)
        ∙ ap (λ (z : ℕ). y ∷ names_from more-next more-names z) (get_or_push l.next link 0 (length l.names) h.long)
        ∙ ap (λ (xs : List ℕ). y ∷ xs) (walk-more l.next l.names link y h.long h.down link link (h.begins node))

-- the same list of one more than so many entries
pub bare-lists : (first next names : List ℕ) (nodes : ℕ) → first ≡ replicate nodes 0 → names ≡ [] → IsBare (record { first = first; next = next; names = names }) nodes
bare-lists first next names nodes is none = record {
  nodes = ap length is ∙ length-replicate nodes 0;
  entries = ap length none;
  none = λ c. ap (names_from next names) (ap (λ (xs : List ℕ). slice_index_or xs c 0) is ∙ no-link nodes c) ∙ names-none next names;
}
  where
    no-link : (n k : ℕ) → ◌≡◌ {A = ℕ} (slice_index_or (replicate n 0) k 0) 0
    no-link n k = elim (cases_lt k n) [
      | inl low ↦ get_or-replicate n k 0 0 low
      | inr past ↦ get_or_past (replicate n 0) k 0 (subst (λ (m : ℕ). m ≤ k) (sym (length-replicate n 0)) past)
    ]

-- ---- how often a node stands in a list

pub times-cons : (k x : ℕ) (xs : List ℕ) → times k (x ∷ xs) ≡ one_if (x == k) + times k xs
times-cons k x xs = sum_by-cons (λ y. one_if (y == k)) x xs

-- the first name of a list, and the rest
pub times-first : (next names : List ℕ) → Down next → (at : ℕ) → at ≢ 0 → (k : ℕ) → times k (names_from next names at) ≡ one_if (slice_index_or names (at - 1) 0 == k) + times k (names_from next names (slice_index_or next (at - 1) 0))
times-first next names down zero some k = absurd (some refl)
times-first next names down (suc e) some k =
    let e-is : suc e - 1 ≡ e = omega arith in
    ap (times k) (names-one next names down e)
    ∙ times-cons k (slice_index_or names e 0) (names_from next names (slice_index_or next e 0))
    ∙ ap (λ (z : ℕ). one_if (slice_index_or names z 0 == k) + times k (names_from next names (slice_index_or next z 0))) (sym e-is)

-- a count that isn't 0 stands in the list
pub some-below : (xs : List ℕ) (n : ℕ) → 0 < slice_index_or xs n 0 → n < length xs
some-below xs n some = elim (cases_lt n (length xs)) [
  | inl low ↦ low
  | inr past ↦ let e = get_or_past xs n 0 past in absurd (omega (arith, e, some))
]

pub set-lowered : (xs : List ℕ) (n k : ℕ) → 0 < slice_index_or xs n 0 → slice_index_or (slice_set xs n (slice_index_or xs n 0 - 1)) k 0 + one_if (n == k) ≡ slice_index_or xs k 0
set-lowered xs n k some = elim (cases_eq k n) [
  | inl is ↦
      let a : slice_index_or (slice_set xs n (slice_index_or xs n 0 - 1)) k 0 ≡ slice_index_or xs n 0 - 1 = ap (λ (j : ℕ). slice_index_or (slice_set xs n (slice_index_or xs n 0 - 1)) j 0) is ∙ get_or-set_same xs n (slice_index_or xs n 0 - 1) 0 (some-below xs n some) in
      let b : one_if (n == k) ≡ 1 = cond-true (n == k) 1 0 (eq-eqb n k (sym is)) in
      let d : slice_index_or xs k 0 ≡ slice_index_or xs n 0 = ap (λ (j : ℕ). slice_index_or xs j 0) is in
      omega (arith, a, b, d, some)
  | inr apart ↦
      let a : slice_index_or (slice_set xs n (slice_index_or xs n 0 - 1)) k 0 ≡ slice_index_or xs k 0 = get_or-set_other xs n k (slice_index_or xs n 0 - 1) 0 apart in
      let b : one_if (n == k) ≡ 0 = cond-false (n == k) 1 0 (ne_eqb n k (λ e. apart (sym e))) in
      omega (arith, a, b)
]
