-- How many of its antecedents a node waits for: by the lists of followers, and by its own list.
use Rattle.std.proofs.Common.{◌≡◌, ◌≢◌, ℕ, zero, suc, ◌+◌, ◌<◌, ◌≤◌, ◌↔◌, inl, inr, List, [], ◌∷◌, Bool, true, false, All, refl, ap, sym, ◌∙◌, subst, arith, length, slice_index_or, slice_set, count_by}
use Rattle.std.specs.Prelude.{◌==◌, if◌then◌else◌, nat_lt}
use Rattle.std.proofs.Math.ListN.{length-set}
use Rattle.std.proofs.lemmas.List.{get_or-set_same, get_or-set_other, get_or_past, get_or_default}
use Rattle.std.proofs.lemmas.List.Elements.{All-from_get_or, Contains-get_or}
use Rattle.std.proofs.lemmas.List.Sums.{sum_by-cons}
use Rattle.std.proofs.lemmas.Bool.{cases_eq, cases_lt, cases_order, cond-true, cond-false, eq-eqb, ne_eqb, lt-ltb, le-ltb}
use Rattle.graph_mean.specs.declared.step.Status.{Status}
use Rattle.graph_mean.specs.declared.step.Status.TheVariants.{Idle, Out, Good, Bad, Skipped}
use Rattle.graph_mean.specs.Graph.{View, Vertex, vertex_at, IsAnte}
use Rattle.graph_mean.specs.Steps.{HasEnded}
use Rattle.graph_mean.specs.Fewest.{sum_below, one_if}
use Rattle.graph_mean.proofs.Reading.{sum-add, sum-zero}
use Rattle.graph_mean.proofs.Tallies.{none-counted, counted-none}
use Rattle.eng_one.specs.Control.{mark_in}
use Rattle.eng_one.specs.Followers.{Links, followers_in}
use Rattle.eng_one.specs.Counts.{times, waits, is_unended, AreFollowers, CanStart}
use Rattle.eng_one.proofs.Chains.{times-cons}
use Rattle.graph_mean.proofs.Words.{no_vertex}

-- ---- sums

pub sum-same : (f h : ℕ → ℕ) (n : ℕ) → ((i : ℕ) → i < n → f i ≡ h i) → sum_below f n ≡ sum_below h n
unfolding sum_below
sum-same f h zero e = refl
sum-same f h (suc n) e = let a = e n (omega arith) in let b = sum-same f h n (λ i l. e i (omega arith)) in omega (arith, a, b)

-- two that differ at one place alone
pub sum-change : (f h : ℕ → ℕ) (a n : ℕ) → a < n → ((i : ℕ) → i ≢ a → f i ≡ h i) → sum_below f n + h a ≡ sum_below h n + f a
unfolding sum_below
sum-change f h a zero l e = absurd (omega arith)
sum-change f h a (suc n) l e = elim (cases_eq n a) [
  | inl is ↦
      let b = sum-same f h n (λ i m. e i (λ z. absurd (omega (arith, z, m, is)))) in
      let p = ap f is in
      let q = ap h is in
      omega (arith, b, p, q)
  | inr apart ↦ let b = sum-change f h a n (omega (arith, l, apart)) e in let d = e n apart in omega (arith, b, d)
]

pub sum-none : (f : ℕ → ℕ) (n : ℕ) → ((i : ℕ) → i < n → f i ≡ 0) → sum_below f n ≡ 0
sum-none f n e = sum-same f (λ _. 0) n e ∙ sum-zero n

-- where one alone isn't 0
sum-one : (f : ℕ → ℕ) (a n : ℕ) → a < n → ((i : ℕ) → i ≢ a → f i ≡ 0) → sum_below f n ≡ f a
sum-one f a n l e = let b = sum-change f (λ _. 0) a n l e in let z = sum-zero n in omega (arith, b, z)

-- ---- how often the numbers that pass a test stand in a list

count-cons : (p : ℕ → Bool) (x : ℕ) (xs : List ℕ) → count_by p (x ∷ xs) ≡ one_if (p x) + count_by p xs
count-cons p x xs = sum_by-cons (λ y. one_if (p y)) x xs

pub count-sum : (p : ℕ → Bool) (n : ℕ) (xs : List ℕ) → ((k : ℕ) → k < length xs → slice_index_or xs k 0 < n) → sum_below (λ c. if p c then times c xs else 0) n ≡ count_by p xs
count-sum p n [] within = sum-none (λ c. if p c then times c [] else 0) n (λ i l. no-matter (p i))
  where
    no-matter : (b : Bool) → ◌≡◌ {A = ℕ} (if b then 0 else 0) 0
    no-matter true = refl
    no-matter false = refl
count-sum p n (x ∷ xs) within =
    sum-same (λ c. if p c then times c (x ∷ xs) else 0) (λ c. (if p c then one_if (x == c) else 0) + (if p c then times c xs else 0)) n (λ i l. ap (λ (m : ℕ). if p i then m else 0) (times-cons i x xs) ∙ apart (p i) (one_if (x == i)) (times i xs))
    ∙ sum-add (λ c. if p c then one_if (x == c) else 0) (λ c. if p c then times c xs else 0) n
    ∙ (let one = sum-one (λ c. if p c then one_if (x == c) else 0) x n (within 0 (omega arith)) (λ i other. ap (λ (m : ℕ). if p i then m else 0) (cond-false (x == i) 1 0 (ne_eqb x i (λ z. other (sym z)))) ∙ nothing (p i)) in
    let here : (if p x then one_if (x == x) else 0) ≡ one_if (p x) = ap (λ (b : Bool). if p x then one_if b else 0) (eq-eqb x x refl) in
    let rest = count-sum p n xs (λ k l. within (suc k) (omega arith)) in
    let all = count-cons p x xs in
    omega (arith, one, here, rest, all))
  where
    apart : (b : Bool) (u v : ℕ) → (if b then u + v else 0) ≡ (if b then u else 0) + (if b then v else 0)
    apart true u v = refl
    apart false u v = omega arith

    nothing : (b : Bool) → ◌≡◌ {A = ℕ} (if b then 0 else 0) 0
    nothing true = refl
    nothing false = refl

-- ---- as marks change

-- a node that hadn't ended has
pub waits-ended : (links : Links) (marks : List Status) (n : ℕ) (to : Status) → n < length marks → is_unended (mark_in marks n) ≡ true → is_unended to ≡ false → (k : ℕ) → waits links (slice_set marks n to) k + times k (followers_in links n) ≡ waits links marks k
waits-ended links marks n to below was is k =
    let f = λ (c : ℕ). if is_unended (mark_in (slice_set marks n to) c) then times k (followers_in links c) else 0 in
    let h = λ (c : ℕ). if is_unended (mark_in marks c) then times k (followers_in links c) else 0 in
    let change = sum-change f h n (length marks) below (λ i apart. ap (λ (s : Status). if is_unended s then times k (followers_in links i) else 0) (get_or-set_other marks n i to Idle apart)) in
    let new : f n ≡ 0 = ap (λ (s : Status). if is_unended s then times k (followers_in links n) else 0) (get_or-set_same marks n to Idle below) ∙ cond-false (is_unended to) (times k (followers_in links n)) 0 is in
    let old : h n ≡ times k (followers_in links n) = cond-true (is_unended (mark_in marks n)) (times k (followers_in links n)) 0 was in
    let long : sum_below f (length (slice_set marks n to)) ≡ sum_below f (length marks) = ap (sum_below f) (length-set marks n to) in
    omega (arith, change, new, old, long)

-- a node that is fired still hasn't
pub waits-fired : (links : Links) (marks : List Status) (n : ℕ) → n < length marks → is_unended (mark_in marks n) ≡ true → (k : ℕ) → waits links (slice_set marks n Out) k ≡ waits links marks k
waits-fired links marks n below was k =
    ap (sum_below (λ c. if is_unended (mark_in (slice_set marks n Out) c) then times k (followers_in links c) else 0)) (length-set marks n Out)
    ∙ sum-same (λ c. if is_unended (mark_in (slice_set marks n Out) c) then times k (followers_in links c) else 0) (λ c. if is_unended (mark_in marks c) then times k (followers_in links c) else 0) (length marks) (λ i l. ap (λ (b : Bool). if b then times k (followers_in links i) else 0) (same i))
  where
    same : (i : ℕ) → is_unended (mark_in (slice_set marks n Out) i) ≡ is_unended (mark_in marks i)
    same i = elim (cases_eq i n) [
      | inl is ↦ ap (λ (j : ℕ). is_unended (mark_in (slice_set marks n Out) j)) is ∙ ap is_unended (get_or-set_same marks n Out Idle below) ∙ sym (ap (λ (j : ℕ). is_unended (mark_in marks j)) is ∙ was)
      | inr apart ↦ ap is_unended (get_or-set_other marks n i Out Idle apart)
    ]

-- ---- by the node's own list

pub waits-met : (g : View) (links : Links) (marks : List Status) → CanStart g → length marks ≡ length g.nodes → AreFollowers g links → (k : ℕ) → waits links marks k ≡ count_by (λ c. is_unended (mark_in marks c)) (vertex_at g k).antes
waits-met g links marks can long follow k =
    sum-same (λ c. if is_unended (mark_in marks c) then times k (followers_in links c) else 0) (λ c. if is_unended (mark_in marks c) then times c (vertex_at g k).antes else 0) (length marks) (λ i l. ap (λ (m : ℕ). if is_unended (mark_in marks i) then m else 0) (follow i k))
    ∙ count-sum (λ c. is_unended (mark_in marks c)) (length marks) (vertex_at g k).antes (λ j l. let q = can.named k (slice_index_or (vertex_at g k).antes j 0) (Contains-get_or (vertex_at g k).antes j 0 l) in omega (arith, q, long))

unended-not : (s : Status) → HasEnded s → is_unended s ≡ false
unended-not Idle h = absurd h
unended-not Out h = absurd h
unended-not Good h = refl
unended-not Bad h = refl
unended-not Skipped h = refl

ended-is : (s : Status) → is_unended s ≡ false → HasEnded s
ended-is Idle e = absurd (let q : ⊥ = cc in q)
ended-is Out e = absurd (let q : ⊥ = cc in q)
ended-is Good e = tt
ended-is Bad e = tt
ended-is Skipped e = tt

-- a node waits for none exactly where all its antecedents have ended
pub none-unmet : (g : View) (marks : List Status) (k : ℕ) → (count_by (λ c. is_unended (mark_in marks c)) (vertex_at g k).antes ≡ 0) ↔ ((c : ℕ) → IsAnte g k c → HasEnded (mark_in marks c))
none-unmet g marks k = (
  λ none c ante.
      let here : slice_index_or (vertex_at g k).antes ante.0 0 ≡ c = get_or_default (vertex_at g k).antes ante.0 0 c ante.1 ∙ ante.2 in
      subst (λ (a : ℕ). HasEnded (mark_in marks a)) here (ended-is (mark_in marks (slice_index_or (vertex_at g k).antes ante.0 0)) (none-counted (λ c. is_unended (mark_in marks c)) 0 (vertex_at g k).antes none ante.0 ante.1)),
  λ ended. counted-none (λ c. is_unended (mark_in marks c)) 0 (vertex_at g k).antes (λ j l. unended-not (mark_in marks (slice_index_or (vertex_at g k).antes j 0)) (ended (slice_index_or (vertex_at g k).antes j 0) (Contains-get_or (vertex_at g k).antes j 0 l))),
)

-- ---- as the followers are entered

-- a node more
pub entered : (f : ℕ → ℕ) (n k old more new : ℕ) → old ≡ (if nat_lt k n then f k else 0) → more ≡ f n → new ≡ old + (if k == n then more else 0) → new ≡ (if nat_lt k (n + 1) then f k else 0)
entered f n k old more new was here is = elim (cases_order k n) [
  | inl same ↦
      let a : (if nat_lt k n then f k else 0) ≡ 0 = cond-false (nat_lt k n) (f k) 0 (le-ltb k n (omega arith)) in
      let b : (if k == n then more else 0) ≡ more = cond-true (k == n) more 0 (eq-eqb k n same) in
      let d : (if nat_lt k (n + 1) then f k else 0) ≡ f k = cond-true (nat_lt k (n + 1)) (f k) 0 (lt-ltb k (n + 1) (omega arith)) in
      let e : f k ≡ f n = ap f same in
      omega (arith, was, here, is, a, b, d, e)
  | inr (inl low) ↦
      let a : (if nat_lt k n then f k else 0) ≡ f k = cond-true (nat_lt k n) (f k) 0 (lt-ltb k n low) in
      let b : (if k == n then more else 0) ≡ 0 = cond-false (k == n) more 0 (ne_eqb k n (λ e. absurd (omega (arith, e, low)))) in
      let d : (if nat_lt k (n + 1) then f k else 0) ≡ f k = cond-true (nat_lt k (n + 1)) (f k) 0 (lt-ltb k (n + 1) (omega arith)) in
      omega (arith, was, is, a, b, d)
  | inr (inr past) ↦
      let a : (if nat_lt k n then f k else 0) ≡ 0 = cond-false (nat_lt k n) (f k) 0 (le-ltb k n (omega arith)) in
      let b : (if k == n then more else 0) ≡ 0 = cond-false (k == n) more 0 (ne_eqb k n (λ e. absurd (omega (arith, e, past)))) in
      let d : (if nat_lt k (n + 1) then f k else 0) ≡ 0 = cond-false (nat_lt k (n + 1)) (f k) 0 (le-ltb k (n + 1) (omega arith)) in
      omega (arith, was, is, a, b, d)
]

-- all of them
pub all-entered : (g : View) (n c k count : ℕ) → length g.nodes ≤ n → count ≡ (if nat_lt k n then times c (vertex_at g k).antes else 0) → count ≡ times c (vertex_at g k).antes
all-entered g n c k count all is = elim (cases_lt k n) [
  | inl low ↦ is ∙ cond-true (nat_lt k n) (times c (vertex_at g k).antes) 0 (lt-ltb k n low)
  | inr past ↦
      is
      ∙ cond-false (nat_lt k n) (times c (vertex_at g k).antes) 0 (le-ltb k n past)
      ∙ sym (ap (λ (v : Vertex). times c v.antes) (get_or_past g.nodes k no_vertex (omega (arith, all, past))))
]

-- the antecedents of a node are nodes
pub all-named : (g : View) (n m : ℕ) → CanStart g → m ≡ length g.nodes → All (λ a. a < m) (vertex_at g n).antes
all-named g n m can is = All-from_get_or (λ a. a < m) (vertex_at g n).antes 0 (λ i l. let q = can.named n (slice_index_or (vertex_at g n).antes i 0) (Contains-get_or (vertex_at g n).antes i 0 l) in omega (arith, q, is))
