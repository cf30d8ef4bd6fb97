-- What a run keeps, as it begins, as its nodes are fired, and as they end.
use Rattle.std.proofs.Common.{◌≡◌, ℕ, zero, suc, ◌+◌, ◌<◌, ◌≤◌, ◌↔◌, inl, inr, List, [], ◌∷◌, ◌++◌, Bool, true, false, ◌&&◌, refl, ap, sym, ◌∙◌, subst, arith, length, ◌⊎◌, slice_index_or, slice_set, replicate, count_by, take, drop}
use Rattle.std.specs.Prelude.{◌==◌, if◌then◌else◌, MatchOption, Option, Some, None}
use Rattle.std.proofs.Math.ListN.{length-set}
use Rattle.std.proofs.lemmas.List.{get_or-set_same, get_or-set_other, get_or_past, get_or_default, length-replicate, append-nil, drop_all, take_all}
use Rattle.std.proofs.lemmas.List.Sums.{sum_by-cons}
use Rattle.std.proofs.lemmas.Bool.{cases_eq, cases_lt, cond-true, cond-false, eq-eqb, ne_eqb, eqb-true, and_parts}
use Rattle.blk_plain.specs.declared.op.Outcome.{Outcome}
use Rattle.blk_plain.specs.declared.op.Outcome.TheVariants as outcome
use Rattle.graph_mean.specs.declared.step.Status.{Status}
use Rattle.graph_mean.specs.declared.step.Status.TheVariants.{Idle, Out, Good, Bad, Skipped}
use Rattle.graph_mean.specs.declared.step.Phase.{Phase}
use Rattle.graph_mean.specs.declared.step.Phase.TheVariants.{Before, After, Undone}
use Rattle.graph_mean.specs.Graph.{View, Vertex, vertex_at, blank}
use Rattle.graph_mean.specs.Steps.{IsRunning, is_out}
use Rattle.graph_mean.specs.Fewest.{one_if}
use Rattle.graph_mean.proofs.Tallies.{counted-none}
use Rattle.eng_one.specs.Control.{Control, IsReadyIn, NoneReady, IsLeastReady, mark_in, mark_for}
use Rattle.eng_one.specs.Bits.{has, NoneFrom, IsFirstFrom}
use Rattle.eng_one.specs.Followers.{Links, followers_in, IsBare}
use Rattle.eng_one.specs.Counts.{times, is_unended, is_idle, is_waiting, ascending, unmet_of, AreWaiting, AreReady, AreFollowers, CanStart, IsSettled, IsKept}
use Rattle.eng_one.proofs.Waiting.{unmarked}
use Rattle.eng_one.proofs.Marking.{count-fired}
use Rattle.eng_one.proofs.Settled.{running-settled}
use Rattle.eng_one.proofs.Counted.{waits-ended, waits-fired, waits-met, none-unmet}
use Rattle.eng_one.proofs.Waits.{and-no}
use Rattle.graph_mean.proofs.Words.{no_vertex}

-- ---- the ready nodes in ascending order

ascending-same : (p q : ℕ → Bool) (n : ℕ) → ((k : ℕ) → k < n → p k ≡ q k) → ascending p n ≡ ascending q n
unfolding ascending
ascending-same p q zero same = refl
ascending-same p q (suc n) same =
    ap (λ (xs : List ℕ). xs ++ (if p n then n ∷ [] else [])) (ascending-same p q n (λ k l. same k (omega arith)))
    ∙ ap (λ (b : Bool). ascending q n ++ (if b then n ∷ [] else [])) (same n (omega arith))

ascending-past : (q : ℕ → Bool) (m n : ℕ) → m ≤ n → ((k : ℕ) → m ≤ k → q k ≡ false) → ascending q n ≡ ascending q m
unfolding ascending
ascending-past q m zero l none = ap (ascending q) (let e : zero ≡ m = omega (arith, l) in e)
ascending-past q m (suc n) l none = elim (cases_eq m (suc n)) [
  | inl is ↦ ap (ascending q) (sym is)
  | inr apart ↦
      ap (λ (b : Bool). ascending q n ++ (if b then n ∷ [] else [])) (none n (omega (arith, l, apart)))
      ∙ append-nil (ascending q n)
      ∙ ascending-past q m n (omega (arith, l, apart)) none
]

past-not : (marks : List Status) (counts : List ℕ) (k : ℕ) → length counts ≤ k → is_waiting marks counts k ≡ false
past-not marks counts k past = ap (λ (z : ℕ). is_idle (mark_in marks k) && (z == 0)) (get_or_past counts k 1 past) ∙ and-no (is_idle (mark_in marks k))

pub ready-listed : (marks : List Status) (counts words : List ℕ) → length counts ≡ length marks → length marks ≤ 2048 → AreWaiting marks counts words → AreReady marks counts words
ready-listed marks counts words long few each = record {
  each = each;
  listed =
      ascending-same (has words) (is_waiting marks counts) 2048 (λ k l. each k)
      ∙ ascending-past (is_waiting marks counts) (length marks) 2048 few (λ k l. past-not marks counts k (omega (arith, l, long)));
}

-- ---- as a run begins

count-all : (p : ℕ → Bool) (xs : List ℕ) → ((k : ℕ) → p k ≡ true) → count_by p xs ≡ length xs
count-all p [] all = refl
count-all p (x ∷ xs) all =
    let here : one_if (p x) ≡ 1 = cond-true (p x) 1 0 (all x) in
    let rest = count-all p xs all in
    let more : count_by p (x ∷ xs) ≡ one_if (p x) + count_by p xs = sum_by-cons (λ y. one_if (p y)) x xs in
    omega (arith, here, rest, more)

pub begun-kept : (g : View) (links : Links) (counts words : List ℕ) (a b : ℕ) → CanStart g → length counts ≡ length g.nodes → length links.first ≡ length g.nodes → AreFollowers g links → ((k : ℕ) → k < length g.nodes → slice_index_or counts k 0 ≡ length (vertex_at g k).antes) → ((k : ℕ) → has words k ≡ (slice_index_or counts k 1 == 0)) → 2048 ≤ a → 2048 ≤ b → IsKept g (replicate (length g.nodes) Idle) Before 0 links counts words a b
begun-kept g links counts words a b can long begins follow met each more-marks more-counts =
    let n = length g.nodes in
    let marks = replicate n Idle in
    let all : length marks ≡ n = length-replicate n Idle in
    record {
      started = can;
      nodes = all;
      long = long;
      begins = begins;
      followers = follow;
      counted = λ k l. met k (omega (arith, l, all)) ∙ sym (waits-met g links marks can all follow k ∙ count-all (λ c. is_unended (mark_in marks c)) (vertex_at g k).antes (λ c. ap is_unended (unmarked c n)));
      ready = ready-listed marks counts words (long ∙ sym all) (let few = can.nodes in omega (arith, few, all)) (λ k. each k ∙ ap (λ (s : Status). is_idle s && (slice_index_or counts k 1 == 0)) (sym (unmarked k n)));
      outs = sym (counted-none is_out Idle marks (λ k l. ap is_out (unmarked k n)));
      settled = running-settled marks Before tt;
      mark_room = more-marks;
      count_room = more-counts;
    }

-- the same with what it has become
pub begun-as : (g same : View) (marks : List Status) (links : Links) (counts written words : List ℕ) (a b : ℕ) → same ≡ g → marks ≡ replicate (length g.nodes) Idle → written ≡ counts → CanStart g → length counts ≡ length g.nodes → length links.first ≡ length g.nodes → AreFollowers g links → ((k : ℕ) → k < length g.nodes → slice_index_or counts k 0 ≡ length (vertex_at g k).antes) → ((k : ℕ) → has words k ≡ (slice_index_or counts k 1 == 0)) → 2048 ≤ a → 2048 ≤ b → IsKept same marks Before 0 links written words a b
begun-as g same marks links counts written words a b s m w can long begins follow met each more-marks more-counts =
    subst (λ (v : View). IsKept v marks Before 0 links written words a b) (sym s)
    (subst (λ (ms : List Status). IsKept g ms Before 0 links written words a b) (sym m)
    (subst (λ (cs : List ℕ). IsKept g (replicate (length g.nodes) Idle) Before 0 links cs words a b) (sym w)
    (begun-kept g links counts words a b can long begins follow met each more-marks more-counts)))

-- what a slice of a whole vector leaves in it
pub written-back : (n : ℕ) (new old : List ℕ) → n ≡ length old → length new ≡ length old → take n (new ++ drop (length new) old) ≡ new
written-back n new old all long =
    ap (λ (xs : List ℕ). take n (new ++ xs)) (drop_all (length new) old (omega (arith, long)))
    ∙ ap (take n) (append-nil new)
    ∙ take_all n new (omega (arith, all, long))

pub opened-kept : (links : Links) (words : List ℕ) (a b : ℕ) → IsBare links 0 → ((k : ℕ) → has words k ≡ false) → 2048 ≤ a → 2048 ≤ b → IsKept blank [] Undone 0 links [] words a b
opened-kept links words a b bare none more-marks more-counts = record {
  started = record { nodes = omega arith; antes = omega arith; named = λ n c ante. let l : ante.0 < 0 = ante.1 in absurd (omega (arith, l)) };
  nodes = refl;
  long = refl;
  begins = bare.nodes;
  followers = λ c k. ap (times k) (bare.none c);
  counted = λ k l. absurd (omega (arith, l));
  ready = ready-listed [] [] words refl (omega arith) none;
  outs = refl;
  settled = record { rolling = λ e. absurd (let q : ⊥ = cc in q); undone = λ e. refl };
  mark_room = more-marks;
  count_room = more-counts;
}

pub mark-ended : (o : Outcome) → is_unended (mark_for o) ≡ false
mark-ended outcome.Good = refl
mark-ended outcome.Bad = refl

pub mark-fired : (o : Outcome) → is_idle (mark_for o) ≡ false
mark-fired outcome.Good = refl
mark-fired outcome.Bad = refl

-- ---- what is kept says what is ready

-- nodes may be fired before the commit and after it
pub running-either : (p : Phase) → (p ≡ Before) ⊎ (p ≡ After) → IsRunning p
running-either p (inl is) = subst IsRunning (sym is) tt
running-either p (inr is) = subst IsRunning (sym is) tt

module _ (g : View) (marks : List Status) (phase : Phase) (out : ℕ) (links : Links) (counts words : List ℕ) (a b : ℕ) (h : IsKept g marks phase out links counts words a b) where
  abbrev pub run : Control
  run = record { graph = g; marks = marks; phase = phase }

  pub count-is : (k : ℕ) → k < length g.nodes → slice_index_or counts k 0 ≡ unmet_of run k
  count-is k l = h.counted k (omega (arith, l, h.nodes)) ∙ waits-met g links marks h.started h.nodes h.followers k

  idle-is : (s : Status) → is_idle s ≡ true → s ≡ Idle
  idle-is Idle e = refl
  idle-is Out e = absurd (let q : ⊥ = cc in q)
  idle-is Good e = absurd (let q : ⊥ = cc in q)
  idle-is Bad e = absurd (let q : ⊥ = cc in q)
  idle-is Skipped e = absurd (let q : ⊥ = cc in q)

  waiting-ready : (k : ℕ) → IsRunning phase → is_waiting marks counts k ≡ true → IsReadyIn run k
  waiting-ready k running is =
      let parts = and_parts (is_idle (mark_in marks k)) (slice_index_or counts k 1 == 0) is in
      let none : slice_index_or counts k 1 ≡ 0 = eqb-true (slice_index_or counts k 1) 0 parts.1 in
      let below : k < length counts = elim (cases_lt k (length counts)) [
        | inl low ↦ low
        | inr past ↦ let e = get_or_past counts k 1 past in absurd (omega (arith, e, none))
      ] in
      let node : k < length g.nodes = omega (arith, below, h.long) in
      let zero-is : unmet_of run k ≡ 0 = sym (count-is k node) ∙ get_or_default counts k 0 1 below ∙ none in
      record { below = node; idle = idle-is (mark_in marks k) parts.0; antes = (none-unmet g marks k).0 zero-is; running = running }

  ready-waiting : (k : ℕ) → IsReadyIn run k → is_waiting marks counts k ≡ true
  ready-waiting k r =
      let node : k < length g.nodes = r.below in
      let below : k < length counts = omega (arith, node, h.long) in
      let none : slice_index_or counts k 1 ≡ 0 = get_or_default counts k 1 0 below ∙ (count-is k r.below ∙ (none-unmet g marks k).1 r.antes) in
      ap (λ (s : Status). is_idle s && (slice_index_or counts k 1 == 0)) r.idle ∙ eq-eqb (slice_index_or counts k 1) 0 none

  pub ready-iff : (k : ℕ) → IsRunning phase → (is_waiting marks counts k ≡ true) ↔ IsReadyIn run k
  ready-iff k running = (waiting-ready k running, ready-waiting k)

  pub first-ready : IsRunning phase → (from : ℕ) (found : Option ℕ) → MatchOption found (NoneFrom (has words) from) (IsFirstFrom (has words) from) → MatchOption found (NoneReady run from) (IsLeastReady run from)
  first-ready running from None none = λ k l r. none k l (h.ready.each k ∙ ready-waiting k r)
  first-ready running from (Some n) is = record {
    from_on = is.from_on;
    ready = waiting-ready n running (sym (h.ready.each n) ∙ is.here);
    least = λ k l m r. is.least k l m (h.ready.each k ∙ ready-waiting k r);
  }

  pub none-ready : (IsRunning phase → ⊥) → (from : ℕ) → NoneReady run from
  none-ready still from k l r = still r.running

  -- ---- a node is fired

  idle-not : (s : Status) → s ≡ Idle → is_unended s ≡ true
  idle-not s e = ap is_unended e

  -- a node that no longer waits to be fired is taken from the set
  pub taken-out : (n : ℕ) (to : Status) (later : List ℕ) → n < length marks → is_idle to ≡ false → ((k : ℕ) → has later k ≡ (if k == n then false else has words k)) → AreWaiting (slice_set marks n to) counts later
  taken-out n to later l not is k = is k ∙ elim (cases_eq k n) [
    | inl same ↦
        cond-true (k == n) false (has words k) (eq-eqb k n same)
        ∙ sym (ap (λ (s : Status). is_idle s && (slice_index_or counts k 1 == 0)) (ap (λ (j : ℕ). mark_in (slice_set marks n to) j) same ∙ get_or-set_same marks n to Idle l) ∙ ap (λ (c : Bool). c && (slice_index_or counts k 1 == 0)) not)
    | inr apart ↦
        cond-false (k == n) false (has words k) (ne_eqb k n apart)
        ∙ h.ready.each k
        ∙ ap (λ (s : Status). is_idle s && (slice_index_or counts k 1 == 0)) (sym (get_or-set_other marks n k to Idle apart))
  ]

  pub fired-kept : (n : ℕ) (later : List ℕ) → IsReadyIn run n → ((k : ℕ) → has later k ≡ (if k == n then false else has words k)) → IsKept g (slice_set marks n Out) phase (out + 1) links counts later a b
  fired-kept n later r is =
      let node : n < length g.nodes = r.below in
      let below : n < length marks = omega (arith, node, h.nodes) in
      let all : length (slice_set marks n Out) ≡ length marks = length-set marks n Out in
      record {
        started = h.started;
        nodes = all ∙ h.nodes;
        long = h.long;
        begins = h.begins;
        followers = h.followers;
        counted = λ k l. h.counted k (omega (arith, l, all)) ∙ sym (waits-fired links marks n below (idle-not (mark_in marks n) r.idle) k);
        ready = ready-listed (slice_set marks n Out) counts later (h.long ∙ sym (all ∙ h.nodes)) (let few = h.started.nodes in omega (arith, few, all, h.nodes)) (taken-out n Out later below refl is);
        outs = let e = count-fired marks n below r.idle in omega (arith, e, h.outs);
        settled = running-settled (slice_set marks n Out) phase r.running;
        mark_room = h.mark_room;
        count_room = h.count_room;
      }

  -- ---- a node ends

  -- each count is at least the number of times that it will be lowered
  pub lower-fits : (n : ℕ) → n < length marks → is_unended (mark_in marks n) ≡ true → (k : ℕ) → times k (followers_in links n) ≤ slice_index_or counts k 0
  lower-fits n below was k = elim (cases_lt k (length marks)) [
    | inl low ↦
        let change = waits-ended links marks n Good below was refl k in
        let count = h.counted k low in
        omega (arith, change, count)
    | inr past ↦
        let none : times k (followers_in links n) ≡ 0 = h.followers n k ∙ ap (λ (v : Vertex). times n v.antes) (get_or_past g.nodes k no_vertex (omega (arith, past, h.nodes))) in
        omega (arith, none)
  ]

  -- the counts and the ready nodes after they were lowered
  pub ended-kept : (n : ℕ) (to : Status) (later : Phase) (fewer : ℕ) (new set : List ℕ) → n < length marks → is_unended (mark_in marks n) ≡ true → is_unended to ≡ false → IsSettled (slice_set marks n to) later → fewer ≡ count_by is_out (slice_set marks n to) → ((k : ℕ) → slice_index_or new k 0 + times k (followers_in links n) ≡ slice_index_or counts k 0) → length new ≡ length counts → AreWaiting (slice_set marks n to) new set → IsKept g (slice_set marks n to) later fewer links new set a b
  ended-kept n to later fewer new set below was is settled outs lowered long each =
      let all : length (slice_set marks n to) ≡ length marks = length-set marks n to in
      record {
        started = h.started;
        nodes = all ∙ h.nodes;
        long = long ∙ h.long;
        begins = h.begins;
        followers = h.followers;
        counted = λ k l.
            let old = h.counted k (omega (arith, l, all)) in
            let change = waits-ended links marks n to below was is k in
            let low = lowered k in
            omega (arith, old, change, low);
        ready = ready-listed (slice_set marks n to) new set (long ∙ h.long ∙ sym (all ∙ h.nodes)) (let few = h.started.nodes in omega (arith, few, all, h.nodes)) each;
        outs = outs;
        settled = settled;
        mark_room = h.mark_room;
        count_room = h.count_room;
      }

  -- a node that was out stays outside the set
  pub out-waits : (n : ℕ) (to : Status) → n < length marks → is_idle (mark_in marks n) ≡ false → is_idle to ≡ false → AreWaiting (slice_set marks n to) counts words
  out-waits n to l was not k = h.ready.each k ∙ elim (cases_eq k n) [
    | inl same ↦
        ap (λ (j : ℕ). is_idle (mark_in marks j) && (slice_index_or counts k 1 == 0)) same
        ∙ ap (λ (c : Bool). c && (slice_index_or counts k 1 == 0)) (was ∙ sym not)
        ∙ ap (λ (s : Status). is_idle s && (slice_index_or counts k 1 == 0)) (sym (ap (λ (j : ℕ). mark_in (slice_set marks n to) j) same ∙ get_or-set_same marks n to Idle l))
    | inr apart ↦ ap (λ (s : Status). is_idle s && (slice_index_or counts k 1 == 0)) (sym (get_or-set_other marks n k to Idle apart))
  ]

  -- there is a count for each mark, and there are few
  pub lower-few : (n : ℕ) (to : Status) (cs : List ℕ) (ms : List Status) → cs ≡ counts → ms ≡ slice_set marks n to → (length cs ≡ length ms) × (length ms ≤ 2048)
  lower-few n to cs ms c m =
      let a = ap length c in
      let b : length ms ≡ length marks = ap length m ∙ length-set marks n to in
      let few = h.started.nodes in
      (omega (arith, a, b, h.long, h.nodes), omega (arith, b, few, h.nodes))
