-- Sources that are gathered one after another.
use Rattle.std.proofs.Common.{◌≡◌, ◌≢◌, ℕ, zero, suc, ◌<◌, ◌≤◌, ◌⊎◌, List, [], ◌∷◌, ◌++◌, length, get_or, map, bit_xor, subst, sym, ap, ◌∙◌, arith, inl, inr, refl, Bool, true, false, take, length-append}
use Rattle.std.proofs.lemmas.Cmp.{nat_eq_equiv}
use Rattle.std.specs.Prelude.{slice_index, if◌then◌else◌, ◌==◌, not, ◌||◌, nat_eq, ◌↔◌}
use Rattle.std.specs.List.{IsDistinct, AllByRecursion}
use Rattle.std.specs.Int.Bits.{xor_assoc, xor_self, xor_zero_l, xor_zero_r}
use Rattle.std.specs.Cmp.{IsEquivalence}
use Rattle.std.proofs.lemmas.Nat.{xor_comm}
use Rattle.std.proofs.lemmas.Bool.{cases_eq, eq-eqb, ne_eqb, eqb-true, eqb-false, or_cases, cases_Bool}
use Rattle.std.proofs.lemmas.List.{map_push, length-map}
use Rattle.std.proofs.lemmas.List.Folds.{list_any-append}
use Rattle.std.proofs.lemmas.Map.Keys.{IsDistinct-push, IsDistinct-head, IsDistinct-tail}
use Rattle.std.proofs.lemmas.Map.Made.{IsDistinct-from_count}
use Rattle.std.proofs.lemmas.Map.Steps.{length-le_from_distinct_below}
use Rattle.buf_pool.specs.Pool.{PoolView, taken, IsLease}
use Rattle.graph_mean.specs.Sums.{xor_by}
use Rattle.eng_job.specs.declared.job.Source.{Source}
use Rattle.eng_job.specs.Performed.{byte_at, sum_at}
use Rattle.eng_job.proofs.Front.{sum_push}
use Rattle.eng_clients.specs.Seats.{lease_seat, bytes_at, BuffersLeft}
use Rattle.eng_clients.specs.Gathered.{has, turned, source_of, GathersOne, IsNamed, numbers, Gathered}
use Rattle.eng_clients.proofs.Pools.{one-left, none-left}
use Rattle.eng_clients.proofs.SeatsApart.{seats-differ}

-- ## Lists of numbers

-- equality of numbers
same-numbers : IsEquivalence nat_eq
same-numbers = nat_eq_equiv

or-false : (t : Bool) → (t || false) ≡ t
or-false true = refl
or-false false = refl

or-true : (t : Bool) → (t || true) ≡ true
or-true true = refl
or-true false = refl

or-parts : (s t : Bool) → (s || t) ≡ false → (s ≡ false) × (t ≡ false)
or-parts true t e = let z : true ≡ false = e in absurd (let u : ⊥ = cc in u)
or-parts false t e = (refl, e)

pub has-push : (xs : List ℕ) (x b : ℕ) → has (xs ++ x ∷ []) b ≡ (has xs b || nat_eq b x)
has-push xs x b = list_any-append (nat_eq b) xs (x ∷ []) ∙ ap (λ (t : Bool). has xs b || t) (or-false (nat_eq b x))

pub has-last : (xs : List ℕ) (x : ℕ) → has (xs ++ x ∷ []) x ≡ true
has-last xs x = has-push xs x x ∙ (ap (λ (t : Bool). has xs x || t) (eq-eqb x x refl) ∙ or-true (has xs x))

pub has-more : (xs : List ℕ) (x b : ℕ) → has xs b ≡ true → has (xs ++ x ∷ []) b ≡ true
has-more xs x b h = has-push xs x b ∙ ap (λ (t : Bool). t || nat_eq b x) h

pub has-take : (xs : List ℕ) (i a : ℕ) → has (take i xs) a ≡ true → has xs a ≡ true
has-take [] zero a h = h
has-take [] (suc i) a h = h
has-take (x ∷ xs) zero a h = let z : false ≡ true = h in absurd (let u : ⊥ = cc in u)
has-take (x ∷ xs) (suc i) a h = elim (or_cases (nat_eq a x) (has (take i xs) a) h) [
  | inl e ↦ ap (λ (t : Bool). t || has xs a) e
  | inr r ↦ ap (λ (t : Bool). nat_eq a x || t) (has-take xs i a r) ∙ or-true (nat_eq a x)
]

pub has-cases : (xs : List ℕ) (x b : ℕ) → has (xs ++ x ∷ []) b ≡ true → (has xs b ≡ true) ⊎ (b ≡ x)
has-cases xs x b h = elim (or_cases (has xs b) (nat_eq b x) (sym (has-push xs x b) ∙ h)) [ inl a ↦ inl a | inr e ↦ inr (eqb-true b x e) ]

-- ## Sums

pub xor_by-push : (f : ℕ → ℕ) (xs : List ℕ) (x : ℕ) → xor_by f (xs ++ x ∷ []) ≡ bit_xor (xor_by f xs) (f x)
xor_by-push f [] x = xor_zero_r (f x) ∙ sym (xor_zero_l (f x))
xor_by-push f (y ∷ xs) x = ap (bit_xor (f y)) (xor_by-push f xs x) ∙ sym (xor_assoc (f y) (xor_by f xs) (f x))

-- a source that counts the other way adds its byte
turned-byte : (b k : ℕ) (s : Source) → s.at ≡ b → byte_at (turned b s) k ≡ bit_xor (byte_at s k) (slice_index s.buffer k)
turned-byte b k s is = ap (λ (t : Bool). byte_at (if t then record s { counts = not s.counts } else s) k) (eq-eqb s.at b is) ∙ by_case s.counts
  where
    by_case : (t : Bool) → (if not t then slice_index s.buffer k else 0) ≡ bit_xor (if t then slice_index s.buffer k else 0) (slice_index s.buffer k)
    by_case true = sym (xor_self (slice_index s.buffer k))
    by_case false = sym (xor_zero_l (slice_index s.buffer k))

turned-other : (b : ℕ) (s : Source) → s.at ≢ b → turned b s ≡ s
turned-other b s ne = ap (λ (t : Bool). if t then record s { counts = not s.counts } else s) (ne_eqb s.at b ne)

-- where it isn't there, nothing changes
turned-none : (b : ℕ) (from : List Source) → has (numbers from) b ≡ false → map (turned b) from ≡ from
turned-none b [] h = refl
turned-none b (s ∷ ss) h =
    let parts = or-parts (nat_eq b s.at) (has (numbers ss) b) h in
    ap (λ (t : Source). t ∷ map (turned b) ss) (turned-other b s (λ e. eqb-false b s.at parts.0 (sym e))) ∙ ap (λ (l : List Source). s ∷ l) (turned-none b ss parts.1)

-- what differs from all of them isn't one of them
none-has : (x y : ℕ) (xs : List ℕ) → x ≡ y → AllByRecursion (λ z. nat_eq x z ≡ false) xs → has xs y ≡ false
none-has x y [] e h = refl
none-has x y (z ∷ zs) e h = ap (λ (t : Bool). t || has zs y) (ap (λ (a : ℕ). nat_eq a z) (sym e) ∙ h.0) ∙ none-has x y zs e h.1

move-last : (a b c : ℕ) → bit_xor (bit_xor a b) c ≡ bit_xor (bit_xor a c) b
move-last a b c = xor_assoc a b c ∙ (ap (bit_xor a) (xor_comm b c) ∙ sym (xor_assoc a c b))

turned-sum : (bytes : ℕ → List ℕ) (b k : ℕ) (from : List Source) → AllByRecursion (λ (s : Source). s.buffer ≡ bytes s.at) from → IsDistinct nat_eq (numbers from) → has (numbers from) b ≡ true → sum_at (map (turned b) from) k ≡ bit_xor (sum_at from k) (slice_index (bytes b) k)
turned-sum bytes b k [] all once h = let z : false ≡ true = h in absurd (let u : ⊥ = cc in u)
turned-sum bytes b k (s ∷ ss) all once h = elim (cases_eq s.at b) [
  | inl is ↦ ap (λ (l : List Source). bit_xor (byte_at (turned b s) k) (sum_at l k)) (turned-none b ss (none-has s.at b (numbers ss) is (IsDistinct-head nat_eq s.at (numbers ss) once)))
      ∙ (ap (λ (x : ℕ). bit_xor x (sum_at ss k)) (turned-byte b k s is ∙ ap (λ (l : List ℕ). bit_xor (byte_at s k) (slice_index l k)) (all.0 ∙ ap bytes is))
      ∙ move-last (byte_at s k) (slice_index (bytes b) k) (sum_at ss k))
  | inr ne ↦ ap (λ (t : Source). bit_xor (byte_at t k) (sum_at (map (turned b) ss) k)) (turned-other b s ne)
      ∙ (ap (bit_xor (byte_at s k)) (turned-sum bytes b k ss all.1 (IsDistinct-tail nat_eq s.at (numbers ss) once) (rest ne)) ∙ sym (xor_assoc (byte_at s k) (sum_at ss k) (slice_index (bytes b) k)))
]
  where
    rest : s.at ≢ b → has (numbers ss) b ≡ true
    rest ne = elim (or_cases (nat_eq b s.at) (has (numbers ss) b) h) [ inl e ↦ absurd (ne (sym (eqb-true b s.at e))) | inr r ↦ r ]

turned-at : (b : ℕ) (s : Source) → (turned b s).at ≡ s.at
turned-at b s = by_case (s.at == b)
  where
    by_case : (t : Bool) → (if t then record s { counts = not s.counts } else s).at ≡ s.at
    by_case true = refl
    by_case false = refl

turned-buffer : (b : ℕ) (s : Source) → (turned b s).buffer ≡ s.buffer
turned-buffer b s = by_case (s.at == b)
  where
    by_case : (t : Bool) → (if t then record s { counts = not s.counts } else s).buffer ≡ s.buffer
    by_case true = refl
    by_case false = refl

turned-numbers : (b : ℕ) (from : List Source) → numbers (map (turned b) from) ≡ numbers from
turned-numbers b [] = refl
turned-numbers b (s ∷ ss) = ap (λ (a : ℕ). a ∷ numbers (map (turned b) ss)) (turned-at b s) ∙ ap (λ (l : List ℕ). s.at ∷ l) (turned-numbers b ss)

turned-bytes : (bytes : ℕ → List ℕ) (b : ℕ) (from : List Source) → AllByRecursion (λ (s : Source). s.buffer ≡ bytes s.at) from → AllByRecursion (λ (s : Source). s.buffer ≡ bytes s.at) (map (turned b) from)
turned-bytes bytes b [] h = h
turned-bytes bytes b (s ∷ ss) h = (turned-buffer b s ∙ (h.0 ∙ ap bytes (sym (turned-at b s))), turned-bytes bytes b ss h.1)

bytes-push : (bytes : ℕ → List ℕ) (from : List Source) (s : Source) → AllByRecursion (λ (s : Source). s.buffer ≡ bytes s.at) from → s.buffer ≡ bytes s.at → AllByRecursion (λ (s : Source). s.buffer ≡ bytes s.at) (from ++ s ∷ [])
bytes-push bytes [] s h e = (e, tt)
bytes-push bytes (x ∷ xs) s h e = (h.0, bytes-push bytes xs s h.1 e)

long-push : (unit : ℕ) (from : List Source) (s : Source) → AllByRecursion (λ (t : Source). length t.buffer ≡ unit) from → length s.buffer ≡ unit → AllByRecursion (λ (t : Source). length t.buffer ≡ unit) (from ++ s ∷ [])
long-push unit [] s h e = (e, tt)
long-push unit (x ∷ xs) s h e = (h.0, long-push unit xs s h.1 e)

turned-long : (unit b : ℕ) (from : List Source) → AllByRecursion (λ (t : Source). length t.buffer ≡ unit) from → AllByRecursion (λ (t : Source). length t.buffer ≡ unit) (map (turned b) from)
turned-long unit b [] h = h
turned-long unit b (s ∷ ss) h = (ap length (turned-buffer b s) ∙ h.0, turned-long unit b ss h.1)

-- ## One source more

-- buffers that left one after another
pub left-twice : (a b c : PoolView) (P Q R : ℕ → Type 0) → BuffersLeft a P b → BuffersLeft b Q c → ((k : ℕ) → R k ↔ (P k ⊎ Q k)) → BuffersLeft a R c
left-twice a b c P Q R f g split = record {
  unit = g.unit ∙ f.unit;
  free = g.free ∙ f.free;
  seats = g.seats ∙ f.seats;
  owner = λ k. g.owner k ∙ f.owner k;
  bytes = λ k. g.bytes k ∙ f.bytes k;
  out = λ k. (
    λ h. elim ((g.out k).0 h) [
      | inl was ↦ elim ((f.out k).0 was) [ inl first ↦ inl first | inr p ↦ inr ((split k).1 (inl p)) ]
      | inr q ↦ inr ((split k).1 (inr q))
    ],
    λ s. elim s [
      | inl first ↦ (g.out k).1 (inl ((f.out k).1 (inl first)))
      | inr r ↦ elim ((split k).0 r) [ inl p ↦ (g.out k).1 (inl ((f.out k).1 (inr p))) | inr q ↦ (g.out k).1 (inr q) ]
    ],
  );
}

module _ (old : PoolView) (lease named : List ℕ) (p : PoolView) (from : List Source) (b : ℕ) (leased : IsLease old lease) (inside : b < length lease) (each : (a : ℕ) → has named a ≡ true → a < length lease)
    (home : (lease_seat old lease b).out ≡ false) (g : Gathered old lease named p from) where
  abbrev more : List ℕ
  more = named ++ b ∷ []

  seat-below : get_or lease b 0 < length p.seats
  seat-below = let e = g.pool.seats in let lt = (leased b inside).0 in omega (arith, e, lt)

  -- it is out exactly if it is named already
  named-if-out : (lease_seat p lease b).out ≡ true → has named b ≡ true
  named-if-out out = elim ((g.pool.out (get_or lease b 0)).0 out) [
    | inl was ↦ let z : false ≡ true = sym home ∙ was in absurd (let u : ⊥ = cc in u)
    | inr n ↦ subst (λ (a : ℕ). has named a ≡ true) (seats-differ old lease leased n.0 b (each n.0 n.1) inside n.2) n.1
  ]

  out-if-named : has named b ≡ true → (lease_seat p lease b).out ≡ true
  out-if-named h = (g.pool.out (get_or lease b 0)).1 (inr (b, h, refl))

  split-home : (k : ℕ) → IsNamed lease more k ↔ (IsNamed lease named k ⊎ (k ≡ get_or lease b 0))
  split-home k = (
    λ n. elim (has-cases named b n.0 n.1) [ inl h ↦ inl (n.0, h, n.2) | inr e ↦ inr (sym n.2 ∙ ap (λ (a : ℕ). get_or lease a 0) e) ],
    λ s. elim s [ inl n ↦ (n.0, has-more named b n.0 n.1, n.2) | inr e ↦ (b, has-last named b, sym e) ],
  )

  split-out : has named b ≡ true → (k : ℕ) → IsNamed lease more k ↔ (IsNamed lease named k ⊎ ⊥)
  split-out h k = (
    λ n. elim (has-cases named b n.0 n.1) [ inl i ↦ inl (n.0, i, n.2) | inr e ↦ inl (b, h, sym (ap (λ (a : ℕ). get_or lease a 0) e) ∙ n.2) ],
    λ s. elim s [ inl n ↦ (n.0, has-more named b n.0 n.1, n.2) | inr e ↦ absurd e ],
  )

  when-home : (new : PoolView) (now : List Source) → GathersOne p lease b from new now → (lease_seat p lease b).out ≡ false → Gathered old lease more new now
  when-home new now one in_pool =
      let h = one.home in_pool in
      let fresh : has named b ≡ false = elim (cases_Bool (has named b)) [ inl t ↦ (let z : false ≡ true = sym in_pool ∙ out-if-named t in absurd (let u : ⊥ = cc in u)) | inr f ↦ f ] in
      let s : Source = source_of p lease b in
      let same : s.buffer ≡ bytes_at old lease b = g.pool.bytes (get_or lease b 0) in
      record {
        pool = subst (λ (q : PoolView). BuffersLeft old (IsNamed lease more) q) (sym h.0) (left-twice old p (taken p (get_or lease b 0)) (IsNamed lease named) (λ k. k ≡ get_or lease b 0) (IsNamed lease more) g.pool (one-left p (get_or lease b 0) seat-below (λ k. k ≡ get_or lease b 0) refl (λ j e. e)) split-home);
        bytes = subst (λ (l : List Source). AllByRecursion (λ (t : Source). t.buffer ≡ bytes_at old lease t.at) l) (sym h.1) (bytes-push (bytes_at old lease) from s g.bytes same);
        long = subst (λ (l : List Source). AllByRecursion (λ (t : Source). length t.buffer ≡ old.unit) l) (sym h.1) (long-push old.unit from s g.long (h.2 ∙ g.pool.unit));
        all = λ a. ap (λ (l : List Source). has (numbers l) a) h.1 ∙ (ap (λ (l : List ℕ). has l a) (map_push (λ (t : Source). t.at) from s) ∙ (has-push (numbers from) b a ∙ (ap (λ (t : Bool). t || nat_eq a b) (g.all a) ∙ sym (has-push named b a))));
        once = subst (λ (l : List Source). IsDistinct nat_eq (numbers l)) (sym h.1) (subst (λ (l : List ℕ). IsDistinct nat_eq l) (sym (map_push (λ (t : Source). t.at) from s)) (IsDistinct-push same-numbers (numbers from) b g.once (g.all b ∙ fresh)));
        sum = λ k. ap (λ (l : List Source). sum_at l k) h.1 ∙ (sum_push from s k ∙ (ap (λ (x : ℕ). bit_xor x (slice_index s.buffer k)) (g.sum k) ∙ (ap (λ (l : List ℕ). bit_xor (xor_by (λ a. slice_index (bytes_at old lease a) k) named) (slice_index l k)) same ∙ sym (xor_by-push (λ a. slice_index (bytes_at old lease a) k) named b))));
      }

  when-out : (new : PoolView) (now : List Source) → GathersOne p lease b from new now → (lease_seat p lease b).out ≡ true → Gathered old lease more new now
  when-out new now one out =
      let h = one.out out in
      let known = named-if-out out in
      record {
        pool = subst (λ (q : PoolView). BuffersLeft old (IsNamed lease more) q) (sym h.0) (left-twice old p p (IsNamed lease named) (λ k. ⊥) (IsNamed lease more) g.pool (none-left p (λ k. ⊥) (λ k e. e)) (split-out known));
        bytes = subst (λ (l : List Source). AllByRecursion (λ (t : Source). t.buffer ≡ bytes_at old lease t.at) l) (sym h.1) (turned-bytes (bytes_at old lease) b from g.bytes);
        long = subst (λ (l : List Source). AllByRecursion (λ (t : Source). length t.buffer ≡ old.unit) l) (sym h.1) (turned-long old.unit b from g.long);
        all = λ a. ap (λ (l : List Source). has (numbers l) a) h.1 ∙ (ap (λ (l : List ℕ). has l a) (turned-numbers b from) ∙ (g.all a ∙ known-more a));
        once = subst (λ (l : List Source). IsDistinct nat_eq (numbers l)) (sym h.1) (subst (λ (l : List ℕ). IsDistinct nat_eq l) (sym (turned-numbers b from)) g.once);
        sum = λ k. ap (λ (l : List Source). sum_at l k) h.1 ∙ (turned-sum (bytes_at old lease) b k from g.bytes g.once (g.all b ∙ known) ∙ (ap (λ (x : ℕ). bit_xor x (slice_index (bytes_at old lease b) k)) (g.sum k) ∙ sym (xor_by-push (λ a. slice_index (bytes_at old lease a) k) named b)));
      }
    where
      known-more : (a : ℕ) → has named a ≡ has more a
      known-more a = elim (cases_eq a b) [
        | inl e ↦ ap (has named) e ∙ (named-if-out out ∙ (sym (has-last named b) ∙ ap (has more) (sym e)))
        | inr ne ↦ sym (or-false (has named a)) ∙ (ap (λ (t : Bool). has named a || t) (sym (ne_eqb a b ne)) ∙ sym (has-push named b a))
      ]

  pub gathered-more : (new : PoolView) (now : List Source) → GathersOne p lease b from new now → Gathered old lease more new now
  gathered-more new now one = elim (cases_Bool (lease_seat p lease b).out) [ inl t ↦ when-out new now one t | inr f ↦ when-home new now one f ]

  -- and there is room for it
  pub room-more : (bufs : ℕ) → bufs ≤ 2048 → b < bufs → ((a : ℕ) → has named a ≡ true → a < bufs) → (lease_seat p lease b).out ≡ false → length from < 2048
  room-more bufs few below all in_pool =
      let fresh : has named b ≡ false = elim (cases_Bool (has named b)) [ inl t ↦ (let z : false ≡ true = sym in_pool ∙ out-if-named t in absurd (let u : ⊥ = cc in u)) | inr f ↦ f ] in
      let most = length-le_from_distinct_below (numbers from ++ b ∷ []) bufs (IsDistinct-push same-numbers (numbers from) b g.once (g.all b ∙ fresh))
      (λ q h. elim (has-cases (numbers from) b q h) [ inl n ↦ all q (sym (g.all q) ∙ n) | inr e ↦ subst (λ (a : ℕ). a < bufs) (sym e) below ]) in
      let long = length-append (numbers from) (b ∷ []) in let same = length-map from (λ (s : Source). s.at) in
      omega (arith, most, long, same, few)

-- nothing is gathered yet
pub nothing-gathered : (old : PoolView) (lease : List ℕ) → Gathered old lease [] old []
nothing-gathered old lease = record {
  pool = none-left old (IsNamed lease []) (λ k n. let z : false ≡ true = n.1 in let u : ⊥ = cc in u);
  bytes = tt;
  long = tt;
  all = λ b. refl;
  once = IsDistinct-from_count nat_eq_equiv [] refl;
  sum = λ k. refl;
}

-- a lease of the pool is one still
pub lease-left : (old new : PoolView) (is_out : ℕ → Type 0) (l : List ℕ) → BuffersLeft old is_out new → IsLease old l → IsLease new l
lease-left old new is_out l b h i lt = let e = b.seats in let m = (h i lt).0 in (omega (arith, e, m), b.owner (get_or l i 0) ∙ (h i lt).1)
