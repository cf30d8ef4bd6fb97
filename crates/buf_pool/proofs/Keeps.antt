-- A pool stays one as seats go to a lease and come back.
use Rattle.std.proofs.Common.{◌≡◌, ℕ, zero, ◌+◌, ◌<◌, List, [], ◌∷◌, ◌++◌, length, get_or, set, map, Bool, true, false, arith, sym, ap, ◌∙◌, subst, inl, inr, ◌≢◌, refl}
use Rattle.std.proofs.lemmas.Bool.{cases_eq}
use Rattle.std.proofs.lemmas.List.{get_or-set_same, get_or-set_other, get_or_append_left, get_or_push, length-set, length-map, length_push, get_or-map, map-set}
use Rattle.std.proofs.lemmas.List.Sums.{sum_by-set, get_or-le-sum_by}
use Rattle.buf_pool.specs.declared.seat.Owner.{Owner}
use Rattle.buf_pool.specs.declared.seat.Owner.TheVariants.{Free, Leased}
use Rattle.buf_pool.specs.declared.seat.Seat.{Seat}
use Rattle.buf_pool.specs.declared.seat.Place.{Place}
use Rattle.buf_pool.specs.declared.seat.Place.TheVariants.{Home, Out}
use Rattle.std.specs.declared.snapshot.Snapshot.{Snapshot}
use Rattle.buf_pool.specs.Pool.{SeatView, PoolView, IsPool, seat_at, nowhere, claim, release, leased, leased_in, seen, bytes_in, taken, put, KeepsLeases}

not_free : (o : Owner) (at : ℕ) → leased o ≡ 1 → o ≡ Free at → ⊥
not_free o at l f = let z : leased o ≡ 0 = ap leased f in absurd (omega arith)

pub free_is : (a b : ℕ) → Free a ≡ Free b → a ≡ b
free_is a b e = ap place e
  where
    place : Owner → ℕ
    place (Free at) = at
    place (Leased first at) = 0

-- the seats with another in one place
module _ (seats : List SeatView) (k : ℕ) (w : SeatView) (inside : k < length seats) where
  here : (j : ℕ) → j ≡ k → seat_at (set seats k w) j ≡ w
  here j e = ap (λ (i : ℕ). seat_at (set seats k w) i) e ∙ get_or-set_same seats k w nowhere inside

  else_ : (j : ℕ) → j ≢ k → seat_at (set seats k w) j ≡ seat_at seats j
  else_ j e = get_or-set_other seats k j w nowhere e

abbrev as_view : Owner → Bool → List ℕ → SeatView
as_view o out bytes = record { owner = o; out = out; bytes = bytes }

abbrev owner_of : SeatView → Owner
owner_of v = v.owner

-- each buffer has the unit's bytes still
still_long : (p : PoolView) (k : ℕ) (w : SeatView) (inside : k < length p.seats) → length w.bytes ≡ p.unit → IsPool p → (j : ℕ) → j < length (set p.seats k w) → length (seat_at (set p.seats k w) j).bytes ≡ p.unit
still_long p k w inside many h j l = elim (cases_eq j k) [
  | inl e ↦ ap (λ (v : SeatView). length v.bytes) (here p.seats k w inside j e) ∙ many
  | inr e ↦ let long = length-set p.seats k w in ap (λ (v : SeatView). length v.bytes) (else_ p.seats k w inside j e) ∙ h.long j (omega arith)
]

-- a lease's seat changes, and stays a lease's
module _ (p : PoolView) (k : ℕ) (w : SeatView) (inside : k < length p.seats) (was : leased_in (seat_at p.seats k) ≡ 1) (is : leased_in w ≡ 1) (many : length w.bytes ≡ p.unit) (h : IsPool p) where
  still_listed : (at : ℕ) → at < length p.free → (get_or p.free at 0 < length (set p.seats k w)) × ((seat_at (set p.seats k w) (get_or p.free at 0)).owner ≡ Free at)
  still_listed at l =
      let old = h.listed at l in let long = length-set p.seats k w in
      let apart : get_or p.free at 0 ≢ k = λ e. not_free (seat_at p.seats k).owner at was (ap (λ (i : ℕ). (seat_at p.seats i).owner) (sym e) ∙ old.1) in
      (omega arith, ap owner_of (else_ p.seats k w inside (get_or p.free at 0) apart) ∙ old.1)

  still_home : (j at : ℕ) → j < length (set p.seats k w) → (seat_at (set p.seats k w) j).owner ≡ Free at → (at < length p.free) × (get_or p.free at 0 ≡ j) × ((seat_at (set p.seats k w) j).out ≡ false)
  still_home j at l f = elim (cases_eq j k) [
    | inl e ↦ absurd (not_free w.owner at is (ap owner_of (sym (here p.seats k w inside j e)) ∙ f))
    | inr e ↦ let long = length-set p.seats k w in let s = else_ p.seats k w inside j e in let o = h.home j at (omega arith) (ap owner_of (sym s) ∙ f) in (o.0, o.1, ap (λ (v : SeatView). v.out) s ∙ o.2)
  ]

  pub changes : IsPool (record p { seats = set p.seats k w })
  changes = let long = length-set p.seats k w in record {
    listed = still_listed;
    whole = let t = sum_by-set leased_in p.seats k w nowhere inside in let u = h.whole in omega arith;
    room = let r = h.room in omega arith;
    home = still_home;
    long = still_long p k w inside many h;
  }

-- the last free seat goes to a lease
module _ (p : PoolView) (xs : List ℕ) (k first place : ℕ) (last : p.free ≡ xs ++ k ∷ []) (h : IsPool p) where
  many : length p.free ≡ length xs + 1
  many = ap length last ∙ length_push xs k

  at_last : get_or p.free (length xs) 0 ≡ k
  at_last = ap (λ (l : List ℕ). get_or l (length xs) 0) last ∙ get_or_push xs k 0 (length xs) refl

  in_front : (at : ℕ) → at < length xs → get_or p.free at 0 ≡ get_or xs at 0
  in_front at l = ap (λ (l : List ℕ). get_or l at 0) last ∙ get_or_append_left xs (k ∷ []) 0 at l

  pub last_inside : k < length p.seats
  last_inside = let m = many in let l = (h.listed (length xs) (omega arith)).0 in let e = at_last in omega arith

  pub owned : (seat_at p.seats k).owner ≡ Free (length xs)
  owned = let m = many in ap (λ (i : ℕ). (seat_at p.seats i).owner) (sym at_last) ∙ (h.listed (length xs) (omega arith)).1

  pub last_home : (seat_at p.seats k).out ≡ false
  last_home = (h.home k (length xs) last_inside owned).2

  abbrev w : SeatView
  w = record (seat_at p.seats k) { owner = Leased first place }

  front_listed : (at : ℕ) → at < length xs → (get_or xs at 0 < length (set p.seats k w)) × ((seat_at (set p.seats k w) (get_or xs at 0)).owner ≡ Free at)
  front_listed at l =
      let m = many in let old = h.listed at (omega arith) in let long = length-set p.seats k w in let same = in_front at l in
      let owner : (seat_at p.seats (get_or xs at 0)).owner ≡ Free at = ap (λ (i : ℕ). (seat_at p.seats i).owner) (sym same) ∙ old.1 in
      let apart : get_or xs at 0 ≢ k = λ e. let z = free_is at (length xs) (sym owner ∙ (ap (λ (i : ℕ). (seat_at p.seats i).owner) e ∙ owned)) in absurd (omega arith) in
      (omega arith, ap owner_of (else_ p.seats k w last_inside (get_or xs at 0) apart) ∙ owner)

  front_home : (j at : ℕ) → j < length (set p.seats k w) → (seat_at (set p.seats k w) j).owner ≡ Free at → (at < length xs) × (get_or xs at 0 ≡ j) × ((seat_at (set p.seats k w) j).out ≡ false)
  front_home j at l f = elim (cases_eq j k) [
    | inl e ↦ absurd (not_free (Leased first place) at refl (ap owner_of (sym (here p.seats k w last_inside j e)) ∙ f))
    | inr e ↦ let long = length-set p.seats k w in let s = else_ p.seats k w last_inside j e in let o = h.home j at (omega arith) (ap owner_of (sym s) ∙ f) in
        let m = many in
        let apart : at ≢ length xs = λ a. e (sym o.1 ∙ (ap (λ (i : ℕ). get_or p.free i 0) a ∙ at_last)) in
        let less : at < length xs = omega (arith, o.0, apart) in
        (less, sym (in_front at less) ∙ o.1, ap (λ (v : SeatView). v.out) s ∙ o.2)
  ]

  pub claims : IsPool (record { unit = p.unit; free = xs; seats = claim first place k p.seats })
  claims = let long = length-set p.seats k w in record {
    listed = front_listed;
    whole = let t = sum_by-set leased_in p.seats k w nowhere last_inside in let u = h.whole in let m = many in let z : leased_in (seat_at p.seats k) ≡ 0 = ap leased owned in omega arith;
    room = let r = h.room in omega arith;
    home = front_home;
    long = still_long p k w last_inside (h.long k last_inside) h;
  }

-- a lease's seat is free again
module _ (p : PoolView) (k : ℕ) (inside : k < length p.seats) (was : leased_in (seat_at p.seats k) ≡ 1) (home : (seat_at p.seats k).out ≡ false) (h : IsPool p) where
  pub more_room : length p.free < length p.seats
  more_room = let u = h.whole in let s = get_or-le-sum_by leased_in p.seats k nowhere inside in omega arith

  abbrev v : SeatView
  v = record (seat_at p.seats k) { owner = Free (length p.free) }

  more_listed : (at : ℕ) → at < length (p.free ++ k ∷ []) → (get_or (p.free ++ k ∷ []) at 0 < length (set p.seats k v)) × ((seat_at (set p.seats k v) (get_or (p.free ++ k ∷ []) at 0)).owner ≡ Free at)
  more_listed at l = elim (cases_eq at (length p.free)) [
    | inl e ↦ let is : get_or (p.free ++ k ∷ []) at 0 ≡ k = get_or_push p.free k 0 at (sym e) in let long = length-set p.seats k v in
        (omega arith, ap owner_of (here p.seats k v inside (get_or (p.free ++ k ∷ []) at 0) is) ∙ ap Free (sym e))
    | inr e ↦ let m = length_push p.free k in let less : at < length p.free = omega (arith, e) in let old = h.listed at less in let long = length-set p.seats k v in
        let same = get_or_append_left p.free (k ∷ []) 0 at less in
        let owner : (seat_at p.seats (get_or (p.free ++ k ∷ []) at 0)).owner ≡ Free at = ap (λ (i : ℕ). (seat_at p.seats i).owner) same ∙ old.1 in
        let apart : get_or (p.free ++ k ∷ []) at 0 ≢ k = λ a. not_free (seat_at p.seats k).owner at was (ap (λ (i : ℕ). (seat_at p.seats i).owner) (sym a) ∙ owner) in
        (omega arith, ap owner_of (else_ p.seats k v inside (get_or (p.free ++ k ∷ []) at 0) apart) ∙ owner)
  ]

  more_home : (j at : ℕ) → j < length (set p.seats k v) → (seat_at (set p.seats k v) j).owner ≡ Free at → (at < length (p.free ++ k ∷ [])) × (get_or (p.free ++ k ∷ []) at 0 ≡ j) × ((seat_at (set p.seats k v) j).out ≡ false)
  more_home j at l f = elim (cases_eq j k) [
    | inl e ↦ let s = here p.seats k v inside j e in let is = free_is (length p.free) at (ap owner_of (sym s) ∙ f) in let m = length_push p.free k in
        (omega arith, get_or_push p.free k 0 at is ∙ sym e, ap (λ (x : SeatView). x.out) s ∙ home)
    | inr e ↦ let long = length-set p.seats k v in let s = else_ p.seats k v inside j e in let o = h.home j at (omega arith) (ap owner_of (sym s) ∙ f) in let m = length_push p.free k in
        (omega (arith, o.0), get_or_append_left p.free (k ∷ []) 0 at o.0 ∙ o.1, ap (λ (x : SeatView). x.out) s ∙ o.2)
  ]

  pub releases : IsPool (record { unit = p.unit; free = p.free ++ k ∷ []; seats = release (length p.free) k p.seats })
  releases = let long = length-set p.seats k v in record {
    listed = more_listed;
    whole = let t = sum_by-set leased_in p.seats k v nowhere inside in let u = h.whole in let m = length_push p.free k in omega arith;
    room = let r = h.room in omega arith;
    home = more_home;
    long = still_long p k v inside (h.long k inside) h;
  }

-- the seats as seen, with one written
pub seen_set : (seats : List Seat) (k : ℕ) (s d : Seat) (w : SeatView) → k < length seats → seen s ≡ w → map seen (set seats k s) ≡ set (map seen seats) k w
seen_set seats k s d w inside e = map-set seen seats k s ∙ ap (set (map seen seats) k) e

pub seen_at : (seats : List Seat) (k : ℕ) (s : Seat) → k < length seats → s ≡ get_or seats k s → seat_at (map seen seats) k ≡ seen s
seen_at seats k s inside e = get_or-map seen seats k s nowhere inside ∙ ap seen (sym e)

pub seen_claim : (seats : List Seat) (k : ℕ) (s : Seat) (first place : ℕ) (to : Snapshot Owner) → to.value ≡ Leased first place → k < length seats → s ≡ get_or seats k s → map seen (set seats k (record s { owner = to })) ≡ claim first place k (map seen seats)
seen_claim seats k s first place to is inside e = seen_set seats k (record s { owner = to }) s _ inside (ap (λ (o : Owner). record (seen s) { owner = o }) is ∙ ap (λ (v : SeatView). record v { owner = Leased first place }) (sym (seen_at seats k s inside e)))

pub seen_release : (seats : List Seat) (k : ℕ) (s : Seat) (at : ℕ) (to : Snapshot Owner) → to.value ≡ Free at → k < length seats → s ≡ get_or seats k s → map seen (set seats k (record s { owner = to })) ≡ release at k (map seen seats)
seen_release seats k s at to is inside e = seen_set seats k (record s { owner = to }) s _ inside (ap (λ (o : Owner). record (seen s) { owner = o }) is ∙ ap (λ (v : SeatView). record v { owner = Free at }) (sym (seen_at seats k s inside e)))

-- a seat of a lease is written in the pool's own list
module _ (unit : ℕ) (free : List ℕ) (seats : List Seat) (k : ℕ) (s x : Seat) (inside : k < length seats) (read : s ≡ get_or seats k s) (was : leased s.owner.value ≡ 1) (is : leased x.owner.value ≡ 1) (many : length (seen x).bytes ≡ unit) where
  pub kept : IsPool (record { unit = unit; free = free; seats = map seen seats }) → IsPool (record { unit = unit; free = free; seats = map seen (set seats k x) })
  kept h =
      let long = length-map seats seen in
      subst (λ (l : List SeatView). IsPool (record { unit = unit; free = free; seats = l })) (sym (map-set seen seats k x))
      (changes (record { unit = unit; free = free; seats = map seen seats }) k (seen x) (omega arith) (ap leased_in (seen_at seats k s inside read) ∙ was) is many h)

-- a buffer leaves, or comes home
module _ (unit : ℕ) (free : List ℕ) (seats : List Seat) (k : ℕ) (s : Seat) (inside : k < length seats) (read : s ≡ get_or seats k s) where
  abbrev held : List SeatView → PoolView
  held l = record { unit = unit; free = free; seats = l }

  pub left : (dest : Place) (copy : Snapshot (List ℕ)) (b : List ℕ) → s.place ≡ Home b → dest ≡ Out copy → copy.value ≡ b → held (map seen (set seats k (record { owner = s.owner; place = dest }))) ≡ taken (held (map seen seats)) k
  left dest copy b home out same =
      let bytes : copy.value ≡ (seen s).bytes = same ∙ sym (ap bytes_in home) in
      let is : seen (record { owner = s.owner; place = dest }) ≡ record (seen s) { out = true } =
      ap (λ (p : Place). seen (record { owner = s.owner; place = p })) out ∙ ap (λ (l : List ℕ). as_view s.owner.value true l) bytes in
      ap held (seen_set seats k (record { owner = s.owner; place = dest }) s _ inside (is ∙ ap (λ (v : SeatView). record v { out = true }) (sym (seen_at seats k s inside read))))

  pub left_long : IsPool (held (map seen seats)) → (dest : Place) (copy : Snapshot (List ℕ)) (b : List ℕ) → s.place ≡ Home b → dest ≡ Out copy → copy.value ≡ b → length (seen (record { owner = s.owner; place = dest })).bytes ≡ unit
  left_long h dest copy b home out same =
      let many = length-map seats seen in
      let long : length (seen s).bytes ≡ unit = ap (λ (v : SeatView). length v.bytes) (sym (seen_at seats k s inside read)) ∙ h.long k (omega arith) in
      ap (λ (p : Place). length (bytes_in p)) out ∙ (ap length same ∙ (sym (ap (λ (p : Place). length (bytes_in p)) home) ∙ long))

  pub back : (b : List ℕ) → held (map seen (set seats k (record { owner = s.owner; place = Home b }))) ≡ put (held (map seen seats)) k b
  back b = ap held (seen_set seats k (record { owner = s.owner; place = Home b }) s _ inside (ap (λ (v : SeatView). record v { out = false; bytes = b }) (sym (seen_at seats k s inside read))))

pub leased_not_free : (a b c : ℕ) → Leased a b ≡ Free c → ⊥
leased_not_free a b c e = let z : 1 ≡ zero = ap leased e in absurd (omega arith)

pub leased_place : (a b c d : ℕ) → Leased a b ≡ Leased c d → b ≡ d
leased_place a b c d e = ap place e
  where
    place : Owner → ℕ
    place (Free at) = 0
    place (Leased first at) = at

-- a seat that changes and stays its owner's leaves each lease one
module _ (p : PoolView) (k : ℕ) (w : SeatView) (same : w.owner ≡ (seat_at p.seats k).owner) where
  owner_stays : (j : ℕ) → j < length p.seats → (seat_at (set p.seats k w) j).owner ≡ (seat_at p.seats j).owner
  owner_stays j h = elim (cases_eq j k) [
    | inl e ↦ let inside : k < length p.seats = omega arith in ap owner_of (here p.seats k w inside j e) ∙ (same ∙ ap (λ (i : ℕ). (seat_at p.seats i).owner) (sym e))
    | inr e ↦ ap owner_of (get_or-set_other p.seats k j w nowhere e)
  ]

  pub keeps_leases : KeepsLeases p (record p { seats = set p.seats k w })
  keeps_leases m lease i h = let long = length-set p.seats k w in let inside = (lease i h).0 in (omega arith, owner_stays (get_or m i 0) inside ∙ (lease i h).1)

pub taken_keeps : (p : PoolView) (k : ℕ) → KeepsLeases p (taken p k)
taken_keeps p k = keeps_leases p k (record (seat_at p.seats k) { out = true }) refl

pub put_keeps : (p : PoolView) (k : ℕ) (bytes : List ℕ) → KeepsLeases p (put p k bytes)
put_keeps p k bytes = keeps_leases p k (record (seat_at p.seats k) { out = false; bytes = bytes }) refl
