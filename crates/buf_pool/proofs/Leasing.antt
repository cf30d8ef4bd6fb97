-- The loops that fill a lease and that empty it.
use Rattle.std.proofs.Common.{◌≡◌, ◌≢◌, ℕ, ◌+◌, ◌-◌, ◌<◌, ◌≤◌, List, [], ◌∷◌, ◌++◌, length, get_or, take, drop, Bool, false, Contains, arith, sym, ap, ◌∙◌, subst, refl, inl, inr}
use Rattle.std.proofs.lemmas.Bool.{cases_eq}
use Rattle.std.proofs.lemmas.List.{length_push, length-set, get_or-set_same, get_or-set_other, get_or_append_left, get_or_push, get_or_default, get_or-drop, take_more, take_all, append-nil, append_assoc}
use Rattle.buf_pool.specs.Pool.{SeatView, PoolView, IsLease, IsPool, AllHome, AreApart, IsFree, Leases, StandsApart, Returns, KeepsOthers, claim, release, seat_at, nowhere, leased, leased_in}
use Rattle.buf_pool.specs.declared.seat.Owner.{Owner}
use Rattle.buf_pool.specs.declared.seat.Owner.TheVariants.{Free, Leased}
use Rattle.buf_pool.proofs.Keeps.{leased_place, leased_not_free, releases}

abbrev owner_of : SeatView → Owner
owner_of v = v.owner

abbrev out_of : SeatView → Bool
out_of v = v.out

abbrev bytes_of : SeatView → List ℕ
bytes_of v = v.bytes

-- an element by its place
is_among : (l : List ℕ) (j k : ℕ) → j < length l → get_or l j 0 ≡ k → Contains l k
is_among l j k h e = (j, h, get_or_default l j k 0 h ∙ e)

-- ---- a lease fills

-- the last i seats of the lease, which are the last of the free ones, were given to it
pub record Gives (old : PoolView) (first : ℕ) (l : List ℕ) (now : PoolView) (i : ℕ) : Type 0 where
  pub unit : now.unit ≡ old.unit
  pub free : length old.free ≡ length now.free + i
  pub front : (j : ℕ) → j < length now.free → get_or now.free j 0 ≡ get_or old.free j 0
  pub seats : length now.seats ≡ length old.seats
  pub owned : (j : ℕ) → length l ≤ j + i → j < length l → (get_or l j 0 < length now.seats) × ((seat_at now.seats (get_or l j 0)).owner ≡ Leased first j)
  pub all_home : (j : ℕ) → length l ≤ j + i → j < length l → (seat_at now.seats (get_or l j 0)).out ≡ false
  pub were_free : (j : ℕ) → length l ≤ j + i → j < length l → IsFree (seat_at old.seats (get_or l j 0))
  pub bytes : (j : ℕ) → length l ≤ j + i → j < length l → (seat_at now.seats (get_or l j 0)).bytes ≡ (seat_at old.seats (get_or l j 0)).bytes
  pub others : (k : ℕ) → ((j : ℕ) → length l ≤ j + i → j < length l → get_or l j 0 ≢ k) → seat_at now.seats k ≡ seat_at old.seats k

pub starts : (old : PoolView) (first : ℕ) (l : List ℕ) → Gives old first l old 0
starts old first l = record {
  unit = refl;
  free = omega arith;
  front = λ j h. refl;
  seats = refl;
  owned = λ j a h. absurd (omega arith);
  all_home = λ j a h. absurd (omega arith);
  were_free = λ j a h. absurd (omega arith);
  bytes = λ j a h. absurd (omega arith);
  others = λ k apart. refl;
}

-- one more seat is given, from the end of the free ones
module _ (old now new : PoolView) (first i k place : ℕ) (l : List ℕ) (last : place + i + 1 ≡ length l) (part : l ≡ drop (length old.free - length l) old.free) (enough : length l ≤ length old.free)
    (unit : new.unit ≡ now.unit) (free : now.free ≡ new.free ++ k ∷ []) (seats : new.seats ≡ claim first place k now.seats)
    (inside : k < length now.seats) (at : ℕ) (was : (seat_at now.seats k).owner ≡ Free at) (home : (seat_at now.seats k).out ≡ false) (g : Gives old first l now i) where
  many : length now.free ≡ length new.free + 1
  many = ap length free ∙ length_push new.free k

  here_old : length new.free ≡ (length old.free - length l) + place
  here_old = let m = many in let f = g.free in omega arith

  is : get_or l place 0 ≡ k
  is =
      let m = many in
      let in_part : get_or l place 0 ≡ get_or (drop (length old.free - length l) old.free) place 0 = ap (λ (x : List ℕ). get_or x place 0) part in
      in_part ∙ (get_or-drop (length old.free - length l) old.free place 0 ∙ (ap (λ (x : ℕ). get_or old.free x 0) (sym here_old)
      ∙ (sym (g.front (length new.free) (omega arith)) ∙ (ap (λ (x : List ℕ). get_or x (length new.free) 0) free ∙ get_or_push new.free k 0 (length new.free) refl))))

  new_here : seat_at new.seats k ≡ record (seat_at now.seats k) { owner = Leased first place }
  new_here = ap (λ (s : List SeatView). seat_at s k) seats ∙ get_or-set_same now.seats k (record (seat_at now.seats k) { owner = Leased first place }) nowhere inside

  new_else : (x : ℕ) → x ≢ k → seat_at new.seats x ≡ seat_at now.seats x
  new_else x apart = ap (λ (s : List SeatView). seat_at s x) seats ∙ get_or-set_other now.seats k x (record (seat_at now.seats k) { owner = Leased first place }) nowhere apart

  long : length new.seats ≡ length now.seats
  long = ap length seats ∙ length-set now.seats k (record (seat_at now.seats k) { owner = Leased first place })

  away : (j : ℕ) → length l ≤ j + i → j < length l → get_or l j 0 ≢ k
  away j a h e = leased_not_free first j at (sym (g.owned j a h).1 ∙ (ap (λ (x : ℕ). (seat_at now.seats x).owner) e ∙ was))

  back : (j : ℕ) → length l ≤ j + i → j < length l → seat_at new.seats (get_or l j 0) ≡ seat_at now.seats (get_or l j 0)
  back j a h = new_else (get_or l j 0) (away j a h)

  each : (P : ℕ → ℕ → Type 0) → ((j : ℕ) → length l ≤ j + i → j < length l → P j (get_or l j 0)) → P place k → (j : ℕ) → length l ≤ j + (i + 1) → j < length l → P j (get_or l j 0)
  each P before mine j a h = elim (cases_eq j place) [
    | inl e ↦ subst (λ (x : ℕ). P x (get_or l x 0)) (sym e) (subst (P place) (sym is) mine)
    | inr e ↦ before j (omega (arith, e, a, last)) h
  ]

  was_same : seat_at now.seats k ≡ seat_at old.seats k
  was_same = g.others k away

  pub more : Gives old first l new (i + 1)
  more = record {
    unit = unit ∙ g.unit;
    free = let m = many in let f = g.free in omega arith;
    front = λ j h. let m = many in sym (ap (λ (x : List ℕ). get_or x j 0) free ∙ get_or_append_left new.free (k ∷ []) 0 j h) ∙ g.front j (omega arith);
    seats = long ∙ g.seats;
    owned = each (λ j x. (x < length new.seats) × ((seat_at new.seats x).owner ≡ Leased first j)) (λ j a h. let o = g.owned j a h in let m = long in (let inside_then = o.0 in omega arith, ap owner_of (back j a h) ∙ o.1)) (let m = long in omega arith, ap owner_of new_here);
    all_home = each (λ j x. (seat_at new.seats x).out ≡ false) (λ j a h. ap out_of (back j a h) ∙ g.all_home j a h) (ap out_of new_here ∙ home);
    were_free = each (λ j x. IsFree (seat_at old.seats x)) g.were_free (ap leased_in (sym was_same) ∙ ap leased was);
    bytes = each (λ j x. (seat_at new.seats x).bytes ≡ (seat_at old.seats x).bytes) (λ j a h. ap bytes_of (back j a h) ∙ g.bytes j a h) (ap bytes_of new_here ∙ ap bytes_of was_same);
    others = λ x apart. new_else x (λ e. apart place (omega (arith, last)) (omega (arith, last)) (is ∙ sym e)) ∙ g.others x (λ j a h. apart j (omega (arith, a)) h);
  }

pub ends : (old now : PoolView) (first i n : ℕ) (l : List ℕ) → i ≡ n → length l ≡ n → first ≡ get_or l 0 0 → Gives old first l now i → Leases old n l now
ends old now first i n l e many named g = record {
  count = many;
  unit = g.unit;
  free = let f = g.free in omega arith;
  seats = g.seats;
  is_lease = λ j h. let o = g.owned j (omega arith) h in (o.0, o.1 ∙ ap (λ (f : ℕ). Leased f j) named);
  all_home = λ j h. g.all_home j (omega arith) h;
  were_free = λ j h. g.were_free j (omega arith) h;
  bytes = λ j h. g.bytes j (omega arith) h;
  others = λ k absent. g.others k (λ j a h e. absent (is_among l j k h e));
}

-- the other leases stay, and have no seat of the new one
pub stands_apart : (old new : PoolView) (n : ℕ) (l : List ℕ) → Leases old n l new → StandsApart old l new
stands_apart old new n l g m lease = (
  λ i h. (
    let inside = (lease i h).0 in let many = g.seats in omega arith,
    ap owner_of (g.others (get_or m i 0) (λ has. away i has.0 h has.1 (sym (get_or_default l has.0 0 (get_or m i 0) has.1 ∙ has.2)))) ∙ (lease i h).1,
  ),
  away,
)
  where
    away : AreApart m l
    away i j hi hj e =
        let free : leased_in (seat_at old.seats (get_or m i 0)) ≡ 0 = ap (λ (x : ℕ). leased_in (seat_at old.seats x)) e ∙ g.were_free j hj in
        let taken : leased_in (seat_at old.seats (get_or m i 0)) ≡ 1 = ap leased (lease i hi).1 in
        absurd (omega arith)

-- ---- a lease empties

-- the first i seats of the lease are free again
pub record Frees (old : PoolView) (l : List ℕ) (now : PoolView) (i : ℕ) : Type 0 where
  pub unit : now.unit ≡ old.unit
  pub free : length now.free ≡ length old.free + i
  pub seats : length now.seats ≡ length old.seats
  pub are_free : (j : ℕ) → j < i → j < length l → IsFree (seat_at now.seats (get_or l j 0))
  pub homes : (j : ℕ) → j < length l → (seat_at now.seats (get_or l j 0)).out ≡ (seat_at old.seats (get_or l j 0)).out
  pub bytes : (j : ℕ) → j < length l → (seat_at now.seats (get_or l j 0)).bytes ≡ (seat_at old.seats (get_or l j 0)).bytes
  pub left : (j : ℕ) → i ≤ j → j < length l → seat_at now.seats (get_or l j 0) ≡ seat_at old.seats (get_or l j 0)
  pub others : (k : ℕ) → ¬ Contains l k → seat_at now.seats k ≡ seat_at old.seats k

pub begins : (old : PoolView) (l : List ℕ) → Frees old l old 0
begins old l = record {
  unit = refl;
  free = omega arith;
  seats = refl;
  are_free = λ j h in_l. absurd (omega arith);
  homes = λ j h. refl;
  bytes = λ j h. refl;
  left = λ j a b. refl;
  others = λ k absent. refl;
}

-- one more seat is free
module _ (old now new : PoolView) (l : List ℕ) (i k : ℕ) (in_l : i < length l) (is : k ≡ get_or l i 0) (lease : IsLease old l)
    (unit : new.unit ≡ now.unit) (free : new.free ≡ now.free ++ k ∷ []) (seats : new.seats ≡ release (length now.free) k now.seats) (f : Frees old l now i) where
  inside : k < length now.seats
  inside = let a = (lease i in_l).0 in let b = f.seats in omega arith

  freed_here : seat_at new.seats k ≡ record (seat_at now.seats k) { owner = Free (length now.free) }
  freed_here = ap (λ (s : List SeatView). seat_at s k) seats ∙ get_or-set_same now.seats k (record (seat_at now.seats k) { owner = Free (length now.free) }) nowhere inside

  freed_else : (x : ℕ) → x ≢ k → seat_at new.seats x ≡ seat_at now.seats x
  freed_else x apart = ap (λ (s : List SeatView). seat_at s x) seats ∙ get_or-set_other now.seats k x (record (seat_at now.seats k) { owner = Free (length now.free) }) nowhere apart

  other_place : (j : ℕ) → j < length l → j ≢ i → get_or l j 0 ≢ k
  other_place j h apart e = apart (leased_place (get_or l 0 0) j (get_or l 0 0) i (sym (lease j h).1 ∙ (ap (λ (x : ℕ). (seat_at old.seats x).owner) (e ∙ is) ∙ (lease i in_l).1)))

  -- what is kept of a seat, whoever's it is
  kept : {A : Type 0} (of : SeatView → A) → of (record (seat_at now.seats k) { owner = Free (length now.free) }) ≡ of (seat_at now.seats k) → (j : ℕ) → j < length l → of (seat_at new.seats (get_or l j 0)) ≡ of (seat_at now.seats (get_or l j 0))
  kept of same j h = elim (cases_eq j i) [
    | inl e ↦ let place : get_or l j 0 ≡ k = ap (λ (x : ℕ). get_or l x 0) e ∙ sym is in ap (λ (x : ℕ). of (seat_at new.seats x)) place ∙ (ap of freed_here ∙ (same ∙ ap (λ (x : ℕ). of (seat_at now.seats x)) (sym place)))
    | inr apart ↦ ap of (freed_else (get_or l j 0) (other_place j h apart))
  ]

  pub shrinks : Frees old l new (i + 1)
  shrinks = record {
    unit = unit ∙ f.unit;
    free = let a = ap length free in let b = length_push now.free k in let c = f.free in omega arith;
    seats = ap length seats ∙ (length-set now.seats k (record (seat_at now.seats k) { owner = Free (length now.free) }) ∙ f.seats);
    are_free = λ j h in_lease. elim (cases_eq j i) [
      | inl e ↦ ap (λ (x : ℕ). leased_in (seat_at new.seats x)) (ap (λ (x : ℕ). get_or l x 0) e ∙ sym is) ∙ ap leased_in freed_here
      | inr apart ↦ ap leased_in (freed_else (get_or l j 0) (other_place j in_lease apart)) ∙ f.are_free j (omega arith) in_lease
    ];
    homes = λ j h. kept out_of refl j h ∙ f.homes j h;
    bytes = λ j h. kept bytes_of refl j h ∙ f.bytes j h;
    left = λ j later h. freed_else (get_or l j 0) (other_place j h (λ e. absurd (omega arith))) ∙ f.left j (omega arith) h;
    others = λ x absent. freed_else x (λ e. absent (is_among l i x in_l (sym is ∙ sym e))) ∙ f.others x absent;
  }

-- the pool as it were, had the first i seats of the lease come back one by one: the list of free seats has all of them from the start
abbrev pub so_far : PoolView → List ℕ → List SeatView → ℕ → PoolView
so_far old l seats i = record { unit = old.unit; free = old.free ++ take i l; seats = seats }

pub record Empties (old : PoolView) (l : List ℕ) (seats : List SeatView) (i : ℕ) : Type 0 where
  pub pool : IsPool (so_far old l seats i)
  pub frees : Frees old l (so_far old l seats i) i

pub empties : (old : PoolView) (l : List ℕ) → IsPool old → Empties old l old.seats 0
empties old l h = record {
  pool = subst (λ (f : List ℕ). IsPool (record { unit = old.unit; free = f; seats = old.seats })) (sym (append-nil old.free)) h;
  frees = subst (λ (f : List ℕ). Frees old l (record { unit = old.unit; free = f; seats = old.seats }) 0) (sym (append-nil old.free)) (begins old l);
}

module _ (old : PoolView) (l : List ℕ) (now new : List SeatView) (i k at : ℕ) (in_l : i < length l) (is : k ≡ get_or l i 0) (lease : IsLease old l) (home : AllHome old l)
    (place : at ≡ length old.free + i) (seats : new ≡ release at k now) (e : Empties old l now i) where
  abbrev p : PoolView
  p = so_far old l now i

  more_free : old.free ++ take (i + 1) l ≡ (old.free ++ take i l) ++ k ∷ []
  more_free = ap (λ (x : List ℕ). old.free ++ x) (take_more l i 0 in_l ∙ ap (λ (x : ℕ). take i l ++ x ∷ []) (sym is)) ∙ sym (append_assoc old.free (take i l) (k ∷ []))

  as_before : seat_at now k ≡ seat_at old.seats k
  as_before = ap (λ (x : ℕ). seat_at now x) is ∙ (e.frees.left i (omega arith) in_l ∙ ap (λ (x : ℕ). seat_at old.seats x) (sym is))

  to_end : new ≡ release (length p.free) k now
  to_end = seats ∙ ap (λ (x : ℕ). release x k now) (place ∙ sym e.frees.free)

  in_now : k < length now
  in_now = let a = (lease i in_l).0 in let b = e.frees.seats in omega arith

  mine : leased_in (seat_at now k) ≡ 1
  mine = ap leased_in (as_before ∙ ap (λ (x : ℕ). seat_at old.seats x) is) ∙ ap leased (lease i in_l).1

  at_home : (seat_at now k).out ≡ false
  at_home = ap out_of (as_before ∙ ap (λ (x : ℕ). seat_at old.seats x) is) ∙ home i in_l

  pub empties_more : Empties old l new (i + 1)
  empties_more = record {
    pool = subst (λ (s : List SeatView). IsPool (so_far old l s (i + 1))) (sym to_end)
        (subst (λ (f : List ℕ). IsPool (record { unit = old.unit; free = f; seats = release (length p.free) k now })) (sym more_free) (releases p k in_now mine at_home e.pool));
    frees = shrinks old p (so_far old l new (i + 1)) l i k in_l is lease refl more_free to_end e.frees;
  }

-- all have come back
module _ (old now : PoolView) (l : List ℕ) (seats : List SeatView) (i : ℕ) (all : i ≡ length l) (e : Empties old l seats i) (is : record { unit = old.unit; free = old.free ++ l; seats = seats } ≡ now) where
  whole : so_far old l seats (length l) ≡ now
  whole = ap (λ (f : List ℕ). record { unit = old.unit; free = old.free ++ f; seats = seats }) (take_all (length l) l (omega arith)) ∙ is

  pub emptied_pool : IsPool now
  emptied_pool = subst IsPool whole (subst (λ (n : ℕ). IsPool (so_far old l seats n)) all e.pool)

  pub emptied : Frees old l now (length l)
  emptied = subst (λ (q : PoolView). Frees old l q (length l)) whole (subst (λ (n : ℕ). Frees old l (so_far old l seats n) n) all e.frees)

pub returned : (old now : PoolView) (l : List ℕ) (i : ℕ) → i ≡ length l → AllHome old l → Frees old l now i → Returns old l now
returned old now l i e home f = record {
  unit = f.unit;
  free = let a = f.free in omega arith;
  seats = f.seats;
  are_free = λ j h. f.are_free j (omega arith) h;
  all_home = λ j h. f.homes j h ∙ home j h;
  bytes = f.bytes;
  others = f.others;
}

-- the other leases stay
pub keeps_others : (old new : PoolView) (l : List ℕ) → Returns old l new → KeepsOthers old l new
keeps_others old new l r m lease apart i h = (
  let inside = (lease i h).0 in let many = r.seats in omega arith,
  ap owner_of (r.others (get_or m i 0) (λ has. apart i has.0 h has.1 (sym (get_or_default l has.0 0 (get_or m i 0) has.1 ∙ has.2)))) ∙ (lease i h).1,
)
