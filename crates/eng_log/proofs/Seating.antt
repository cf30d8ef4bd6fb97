-- A buffer that is taken from its seat and put back.
use Rattle.std.specs.Prelude.{◌≡◌, ◌≢◌, ℕ, ◌<◌, List, length, Bool, true, false, get_or, slice_set, Contains}
use Rattle.std.proofs.Common.{arith, sym, ap, ◌∙◌, refl, subst, inl, inr}
use Rattle.std.proofs.lemmas.Bool.{cases_eq}
use Rattle.std.proofs.lemmas.List.{get_or-set_same, get_or-set_other, length-set, set-set, set-get_or}
use Rattle.std.proofs.lemmas.List.Elements.{Contains-get_or}
use Rattle.buf_pool.specs.declared.seat.Owner.{Owner}
use Rattle.buf_pool.specs.declared.seat.Owner.TheVariants.{Free, Leased}
use Rattle.buf_pool.specs.Pool.{SeatView, PoolView, seat_at, nowhere, taken, put, IsLease, AllHome}
use Rattle.eng_log.specs.Filled.{bytes_of, stored, FillsAlone}

module _ (p : PoolView) (k : ℕ) (inside : k < length p.seats) where
  with_seats : List SeatView → PoolView
  with_seats seats = record { unit = p.unit; free = p.free; seats = seats }

  seat : SeatView
  seat = seat_at p.seats k

  -- taken and put back with these bytes
  pub put-taken : (bytes : List ℕ) → (seat_at p.seats k).out ≡ false → put (taken p k) k bytes ≡ stored p k bytes
  put-taken bytes home =
      let out : SeatView = record (seat_at p.seats k) { out = true } in
      let kept : seat_at (slice_set p.seats k out) k ≡ out = get_or-set_same p.seats k out nowhere inside in
      let back : SeatView = record { owner = (seat_at p.seats k).owner; out = false; bytes = bytes } in
      ap (λ (w : SeatView). record p { seats = slice_set (slice_set p.seats k out) k (record w { out = false; bytes = bytes }) }) kept
      ∙ (ap (λ (s : List SeatView). record p { seats = s }) (set-set p.seats k out back)
      ∙ ap (λ (o : Bool). record p { seats = slice_set p.seats k (record { owner = (seat_at p.seats k).owner; out = o; bytes = bytes }) }) (sym home))

  -- with the bytes that it has
  pub stored-same : stored p k (seat_at p.seats k).bytes ≡ p
  stored-same = ap (λ (s : List SeatView). record p { seats = s }) (set-get_or p.seats k nowhere)

  pub put-same : (bytes : List ℕ) → (seat_at p.seats k).out ≡ false → bytes ≡ (seat_at p.seats k).bytes → put (taken p k) k bytes ≡ p
  put-same bytes home same = put-taken bytes home ∙ (ap (stored p k) same ∙ stored-same)

  pub stored-bytes : (bytes : List ℕ) → (seat_at (stored p k bytes).seats k).bytes ≡ bytes
  stored-bytes bytes = ap (λ (w : SeatView). w.bytes) (get_or-set_same p.seats k (record (seat_at p.seats k) { bytes = bytes }) nowhere inside)

  -- what was put is what stands there now
  pub stored-itself : (q : PoolView) (bytes : List ℕ) → q ≡ stored p k bytes → q ≡ stored p k (seat_at q.seats k).bytes
  stored-itself q bytes is = is ∙ ap (stored p k) (sym (stored-bytes bytes) ∙ ap (λ (r : PoolView). (seat_at r.seats k).bytes) (sym is))

-- a lease's buffers have seats of their own
abbrev place_of : Owner → ℕ
place_of (Free at) = at
place_of (Leased first at) = at

module _ (p : PoolView) (l : List ℕ) (lease : IsLease p l) where
  pub seats-differ : (b c : ℕ) → b < length l → c < length l → get_or l b 0 ≡ get_or l c 0 → b ≡ c
  seats-differ b c hb hc e = ap place_of (sym (lease b hb).1 ∙ (ap (λ (k : ℕ). (seat_at p.seats k).owner) e ∙ (lease c hc).1))

  pub bytes-stored : (b : ℕ) (bytes : List ℕ) → b < length l → bytes_of (stored p (get_or l b 0) bytes) l b ≡ bytes
  bytes-stored b bytes h = stored-bytes p (get_or l b 0) (lease b h).0 bytes

  pub bytes-stored_other : (b c : ℕ) (bytes : List ℕ) → b < length l → c < length l → c ≢ b → bytes_of (stored p (get_or l b 0) bytes) l c ≡ bytes_of p l c
  bytes-stored_other b c bytes hb hc apart = ap (λ (w : SeatView). w.bytes) (get_or-set_other p.seats (get_or l b 0) (get_or l c 0) _ nowhere (λ e. apart (seats-differ c b hc hb e)))

  -- one buffer of the lease was filled
  pub fills-stored : (b : ℕ) (bytes : List ℕ) → b < length l → FillsAlone p l (stored p (get_or l b 0) bytes)
  fills-stored b bytes h = record {
    unit = refl;
    free = refl;
    seats = length-set p.seats k new;
    owners = λ j. elim (cases_eq j k) [ inl e ↦ ap (λ (w : SeatView). w.owner) (at j e) ∙ ap (λ (i : ℕ). (seat_at p.seats i).owner) (sym e) | inr e ↦ ap (λ (w : SeatView). w.owner) (get_or-set_other p.seats k j new nowhere e) ];
    homes = λ j. elim (cases_eq j k) [ inl e ↦ ap (λ (w : SeatView). w.out) (at j e) ∙ ap (λ (i : ℕ). (seat_at p.seats i).out) (sym e) | inr e ↦ ap (λ (w : SeatView). w.out) (get_or-set_other p.seats k j new nowhere e) ];
    others = λ j away. get_or-set_other p.seats k j new nowhere (λ e. away (subst (λ (i : ℕ). Contains l i) (sym e) (Contains-get_or l b 0 h)));
  }
    where
      k : ℕ
      k = get_or l b 0

      new : SeatView
      new = record (seat_at p.seats k) { bytes = bytes }

      at : (j : ℕ) → j ≡ k → seat_at (slice_set p.seats k new) j ≡ new
      at j e = ap (λ (i : ℕ). seat_at (slice_set p.seats k new) i) e ∙ get_or-set_same p.seats k new nowhere (lease b h).0

-- ---- pools of which the bytes of a lease alone change

pub fills-refl : (p : PoolView) (l : List ℕ) → FillsAlone p l p
fills-refl p l = record { unit = refl; free = refl; seats = refl; owners = λ k. refl; homes = λ k. refl; others = λ k away. refl }

pub fills-then : (p q r : PoolView) (l : List ℕ) → FillsAlone p l q → FillsAlone q l r → FillsAlone p l r
fills-then p q r l one two = record {
  unit = two.unit ∙ one.unit;
  free = two.free ∙ one.free;
  seats = two.seats ∙ one.seats;
  owners = λ k. two.owners k ∙ one.owners k;
  homes = λ k. two.homes k ∙ one.homes k;
  others = λ k away. two.others k away ∙ one.others k away;
}

pub fills-lease : (p q : PoolView) (l m : List ℕ) → FillsAlone p l q → IsLease p m → IsLease q m
fills-lease p q l m fills lease = λ i h. (omega (arith, (lease i h).0, fills.seats), fills.owners (get_or m i 0) ∙ (lease i h).1)

pub fills-home : (p q : PoolView) (l m : List ℕ) → FillsAlone p l q → AllHome p m → AllHome q m
fills-home p q l m fills home = λ i h. fills.homes (get_or m i 0) ∙ home i h

-- ---- taken, and put back with other bytes

pub seat-stored : (p q r : PoolView) (k : ℕ) (bytes : List ℕ) → k < length p.seats → (seat_at p.seats k).out ≡ false → q ≡ taken p k → r ≡ put q k bytes → r ≡ stored p k (seat_at r.seats k).bytes
seat-stored p q r k bytes inside home left back = stored-itself p k inside r bytes (back ∙ (ap (λ (h : PoolView). put h k bytes) left ∙ put-taken p k inside bytes home))
