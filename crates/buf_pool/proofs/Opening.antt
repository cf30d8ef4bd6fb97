-- A pool that is opened seat by seat.
use Rattle.std.proofs.Common.{◌≡◌, ℕ, ◌+◌, ◌<◌, List, [], ◌∷◌, ◌++◌, length, get_or, false, map, replicate, sum_by, arith, sym, ap, ◌∙◌, inl, inr}
use Rattle.std.proofs.lemmas.Bool.{cases_eq}
use Rattle.std.proofs.lemmas.List.{length-replicate, length_push, get_or_append_left, get_or_push, map_push}
use Rattle.std.proofs.lemmas.List.Sums.{sum_by_push}
use Rattle.buf_pool.specs.Pool.{SeatView, IsPool, IsFresh, seat_at, nowhere, leased_in, seen}
use Rattle.std.specs.declared.snapshot.Snapshot.{Snapshot}
use Rattle.buf_pool.specs.declared.seat.Owner.{Owner}
use Rattle.buf_pool.specs.declared.seat.Owner.TheVariants.{Free}
use Rattle.buf_pool.specs.declared.seat.Seat.{Seat}
use Rattle.buf_pool.specs.declared.seat.Place.TheVariants.{Home}
use Rattle.buf_pool.proofs.Keeps.{free_is}

pub record Opened (unit : ℕ) (free : List ℕ) (seats : List SeatView) (i : ℕ) : Type 0 where
  pub pool : IsPool (record { unit = unit; free = free; seats = seats })
  pub fresh : IsFresh (record { unit = unit; free = free; seats = seats }) i

abbrev pub fresh_seat : ℕ → ℕ → SeatView
fresh_seat unit i = record { owner = Free i; out = false; bytes = replicate unit 0 }

module _ (unit : ℕ) (free : List ℕ) (seats : List SeatView) (i : ℕ) (few : i < 2048) (o : Opened unit free seats i) where
  abbrev w : SeatView
  w = fresh_seat unit i

  owner_of : SeatView → Owner
  owner_of v = v.owner

  in_old : (k : ℕ) → k < i → seat_at (seats ++ w ∷ []) k ≡ seat_at seats k
  in_old k h = get_or_append_left seats (w ∷ []) nowhere k (let s = o.fresh.seats in omega arith)

  at_new : (k : ℕ) → k ≡ i → seat_at (seats ++ w ∷ []) k ≡ w
  at_new k e = get_or_push seats w nowhere k (o.fresh.seats ∙ sym e)

  each' : (k : ℕ) → k < i + 1 → seat_at (seats ++ w ∷ []) k ≡ fresh_seat unit k
  each' k h = elim (cases_eq k i) [
    | inl e ↦ at_new k e ∙ ap (fresh_seat unit) (sym e)
    | inr e ↦ let less : k < i = omega (arith, e) in in_old k less ∙ o.fresh.each k less
  ]

  listed' : (at : ℕ) → at < length (free ++ i ∷ []) → (get_or (free ++ i ∷ []) at 0 < length (seats ++ w ∷ [])) × ((seat_at (seats ++ w ∷ []) (get_or (free ++ i ∷ []) at 0)).owner ≡ Free at)
  listed' at h = let f = o.fresh.free in let s = o.fresh.seats in let ms = length_push seats w in let mf = length_push free i in elim (cases_eq at i) [
    | inl e ↦ let is : get_or (free ++ i ∷ []) at 0 ≡ i = get_or_push free i 0 at (f ∙ sym e) in
        (omega arith, ap (λ (v : SeatView). v.owner) (at_new (get_or (free ++ i ∷ []) at 0) is) ∙ ap Free (sym e))
    | inr e ↦ let less : at < i = omega (arith, e, h) in let is = get_or_append_left free (i ∷ []) 0 at (omega arith) in let old = o.pool.listed at (omega arith) in
        let below : get_or (free ++ i ∷ []) at 0 < i = omega (arith, old.0, is, s) in
        (omega arith, ap (λ (v : SeatView). v.owner) (in_old (get_or (free ++ i ∷ []) at 0) below) ∙ (ap (λ (k : ℕ). (seat_at seats k).owner) is ∙ old.1))
  ]

  home' : (k at : ℕ) → k < length (seats ++ w ∷ []) → (seat_at (seats ++ w ∷ []) k).owner ≡ Free at → (at < length (free ++ i ∷ [])) × (get_or (free ++ i ∷ []) at 0 ≡ k) × ((seat_at (seats ++ w ∷ []) k).out ≡ false)
  home' k at h e =
      let f = o.fresh.free in let s = o.fresh.seats in let ms = length_push seats w in let mf = length_push free i in
      let below : k < i + 1 = omega arith in let is = each' k below in
      let same : k ≡ at = free_is k at (ap (λ (v : SeatView). v.owner) (sym is) ∙ e) in
      (omega arith, number k at same below, ap (λ (v : SeatView). v.out) is)
    where
      number : (k at : ℕ) → k ≡ at → k < i + 1 → get_or (free ++ i ∷ []) at 0 ≡ k
      number k at same below = elim (cases_eq at i) [
        | inl e ↦ get_or_push free i 0 at (o.fresh.free ∙ sym e) ∙ sym (same ∙ e)
        | inr e ↦ let less : at < i = omega (arith, e, same, below) in let f = o.fresh.free in let s = o.fresh.seats in let fs = o.fresh.each at less in
            get_or_append_left free (i ∷ []) 0 at (omega arith) ∙ ((o.pool.home at at (omega arith) (ap (λ (v : SeatView). v.owner) fs)).1 ∙ sym same)
      ]

  pub opened_push : Opened unit (free ++ i ∷ []) (seats ++ w ∷ []) (i + 1)
  opened_push = let f = o.fresh.free in let s = o.fresh.seats in let ms = length_push seats w in let mf = length_push free i in record {
    pool = record {
      listed = listed';
      whole = let u = o.pool.whole in let t : sum_by leased_in (seats ++ w ∷ []) ≡ sum_by leased_in seats + 0 = sum_by_push leased_in seats w in omega arith;
      room = omega arith;
      home = home';
      long = λ k h. let ms = length_push seats w in let s = o.fresh.seats in let is = each' k (omega arith) in ap (λ (v : SeatView). length v.bytes) is ∙ length-replicate unit 0;
    };
    fresh = record { seats = omega arith; free = omega arith; each = each' };
  }

pub seats_push : (seats : List Seat) (b : List ℕ) (unit i : ℕ) (o : Snapshot Owner) → o.value ≡ Free i → b ≡ replicate unit 0 → map seen (seats ++ record { owner = o; place = Home b } ∷ []) ≡ map seen seats ++ fresh_seat unit i ∷ []
seats_push seats b unit i o free zeros = map_push seen seats (record { owner = o; place = Home b }) ∙ (ap (λ (w : Owner). map seen seats ++ record { owner = w; out = false; bytes = b } ∷ []) free ∙ ap (λ (l : List ℕ). map seen seats ++ record { owner = Free i; out = false; bytes = l } ∷ []) zeros)
