-- Sources that come home one after another, the last first.
use Rattle.std.proofs.Common.{◌≡◌, ◌≢◌, ℕ, ◌<◌, List, [], ◌∷◌, ◌++◌, length, get_or, subst, sym, ap, ◌∙◌, arith, inl, inr, refl, Bool, true, false}
use Rattle.std.specs.Prelude.{◌||◌, nat_eq}
use Rattle.std.specs.List.{IsDistinct, AllByRecursion}
use Rattle.std.proofs.lemmas.Bool.{cases_eq, eq-eqb, eqb-true, or_cases}
use Rattle.std.proofs.lemmas.List.{get_or-set_same, get_or-set_other, length-set}
use Rattle.std.proofs.lemmas.Map.Keys.{IsDistinct-head, IsDistinct-tail}
use Rattle.buf_pool.specs.Pool.{SeatView, PoolView, IsLease, seat_at, put, nowhere}
use Rattle.eng_job.specs.declared.job.Source.{Source}
use Rattle.eng_clients.specs.Seats.{lease_seat, bytes_at}
use Rattle.eng_clients.specs.Gathered.{has, numbers, IsNamed}
use Rattle.eng_clients.specs.Scattered.{SourcesOut, SourcesHome}
use Rattle.eng_clients.proofs.SeatsApart.{seats-differ}

-- what is put at one seat leaves the others as they are
put-else : (p : PoolView) (k : ℕ) (bytes : List ℕ) (inside : k < length p.seats) (j : ℕ) → j ≢ k → seat_at (put p k bytes).seats j ≡ seat_at p.seats j
put-else p k bytes inside j ne = get_or-set_other p.seats k j _ nowhere ne

-- ## One source among others

middle : (P : Source → Type 0) (still : List Source) (s : Source) (done : List Source) → AllByRecursion P (still ++ s ∷ done) → P s
middle P [] s done h = h.0
middle P (x ∷ xs) s done h = middle P xs s done h.1

or-right : (a b : Bool) → b ≡ true → (a || b) ≡ true
or-right true b e = refl
or-right false b e = e

or-left : (a b : Bool) → a ≡ true → (a || b) ≡ true
or-left true b e = refl
or-left false b e = let z : false ≡ true = e in absurd (let u : ⊥ = cc in u)

middle-has : (still : List Source) (s : Source) (done : List Source) → has (numbers (still ++ s ∷ done)) s.at ≡ true
middle-has [] s done = or-left (nat_eq s.at s.at) (has (numbers done) s.at) (eq-eqb s.at s.at refl)
middle-has (x ∷ xs) s done = or-right (nat_eq s.at x.at) (has (numbers (xs ++ s ∷ done)) s.at) (middle-has xs s done)

behind-has : (still : List Source) (s : Source) (done : List Source) (b : ℕ) → has (numbers done) b ≡ true → has (numbers (still ++ s ∷ done)) b ≡ true
behind-has [] s done b h = or-right (nat_eq b s.at) (has (numbers done) b) h
behind-has (x ∷ xs) s done b h = or-right (nat_eq b x.at) (has (numbers (xs ++ s ∷ done)) b) (behind-has xs s done b h)

-- what differs from all of them isn't one of them
none-has : (x : ℕ) (xs : List ℕ) → AllByRecursion (λ z. nat_eq x z ≡ false) xs → has xs x ≡ false
none-has x [] h = refl
none-has x (z ∷ zs) h = ap (λ (t : Bool). t || has zs x) h.0 ∙ none-has x zs h.1

middle-once : (still : List Source) (s : Source) (done : List Source) → IsDistinct nat_eq (numbers (still ++ s ∷ done)) → has (numbers done) s.at ≡ false
middle-once [] s done h = none-has s.at (numbers done) (IsDistinct-head nat_eq s.at (numbers done) h)
middle-once (x ∷ xs) s done h = middle-once xs s done (IsDistinct-tail nat_eq x.at (numbers (xs ++ s ∷ done)) h)

-- ## One more comes home

-- none has come home yet
pub none-home : (p : PoolView) (lease : List ℕ) → SourcesHome p lease [] p
none-home p lease = record {
  unit = refl;
  free = refl;
  seats = refl;
  owner = λ k. refl;
  bytes = λ k. refl;
  came = λ k h. let z : false ≡ true = h.1 in absurd (let u : ⊥ = cc in u);
  others = λ k ne. refl;
}

module _ (old p : PoolView) (lease : List ℕ) (still : List Source) (s : Source) (done : List Source) (leased : IsLease old lease) (out : SourcesOut old lease (still ++ s ∷ done)) (home : SourcesHome old lease done p) where
  abbrev seat : ℕ
  seat = get_or lease s.at 0

  pub one-below : s.at < length lease
  one-below = out.below s.at (middle-has still s done)

  -- it isn't one that has come home
  apart : IsNamed lease (numbers done) seat → ⊥
  apart h =
      let same = seats-differ old lease leased h.0 s.at (out.below h.0 (behind-has still s done h.0 h.1)) one-below h.2 in
      let z : false ≡ true = sym (middle-once still s done out.once) ∙ subst (λ (b : ℕ). has (numbers done) b ≡ true) same h.1 in
      let u : ⊥ = cc in u

  pub one-out : (lease_seat p lease s.at).out ≡ true
  one-out = ap (λ (v : SeatView). v.out) (home.others seat apart) ∙ out.seats s.at (middle-has still s done)

  pub one-long : length s.buffer ≡ p.unit
  one-long = middle (λ (t : Source). length t.buffer ≡ old.unit) still s done out.longs ∙ sym home.unit

  pub still-leased : IsLease p lease
  still-leased i lt = let e = home.seats in let m = (leased i lt).0 in (omega (arith, e, m), home.owner (get_or lease i 0) ∙ (leased i lt).1)

  inside : seat < length p.seats
  inside = (still-leased s.at one-below).0

  pub one-home : SourcesHome old lease (s ∷ done) (put p seat s.buffer)
  one-home = record {
    unit = home.unit;
    free = home.free;
    seats = length-set p.seats seat _ ∙ home.seats;
    owner = λ k. elim (cases_eq k seat) [
      | inl e ↦ ap (λ (j : ℕ). (seat_at (put p seat s.buffer).seats j).owner) e ∙ (ap (λ (v : SeatView). v.owner) here ∙ (home.owner seat ∙ sym (ap (λ (j : ℕ). (seat_at old.seats j).owner) e)))
      | inr ne ↦ ap (λ (v : SeatView). v.owner) (put-else p seat s.buffer inside k ne) ∙ home.owner k
    ];
    bytes = λ k. elim (cases_eq k seat) [
      | inl e ↦ ap (λ (j : ℕ). (seat_at (put p seat s.buffer).seats j).bytes) e ∙ (ap (λ (v : SeatView). v.bytes) here ∙ (middle (λ (t : Source). t.buffer ≡ bytes_at old lease t.at) still s done out.bytes ∙ sym (ap (λ (j : ℕ). (seat_at old.seats j).bytes) e)))
      | inr ne ↦ ap (λ (v : SeatView). v.bytes) (put-else p seat s.buffer inside k ne) ∙ home.bytes k
    ];
    came = λ k h. elim (cases_eq k seat) [
      | inl e ↦ ap (λ (j : ℕ). (seat_at (put p seat s.buffer).seats j).out) e ∙ ap (λ (v : SeatView). v.out) here
      | inr ne ↦ ap (λ (v : SeatView). v.out) (put-else p seat s.buffer inside k ne) ∙ home.came k (elim (or_cases (nat_eq h.0 s.at) (has (numbers done) h.0) h.1) [
        | inl e ↦ absurd (ne (sym h.2 ∙ ap (λ (b : ℕ). get_or lease b 0) (eqb-true h.0 s.at e)))
        | inr r ↦ (h.0, r, h.2)
      ])
    ];
    others = λ k none.
        put-else p seat s.buffer inside k (λ e. none (s.at, or-left (nat_eq s.at s.at) (has (numbers done) s.at) (eq-eqb s.at s.at refl), sym e))
        ∙ home.others k (λ h. none (h.0, or-right (nat_eq h.0 s.at) (has (numbers done) h.0) h.1, h.2));
  }
    where
      here : seat_at (put p seat s.buffer).seats seat ≡ record (seat_at p.seats seat) { out = false; bytes = s.buffer }
      here = get_or-set_same p.seats seat _ nowhere inside
