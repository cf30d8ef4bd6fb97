-- A pool of which some buffers left.
use Rattle.std.proofs.Common.{◌≡◌, ◌≢◌, ℕ, ◌<◌, length, sym, ap, ◌∙◌, inl, inr, refl, subst, true}
use Rattle.std.proofs.lemmas.Bool.{cases_eq}
use Rattle.std.proofs.lemmas.List.{get_or-set_same, get_or-set_other, length-set}
use Rattle.buf_pool.specs.Pool.{SeatView, PoolView, seat_at, taken, nowhere}
use Rattle.eng_clients.specs.Seats.{BuffersLeft}

-- none left
pub none-left : (p : PoolView) (is_out : ℕ → Type 0) → ((k : ℕ) → is_out k → ⊥) → BuffersLeft p is_out p
none-left p is_out none = record {
  unit = refl;
  free = refl;
  seats = refl;
  owner = λ k. refl;
  bytes = λ k. refl;
  out = λ k. (λ h. inl h, λ s. elim s [ inl h ↦ h | inr h ↦ absurd (none k h) ]);
}

module _ (p : PoolView) (k : ℕ) (inside : k < length p.seats) where
  abbrev gone : SeatView
  gone = record (seat_at p.seats k) { out = true }

  pub here : seat_at (taken p k).seats k ≡ record (seat_at p.seats k) { out = true }
  here = get_or-set_same p.seats k gone nowhere inside

  else : (j : ℕ) → j ≢ k → seat_at (taken p k).seats j ≡ seat_at p.seats j
  else j ne = get_or-set_other p.seats k j gone nowhere ne

  -- of the seat that is taken the bytes and the owner stay
  pub same : {A : Type 0} (f : SeatView → A) → f (record (seat_at p.seats k) { out = true }) ≡ f (seat_at p.seats k) → (j : ℕ) → f (seat_at (taken p k).seats j) ≡ f (seat_at p.seats j)
  same f e j = elim (cases_eq j k) [
    | inl is ↦ ap (λ (i : ℕ). f (seat_at (taken p k).seats i)) is ∙ (ap f here ∙ (e ∙ sym (ap (λ (i : ℕ). f (seat_at p.seats i)) is)))
    | inr ne ↦ ap f (else j ne)
  ]

  -- one left
  pub one-left : (is_out : ℕ → Type 0) → is_out k → ((j : ℕ) → is_out j → j ≡ k) → BuffersLeft p is_out (taken p k)
  one-left is_out yes_here only = record {
    unit = refl;
    free = refl;
    seats = length-set p.seats k gone;
    owner = same (λ v. v.owner) refl;
    bytes = same (λ v. v.bytes) refl;
    out = λ j. (
      λ h. elim (cases_eq j k) [
        | inl is ↦ inr (subst is_out (sym is) yes_here)
        | inr ne ↦ inl (sym (ap (λ (v : SeatView). v.out) (else j ne)) ∙ h)
      ],
      λ s. elim (cases_eq j k) [
        | inl is ↦ ap (λ (i : ℕ). (seat_at (taken p k).seats i).out) is ∙ ap (λ (v : SeatView). v.out) here
        | inr ne ↦ elim s [ inl h ↦ ap (λ (v : SeatView). v.out) (else j ne) ∙ h | inr h ↦ absurd (ne (only j h)) ]
      ],
    );
  }
