-- Devices that were looked at are at home again.
use Rattle.std.specs.Prelude.{◌≡◌, ◌<◌, ◌≤◌, ◌↔◌, ℕ, zero, suc, List, [], ◌∷◌, ◌++◌, length, take, drop, Option, Some, None, IsSome, Contains, slice_get}
use Rattle.std.proofs.Common.{arith, refl, sym, ap, subst, ◌∙◌, ⊎_elim, append-nil}
use Rattle.std.proofs.lemmas.Bool.{cases_lt}
use Rattle.std.proofs.lemmas.List.{drop_all, take_all}
use Rattle.std.proofs.lemmas.List.Elements.{Contains-get_or}
use Rattle.std.proofs.lemmas.Option.{get_or_from_slice_get, slice_get_past, slice_get_within}
use Rattle.blk_disk.specs.Devices.{AreNamed, Changes, StaysIf, at_home, device_at}
use Rattle.blk_disk.specs.declared.disk.Disk.{Ghosts}
use Rattle.blk_disk.proofs.DeviceLaws.{stays-refl}
use Rattle.raid_text.specs.Text.{Text}
use Rattle.top_bay.specs.Lent.{AreBack, AreOut, IsLent, IsMeant}
use Rattle.top_bay.proofs.Homes.{at_home-named, device_at-past}
use Rattle.top_bay.proofs.Meant.{by_meant}

-- a slice that is written back over a list as long
pub written_back : {X : Type 0} (n : ℕ) (xs ys : List X) → length ys ≡ n → length xs ≡ n → take n (xs ++ drop (length xs) ys) ≡ xs
written_back n xs ys one other = ap (λ l. take n (xs ++ l)) (drop_all (length xs) ys (omega (arith, one, other))) ∙ (ap (take n) (append-nil xs) ∙ take_all n xs (omega (arith, other)))

-- a device is there where it was
there_still : {D : Type 0} (g : Ghosts D) (may : ℕ → Type 0) (x z : Option D) (P : Type 0) → StaysIf g may x z → (IsSome x ↔ P) → (IsSome z ↔ P)
there_still g may None None P stays is = is
there_still g may None (Some z) P stays is = absurd stays
there_still g may (Some x) None P stays is = absurd stays
there_still g may (Some x) (Some z) P stays is = (λ h. is.0 refl, λ p. refl)

pub out_still : {D : Type 0} (g : Ghosts D) (may : ℕ → ℕ → Type 0) (is_out : Text → Type 0) (names : List Text) (old new : List (Option D)) → Changes g may old new → AreOut is_out names old → AreOut is_out names new
out_still g may is_out names old new stays out = record {
  there = λ d n lt is. there_still g (may d) (device_at old d) (device_at new d) (n ≡ [] → ⊥) (stays.each d) (out.there d n (omega (arith, lt, stays.count)) is);
  out = λ d n lt is named. out.out d n (omega (arith, lt, stays.count)) is named;
}

same_if : {D : Type 0} (g : Ghosts D) (x : Option D) → StaysIf g (λ _. ⊥) x x
same_if g None = tt
same_if g (Some x) = stays-refl g (λ _. ⊥) x

-- what is as it was has changed in nothing
pub same_stays : {D : Type 0} (g : Ghosts D) (x z : Option D) → z ≡ x → StaysIf g (λ _. ⊥) x z
same_stays {D} g x z e = subst (λ (y : Option D). StaysIf g (λ _. ⊥) x y) (sym e) (same_if g x)

-- a name that none of the names is has what it had
pub others_home : {D : Type 0} (home mid after : Text → Option D) (names : List Text) (taken devices : List (Option D)) → length devices ≡ length taken
    → ((n : Text) → (IsMeant names (length taken) n → ⊥) → mid n ≡ home n) → AreBack mid after names devices
    → (n : Text) → (Contains names n → ⊥) → after n ≡ home n
others_home home mid after names taken devices count lent back n away =
    let apart : (k : ℕ) → IsMeant names k n → ⊥ = λ k m. away (subst (λ (x : Text). Contains names x) (get_or_from_slice_get names m.at n n m.is) (Contains-get_or names m.at n (slice_get_within names m.at n m.is))) in
    back.others n (apart (length devices)) ∙ lent n (apart (length taken))

module _ {D : Type 0} (g : Ghosts D) (home mid after : Text → Option D) (is_out : Text → Type 0) (names : List Text) (taken devices : List (Option D)) (stays : Changes g (λ _ _. ⊥) taken devices) (out : AreOut is_out names devices) (back : AreBack mid after names devices) where
  -- they are those of the names
  pub back_named : length devices ≡ length names → AreNamed after names devices
  back_named many = record {
    count = many;
    each = λ d. ⊎_elim
        (λ lt. within d (slice_get names d) refl lt)
        (λ past. device_at-past devices d past ∙ ap (λ (o : Option Text). at_home after o) (sym (slice_get_past names d (omega (arith, many, past))))) (cases_lt d (length devices));
  }
    where
      nothing : (x : Option D) → (IsSome x → ⊥) → x ≡ None
      nothing None apart = refl
      nothing (Some x) apart = absurd (apart refl)

      within : (d : ℕ) (o : Option Text) → slice_get names d ≡ o → d < length devices → device_at devices d ≡ at_home after o
      within d None e lt = absurd (omega (arith, many, lt, slice_get-none names d e))
        where
          slice_get-none : (xs : List Text) (i : ℕ) → slice_get xs i ≡ None → length xs ≤ i
          slice_get-none [] i h = omega arith
          slice_get-none (x ∷ xs) zero h = cc h
          slice_get-none (x ∷ xs) (suc i) h = omega (arith, slice_get-none xs i h)
      within d (Some []) e lt = nothing (device_at devices d) (λ there. (out.there d [] lt e).0 there refl)
      within d (Some (b ∷ n)) e lt =
          let named : b ∷ n ≡ [] → ⊥ = λ f. cc f in
          sym (back.each d (b ∷ n) lt ((out.there d (b ∷ n) lt e).1 named) e)

  -- under each name is what was there, and of it no sector has changed
  pub home_stays : IsLent home mid names taken → (n : Text) → StaysIf g (λ _. ⊥) (home n) (after n)
  home_stays lent n = by_meant {P = StaysIf g (λ _. ⊥) (home n) (after n)} names (length devices) n
      (λ m.
      let lt : m.at < length taken = omega (arith, m.before, stays.count) in
      let was : device_at taken m.at ≡ home n = lent.each m.at lt ∙ (ap (λ (o : Option Text). at_home home o) m.is ∙ at_home-named home n m.named) in
      let is : device_at devices m.at ≡ after n = sym (back.each m.at n m.before ((out.there m.at n m.before m.is).1 m.named) m.is) in
      subst (λ (x : Option D). StaysIf g (λ _. ⊥) x (after n)) was (subst (λ (z : Option D). StaysIf g (λ _. ⊥) (device_at taken m.at) z) is (stays.each m.at)))
      (λ apart.
      let before = lent.others n (λ m. apart (record { at = m.at; before = omega (arith, m.before, stays.count); is = m.is; named = m.named })) in
      same_stays g (home n) (after n) (back.others n apart ∙ before))
