-- Devices that are put back after a run.
use Rattle.std.specs.Prelude.{◌≡◌, ◌↔◌, ◌<◌, ℕ, List, [], ◌∷◌, length, get_or, Option, Some, None, IsSome, is_some, slice_get}
use Rattle.std.proofs.Common.{arith, refl, sym, ap, subst, ◌∙◌, ⊎_elim}
use Rattle.std.proofs.lemmas.Bool.{cases_lt}
use Rattle.std.proofs.lemmas.Option.{slice_get-get_or, slice_get_past}
use Rattle.blk_disk.specs.declared.disk.Disk.{Ghosts}
use Rattle.blk_disk.specs.Devices.{AreNamed, Changes, StaysIf, at_home, device_at}
use Rattle.blk_disk.proofs.DeviceLaws.{stays-refl}
use Rattle.raid_text.specs.Text.{Text}
use Rattle.top_bay.specs.Lent.{AreBack, AreOut, IsMeant}
use Rattle.top_bay.proofs.Homes.{at_home-named, device_at-past}
use Rattle.top_bay.proofs.Meant.{by_meant}

-- a device that was there is there after changes, and no other
stays_there : {D : Type 0} (g : Ghosts D) (may : ℕ → Type 0) (x z : Option D) → StaysIf g may x z → is_some z ≡ is_some x
stays_there g may None None h = refl
stays_there g may None (Some z) h = absurd h
stays_there g may (Some x) None h = absurd h
stays_there g may (Some x) (Some z) h = refl

pub out_still : {D : Type 0} (g : Ghosts D) (may : ℕ → ℕ → Type 0) (is_out : Text → Type 0) (names : List Text) (taken back : List (Option D)) → Changes g may taken back → AreOut is_out names taken → AreOut is_out names back
out_still g may is_out names taken back changes out = record {
  there = λ d n lt is.
      let same : is_some (device_at back d) ≡ is_some (device_at taken d) = stays_there g (may d) (device_at taken d) (device_at back d) (changes.each d) in
      let was = out.there d n (omega (arith, lt, changes.count)) is in
      (λ some. was.0 (sym same ∙ some), λ named. same ∙ was.1 named);
  out = λ d n lt is named. out.out d n (omega (arith, lt, changes.count)) is named;
}

-- they are the devices of the names, once they are back
pub back_are_named : {D : Type 0} (mid after : Text → Option D) (names : List Text) (ds : List (Option D)) → length ds ≡ length names
    → ((d : ℕ) (n : Text) → d < length ds → slice_get names d ≡ Some n → (IsSome (device_at ds d)) ↔ (n ≡ [] → ⊥))
    → AreBack mid after names ds → AreNamed after names ds
back_are_named {D} mid after names ds many there back = record { count = many; each = λ d. ⊎_elim (λ lt. inside d lt (slice_get names d) refl) (λ past. device_at-past ds d past ∙ ap (λ (o : Option Text). at_home after o) (sym (slice_get_past names d (omega (arith, many, past))))) (cases_lt d (length ds)) }
  where
    none_is : (x : Option D) → (IsSome x → ⊥) → x ≡ None
    none_is None h = refl
    none_is (Some x) h = absurd (h refl)

    inside : (d : ℕ) → d < length ds → (o : Option Text) → slice_get names d ≡ o → device_at ds d ≡ at_home after o
    inside d lt None e = let some : slice_get names d ≡ Some (get_or names d []) = slice_get-get_or names d [] (omega (arith, lt, many)) in cc (some, e)
    inside d lt (Some []) e = none_is (device_at ds d) (λ some. (there d [] lt e).0 some refl)
    inside d lt (Some (b ∷ n)) e = sym (back.each d (b ∷ n) lt ((there d (b ∷ n) lt e).1 (λ empty. cc empty)) e)

-- ## Devices that were looked at alone

pub stays_as_it_is : {D : Type 0} (g : Ghosts D) (x : Option D) → StaysIf g (λ _. ⊥) x x
stays_as_it_is g None = tt
stays_as_it_is g (Some x) = stays-refl g (λ _. ⊥) x

-- what was taken, looked at and put back has changed no sector, and all else is as it was
pub home_as_it_was : {D : Type 0} (g : Ghosts D) (home mid after : Text → Option D) (is_out : Text → Type 0) (names : List Text) (taken old : List (Option D))
    → AreNamed home names taken → ((n : Text) → (IsMeant names (length taken) n → ⊥) → mid n ≡ home n) → Changes g (λ _ _. ⊥) taken old → AreOut is_out names old → AreBack mid after names old
    → (n : Text) → StaysIf g (λ _. ⊥) (home n) (after n)
home_as_it_was g home mid after is_out names taken old named lent still out back n = by_meant {P = StaysIf g (λ _. ⊥) (home n) (after n)} names (length old) n
    (λ m.
    let was : device_at taken m.at ≡ home n = named.each m.at ∙ (ap (λ (o : Option Text). at_home home o) m.is ∙ at_home-named home n m.named) in
    let now : after n ≡ device_at old m.at = back.each m.at n m.before ((out.there m.at n m.before m.is).1 m.named) m.is in
    subst (λ (x : Option _). StaysIf g (λ _. ⊥) x (after n)) was (subst (λ (z : Option _). StaysIf g (λ _. ⊥) (device_at taken m.at) z) (sym now) (still.each m.at)))
    (λ apart.
    let same : after n ≡ home n = back.others n apart ∙ lent n (subst (λ (j : ℕ). IsMeant names j n → ⊥) still.count apart) in
    subst (λ (z : Option _). StaysIf g (λ _. ⊥) (home n) z) (sym same) (stays_as_it_is g (home n)))
