-- Devices that a bay has lent, and has again.
use Rattle.std.specs.Prelude.{◌≡◌, ◌≤◌, ℕ, zero, suc, List, [], ◌∷◌, length, Option, Some, None}
use Rattle.std.proofs.Common.{arith, refl, sym, ap, ◌∙◌, ⊎_elim}
use Rattle.std.proofs.lemmas.Bool.{cases_lt}
use Rattle.std.proofs.lemmas.Option.{slice_get_past}
use Rattle.blk_disk.specs.Devices.{AreNamed, at_home, device_at}
use Rattle.raid_text.specs.Text.{Text}
use Rattle.top_bay.specs.Lent.{AreBack, AreOut, IsLent}
use Rattle.top_bay.proofs.Meant.{by_meant}

-- under a name that isn't empty
pub at_home-named : {D : Type 0} (home : Text → Option D) (n : Text) → (n ≡ [] → ⊥) → at_home home (Some n) ≡ home n
at_home-named home [] named = absurd (named refl)
at_home-named home (b ∷ n) named = refl

-- a list has no device past its end
pub device_at-past : {D : Type 0} (ds : List (Option D)) (d : ℕ) → length ds ≤ d → device_at ds d ≡ None
unfolding device_at
device_at-past [] d h = refl
device_at-past (x ∷ ds) zero h = absurd (omega (arith, h))
device_at-past (x ∷ ds) (suc d) h = device_at-past ds d (omega (arith, h))

-- the devices that are lent, as long as there are names, are those of the names
pub lent_are_named : {D : Type 0} (home after : Text → Option D) (names : List Text) (ds : List (Option D)) → length ds ≡ length names → IsLent home after names ds → AreNamed home names ds
lent_are_named {D} home after names ds many lent = record { count = many; each = λ d. ⊎_elim (λ lt. lent.each d lt) (λ past. device_at-past ds d past ∙ ap (λ (o : Option Text). at_home home o) (sym (slice_get_past names d (omega (arith, many, past))))) (cases_lt d (length ds)) }

-- what was lent is at home again as it was, and so is all else
pub home_again : {D : Type 0} (home mid after : Text → Option D) (is_out : Text → Type 0) (names : List Text) (ds : List (Option D))
    → IsLent home mid names ds → AreOut is_out names ds → AreBack mid after names ds → (n : Text) → after n ≡ home n
home_again home mid after is_out names ds lent out back n = by_meant {P = after n ≡ home n} names (length ds) n
    (λ m. back.each m.at n m.before ((out.there m.at n m.before m.is).1 m.named) m.is
    ∙ (lent.each m.at m.before ∙ (ap (λ (o : Option Text). at_home home o) m.is ∙ at_home-named home n m.named)))
    (λ apart. back.others n apart ∙ lent.others n apart)
