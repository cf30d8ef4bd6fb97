-- A device that is fetched by its name is at home.
use Rattle.std.specs.Prelude.{◌≡◌, ℕ, List, [], ◌∷◌, Option, Some, None, Result, Ok, Err, IfOk, if◌then◌else◌, is_some}
use Rattle.std.proofs.Common.{refl, subst}
use Rattle.top_status.specs.declared.status.Status.{Status}
use Rattle.top_status.specs.declared.status.Status.TheVariants as status
use Rattle.top_status.specs.Refusals.{Refused, ◌then◌, only, or_refusal}
use Rattle.top_fetch.specs.Answers.{AnswersAs, RefusedAs}
use Rattle.top_fetch.specs.Fetched.{device_named}
use Rattle.top_fetch.proofs.Refusing.{refused_then}
use Rattle.top_bay.specs.Steps.{device_in}

abbrev found_or : {D : Type 0} → Option D → Status → Result (Unit {0}) Refused
found_or o s = if is_some o then Ok tt else Err (only s)

refused : {D : Type 0} (o : Option D) (s : Status) → (or_refusal o s then λ device. Ok tt) ≡ found_or o s
refused None s = refl
refused (Some device) s = refl

given : {D : Type 0} (o : Option D) (s : Status) (device : D) → or_refusal o s ≡ Ok device → o ≡ Some device
given None s device e = cc e
given (Some x) s device e = cc e

found : {D : Type 0} (o : Option D) (s : Status) (device : D) → or_refusal o s ≡ Ok device → found_or o s ≡ Ok tt
found None s device e = cc e
found (Some x) s device e = refl

module _ {D : Type 0} (home : List ℕ → Option D) where
  -- it is there, or refused, where the name isn't that of an absent disk
  pub as_device : (name : List ℕ) (r : Result D Status) → (name ≡ [] → ⊥) → AnswersAs (λ device. device) r (device_named home name) → AnswersAs (λ _. tt) r (device_in home name)
  as_device [] r named h = absurd (named refl)
  as_device (b ∷ name) (Ok device) named h = found (home (b ∷ name)) (status.NoFile (b ∷ name)) device h
  as_device (b ∷ name) (Err s) named h =
      subst (λ (w : Result (Unit {0}) Refused). RefusedAs s w) (refused (home (b ∷ name)) (status.NoFile (b ∷ name)))
      (refused_then s (device_named home (b ∷ name)) (λ device. Ok tt) h)

  -- it is the one that was at home
  pub as_home : (name : List ℕ) (tells : Type 0) (r : Result D Status) → (tells → AnswersAs (λ device. device) r (device_named home name)) → IfOk r (λ device. tells → home name ≡ Some device)
  as_home name tells (Ok device) h = λ told. given (home name) (status.NoFile name) device (h told)
  as_home name tells (Err s) h = tt
