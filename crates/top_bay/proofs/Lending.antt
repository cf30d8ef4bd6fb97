-- One more device is lent.
use Rattle.std.specs.Prelude.{◌≡◌, ◌≢◌, ◌<◌, ◌⊎◌, ◌↔◌, ℕ, zero, suc, Bool, true, false, List, [], ◌∷◌, ◌++◌, length, Option, Some, None, IsSome, slice_get}
use Rattle.std.proofs.Common.{arith, refl, sym, ap, subst, inl, inr, ◌∙◌, ⊎_elim}
use Rattle.std.specs.Str.{bytes_eq}
use Rattle.std.proofs.lemmas.Bool.{cases_lt}
use Rattle.std.proofs.lemmas.Slice.Eq.{bytes_eq-Decides}
use Rattle.blk_disk.specs.Devices.{at_home, device_at}
use Rattle.raid_conf.specs.Form.{Differ}
use Rattle.raid_text.specs.Text.{Text}
use Rattle.top_bay.specs.Lent.{AreOut, IsLent, IsMeant}
use Rattle.top_bay.proofs.Meant.{other_place}

length-push : {X : Type 0} (xs : List X) (x : X) → length (xs ++ x ∷ []) ≡ suc (length xs)
length-push [] x = refl
length-push (y ∷ xs) x = ap suc (length-push xs x)

device_at-push : {D : Type 0} (ds : List (Option D)) (x : Option D) (d : ℕ) → d < length ds → device_at (ds ++ x ∷ []) d ≡ device_at ds d
unfolding device_at
device_at-push [] x d h = absurd (omega (arith, h))
device_at-push (y ∷ ds) x zero h = refl
device_at-push (y ∷ ds) x (suc d) h = device_at-push ds x d (omega (arith, h))

device_at-last : {D : Type 0} (ds : List (Option D)) (x : Option D) → device_at (ds ++ x ∷ []) (length ds) ≡ x
unfolding device_at
device_at-last [] x = refl
device_at-last (y ∷ ds) x = device_at-last ds x

-- a name that none of the first devices means has what it had
at_home-same : {D : Type 0} (home mid : Text → Option D) (n : Text) → ((n ≡ [] → ⊥) → mid n ≡ home n) → at_home mid (Some n) ≡ at_home home (Some n)
at_home-same home mid [] same = refl
at_home-same home mid (b ∷ n) same = same (λ e. cc e)

-- the next name isn't meant by a device before
pub not_meant : (names : List Text) (k : ℕ) (name : Text) → Differ names → slice_get names k ≡ Some name → IsMeant names k name → ⊥
not_meant names k name differ at m = other_place names m.at k name differ m.named m.before m.is at

-- another name, or the empty one
apart_or : {P : Type 0} (name n : Text) → (n ≡ name → (n ≡ [] → ⊥) → P) → ((n ≢ name) ⊎ (n ≡ []) → P) → P
apart_or {P} name [] one other = other (inr refl)
apart_or {P} name (b ∷ n) one other = go (bytes_eq (b ∷ n) name) refl
  where
    go : (v : Bool) → bytes_eq (b ∷ n) name ≡ v → P
    go true e = one ((bytes_eq-Decides (b ∷ n) name).0 e) (λ empty. cc empty)
    go false e = other (inl (λ same. cc (e, (bytes_eq-Decides (b ∷ n) name).1 same)))

pub lent_more : {D : Type 0} (home mid after : Text → Option D) (names : List Text) (ds : List (Option D)) (device : Option D) (name : Text) → Differ names → slice_get names (length ds) ≡ Some name
    → IsLent home mid names ds → device ≡ at_home mid (Some name) → ((n : Text) → (n ≢ name) ⊎ (n ≡ []) → after n ≡ mid n) → IsLent home after names (ds ++ device ∷ [])
lent_more {D} home mid after names ds device name differ at lent is others = record {
  each = λ d lt. ⊎_elim (λ less. device_at-push ds device d less ∙ lent.each d less) (λ ge. last d (omega (arith, ge, lt, length-push ds device))) (cases_lt d (length ds));
  others = λ n apart.
      let before : IsMeant names (length ds) n → ⊥ = λ m. apart (record { at = m.at; before = omega (arith, m.before, length-push ds device); is = m.is; named = m.named }) in
      apart_or {P = after n ≡ home n} name n
      (λ same named. absurd (apart (record { at = length ds; before = omega (arith, length-push ds device); is = at ∙ ap (λ (t : Text). Some t) (sym same); named = named })))
      (λ other. others n other ∙ lent.others n before);
}
  where
    last : (d : ℕ) → d ≡ length ds → device_at (ds ++ device ∷ []) d ≡ at_home home (slice_get names d)
    last d e =
        ap (λ (k : ℕ). device_at (ds ++ device ∷ []) k) e ∙ (device_at-last ds device ∙ (is
        ∙ (at_home-same home mid name (λ named. lent.others name (not_meant names (length ds) name differ at))
        ∙ ap (λ (o : Option Text). at_home home o) (sym at ∙ ap (λ (k : ℕ). slice_get names k) (sym e)))))

pub out_more : {D : Type 0} (was is_out : Text → Type 0) (names : List Text) (ds : List (Option D)) (device : Option D) (name : Text) → slice_get names (length ds) ≡ Some name
    → AreOut was names ds → ((n : Text) → was n → is_out n) → (IsSome device ↔ (name ≡ [] → ⊥)) → ((name ≡ [] → ⊥) → is_out name) → AreOut is_out names (ds ++ device ∷ [])
out_more {D} was is_out names ds device name at out more there now = record {
  there = λ d n lt is. ⊎_elim
      (λ less. subst (λ (o : Option D). IsSome o ↔ (n ≡ [] → ⊥)) (sym (device_at-push ds device d less)) (out.there d n less is))
      (λ ge. let e : d ≡ length ds = omega (arith, ge, lt, length-push ds device) in
      let same : name ≡ n = some-eq name n (sym at ∙ (ap (λ (k : ℕ). slice_get names k) (sym e) ∙ is)) in
      subst (λ (o : Option D). IsSome o ↔ (n ≡ [] → ⊥)) (sym (ap (λ (k : ℕ). device_at (ds ++ device ∷ []) k) e ∙ device_at-last ds device)) (subst (λ (t : Text). IsSome device ↔ (t ≡ [] → ⊥)) same there))
      (cases_lt d (length ds));
  out = λ d n lt is named. ⊎_elim
      (λ less. more n (out.out d n less is named))
      (λ ge. let e : d ≡ length ds = omega (arith, ge, lt, length-push ds device) in
      let same : name ≡ n = some-eq name n (sym at ∙ (ap (λ (k : ℕ). slice_get names k) (sym e) ∙ is)) in
      subst is_out same (now (λ empty. named (sym same ∙ empty))))
      (cases_lt d (length ds));
}
  where
    some-eq : {X : Type 0} (x y : X) → Some x ≡ Some y → x ≡ y
    some-eq x y e = cc e

-- devices that are lent of homes are lent of others that are the same
pub lent-same : {D : Type 0} (home mid after : Text → Option D) (names : List Text) (ds : List (Option D)) → ((n : Text) → mid n ≡ home n) → IsLent mid after names ds → IsLent home after names ds
lent-same {D} home mid after names ds same lent = record {
  each = λ d l. lent.each d l ∙ here (slice_get names d);
  others = λ n none. lent.others n none ∙ same n;
}
  where
    here : (o : Option Text) → at_home mid o ≡ at_home home o
    here None = refl
    here (Some n) = at_home-same home mid n (λ named. same n)
