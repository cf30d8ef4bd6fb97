-- The devices as they were handed in and as they are handed back, beside those that a core has.
use Rattle.std.proofs.Common.{◌≡◌, inl, inr, ℕ, zero, suc, ◌<◌, ◌≤◌, List, [], ◌∷◌, length, Option, Some, None, slice_get, refl, arith}
use Rattle.std.specs.Prelude.{map, slice_index_or}
use Rattle.std.proofs.lemmas.Bool.{cases_lt}
use Rattle.blk_disk.specs.Devices.{device_at}
use Rattle.eng_parts.specs.Brought.{brought}
use Rattle.eng_parts.specs.Shelf.{Seen, Shelved, seen_at}

-- the device of what is seen
abbrev pub device_of : {D : Type 0} → Option (Seen D) → Option D
device_of None = None
device_of (Some s) = Some s.device

module _ {D : Type 0} where
  brought-back : (x : Option D) → x ≡ device_of (brought x)
  brought-back None = refl
  brought-back (Some x) = refl

  -- as they are brought in
  pub brought-at : (ds : List (Option D)) (d : ℕ) → device_at ds d ≡ device_of (slice_index_or (map brought ds) d None)
  unfolding device_at
  brought-at [] d = refl
  brought-at (x ∷ ds) zero = brought-back x
  brought-at (x ∷ ds) (suc d) = brought-at ds d

  at-get : (ds : List (Option D)) (d : ℕ) (z : Option D) → slice_get ds d ≡ Some z → device_at ds d ≡ z
  unfolding device_at
  at-get [] d z h = let e : None ≡ Some z = h in absurd (let u : ⊥ = cc in u)
  at-get (x ∷ ds) zero z h = let e : Some x ≡ Some z = h in cc
  at-get (x ∷ ds) (suc d) z h = at-get ds d z h

  at-past : (ds : List (Option D)) (d : ℕ) → length ds ≤ d → device_at ds d ≡ None
  unfolding device_at
  at-past [] d h = refl
  at-past (x ∷ ds) zero h = absurd (omega (arith, h))
  at-past (x ∷ ds) (suc d) h = at-past ds d (omega (arith, h))

  -- as they are handed back
  pub closed-at : (ds : List (Option D)) (s : Shelved D) → ((d : ℕ) → seen_at s d ≡ None → d < length ds → slice_get ds d ≡ Some None) → ((d : ℕ) (x : Seen D) → seen_at s d ≡ Some x → slice_get ds d ≡ Some (Some x.device)) → (d : ℕ) → device_at ds d ≡ device_of (seen_at s d)
  closed-at ds s absent there d = by (seen_at s d) refl
    where
      by : (o : Option (Seen D)) → seen_at s d ≡ o → device_at ds d ≡ device_of o
      by (Some x) is = at-get ds d (Some x.device) (there d x is)
      by None is = elim (cases_lt d (length ds)) [ inl lt ↦ at-get ds d None (absent d is lt) | inr past ↦ at-past ds d past ]
