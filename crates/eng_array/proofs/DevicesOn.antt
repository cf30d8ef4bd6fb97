-- How devices go on by one event: none moves, one leaves, or one comes home.
use Rattle.std.proofs.Common.{◌≡◌, ◌≤◌, ℕ, zero, suc, List, [], ◌∷◌, length, map, true, false, Option, Some, None, refl, sym, ◌∙◌, ap, subst, arith}
use Rattle.std.specs.Prelude.{set, slice_index_or}
use Rattle.std.proofs.Math.Seq.{map-set_same}
use Rattle.std.proofs.lemmas.List.{map-set, length-map}
use Rattle.blk_disk.specs.Devices.{device_at, StaysIf}
use Rattle.blk_disk.specs.declared.disk.Disk.{Ghosts as DiskGhosts}
use Rattle.blk_disk.proofs.DeviceLaws.{changes-refl, changes-set}
use Rattle.eng_cols.specs.declared.spot.Spot.{Spot}
use Rattle.eng_parts.specs.Shelf.{Seen, Shelved, IsAway, come_home}
use Rattle.eng_state.specs.Moves.{DeviceLeft}
use Rattle.eng_state.proofs.Leaving.{seen-below}
use Rattle.eng_array.specs.Tickets.{device_of, size_in, faults_in, DevicesGoOn}
use Rattle.blk_disk.proofs.Words.{TellsOn}

-- the device of a slot
pub slot-device : {D : Type 0} → (slots : List (Option (Seen D))) (d : ℕ) → device_at (map device_of slots) d ≡ device_of (slice_index_or slots d None)
unfolding device_at
slot-device [] d = refl
slot-device (s ∷ slots) zero = refl
slot-device (s ∷ slots) (suc d) = slot-device slots d

module _ {D : Type 0} (disk : DiskGhosts D) where
  pub as-many-slots : (old new : List (Option (Seen D))) → DevicesGoOn disk (map device_of old) (map device_of new) → length new ≡ length old
  as-many-slots old new h = sym (length-map new device_of) ∙ (h.count ∙ length-map old device_of)

  -- no device has left or come home
  pub same-devices : (old new : List (Option (Seen D))) → new ≡ old → DevicesGoOn disk (map device_of old) (map device_of new)
  same-devices old new is = subst (λ (l : List (Option D)). DevicesGoOn disk (map device_of old) l) (sym (ap (map device_of) is)) (changes-refl disk (λ d n. Unit {0}) (map device_of old))

  -- one has left, if there is one
  left-same : (old new : Shelved D) (o : Option Spot) → DeviceLeft o old new → map device_of new.slots ≡ map device_of old.slots
  left-same old new None l = ap (λ (s : Shelved D). map device_of s.slots) l
  left-same old new (Some at) l = ap (λ (s : Shelved D). map device_of s.slots) l.2 ∙ map-set_same device_of old.slots at.device (Some (record { out = true; device = l.0 })) None (sym (ap device_of l.1))

  pub left-devices : (old new : Shelved D) (o : Option Spot) → DeviceLeft o old new → DevicesGoOn disk (map device_of old.slots) (map device_of new.slots)
  left-devices old new o l = subst (λ (ds : List (Option D)). DevicesGoOn disk (map device_of old.slots) ds) (sym (left-same old new o l)) (changes-refl disk (λ d n. Unit {0}) (map device_of old.slots))

  -- one has come home
  pub came-devices : (old new : Shelved D) (at : ℕ) (left after : D) → new.slots ≡ (come_home old at after).slots → IsAway old at left
      → disk.size after ≡ disk.size left → disk.faults left ≤ disk.faults after → TellsOn (disk.calls left) (disk.calls after) → DevicesGoOn disk (map device_of old.slots) (map device_of new.slots)
  came-devices old new at left after came away size later told =
      let is : map device_of new.slots ≡ set (map device_of old.slots) at (Some after) = ap (map device_of) came ∙ map-set device_of old.slots at (Some (record { out = false; device = after })) in
      let was : device_at (map device_of old.slots) at ≡ Some left = slot-device old.slots at ∙ ap device_of away in
      let inside = seen-below old at _ away in
      let long = length-map old.slots device_of in
      subst (λ (ds : List (Option D)). DevicesGoOn disk (map device_of old.slots) ds) (sym is)
      (changes-set disk (λ d n. Unit {0}) (map device_of old.slots) at (Some after) (omega (arith, inside, long))
      (subst (λ (o : Option D). StaysIf disk (λ n. Unit {0}) o (Some after)) (sym was) (record { size = size; later = later; told = told; same = λ tells n not. absurd (not tt) })))

  -- sizes stay and no count of faults falls
  seen-later : (a b : Option (Seen D)) → StaysIf disk (λ n. Unit {0}) (device_of a) (device_of b) → (size_in disk b ≡ size_in disk a) × (faults_in disk a ≤ faults_in disk b)
  seen-later None None h = (refl, omega arith)
  seen-later None (Some t) h = absurd h
  seen-later (Some s) None h = absurd h
  seen-later (Some s) (Some t) h = (h.size, h.later)

  pub devices-later : (old new : List (Option (Seen D))) → DevicesGoOn disk (map device_of old) (map device_of new) → (d : ℕ)
      → (size_in disk (slice_index_or new d None) ≡ size_in disk (slice_index_or old d None)) × (faults_in disk (slice_index_or old d None) ≤ faults_in disk (slice_index_or new d None))
  devices-later old new h d = seen-later (slice_index_or old d None) (slice_index_or new d None)
      (subst (λ (o : Option D). StaysIf disk (λ n. Unit {0}) o (device_of (slice_index_or new d None))) (slot-device old d)
      (subst (λ (o : Option D). StaysIf disk (λ n. Unit {0}) (device_at (map device_of old) d) o) (slot-device new d) (h.each d)))
