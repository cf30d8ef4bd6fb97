-- One device whose map is read.
use Rattle.std.proofs.Common.{◌≡◌, ◌∙◌, ℕ, ◌<◌, Bool, true, false, List, [], length, get_or, Option, Some, refl, sym, ap, subst, inl, inr}
use Rattle.std.specs.Prelude.{set, option_and_then, MatchBool}
use Rattle.std.specs.Option.{option_map_or}
use Rattle.std.proofs.lemmas.Bool.{cases_lt}
use Rattle.std.proofs.lemmas.List.{get_or_past}
use Rattle.blk_disk.specs.declared.disk.Disk.{Ghosts}
use Rattle.blk_disk.specs.Disk.{Rose, Tells, call_of}
use Rattle.blk_disk.specs.Devices.{device_at, calls_of, sector_of, Stays, StaysIf}
use Rattle.blk_disk.proofs.DeviceLaws.{device_at-get, device_at-set, device_at-set_other, changes-set}
use Rattle.raid_map.specs.Regions.{Marks, IsMapOf, Adds}
use Rattle.raid_map.specs.Reading.{Grows, AddsFound, AddsRead, IsReading}
use Rattle.raid_map.proofs.Unions.{kept-marks}

-- ## The map

grows-adds : (old new : Marks) (sector : List ℕ) → Adds old new sector → Grows old new
grows-adds old new sector adds = record {
  stripes = adds.stripes;
  serial = adds.serial;
  count = adds.count;
  kept = λ r is. elim (cases_lt r (length old.marks)) [
    | inl lt ↦ kept-marks old new sector r adds lt is
    | inr far ↦ absurd (let z : false ≡ true = sym (get_or_past old.marks r false far) ∙ is in let u : ⊥ = cc in u)
  ];
}

pub grows-refl : (old : Marks) → Grows old old
grows-refl old = record { stripes = refl; serial = refl; count = refl; kept = λ r is. is }

pub grows-then : (a b c : Marks) → Grows a b → Grows b c → Grows a c
grows-then a b c one two = record {
  stripes = two.stripes ∙ one.stripes;
  serial = two.serial ∙ one.serial;
  count = two.count ∙ one.count;
  kept = λ r is. two.kept r (one.kept r is);
}

pub grows-found : (old new : Marks) (sector : List ℕ) (found : Bool) → (found ≡ true → Adds old new sector) → (found ≡ false → new ≡ old) → Grows old new
grows-found old new sector true adds same = grows-adds old new sector (adds refl)
grows-found old new sector false adds same = subst (Grows old) (sym (same refl)) (grows-refl old)

pub adds-found : (old new : Marks) (sector : List ℕ) (found : Bool) → MatchBool found (IsMapOf old sector) (IsMapOf old sector → ⊥) → (found ≡ true → Adds old new sector) → (found ≡ false → new ≡ old) → AddsFound old new sector found
adds-found old new sector true is adds same = (is, adds refl)
adds-found old new sector false is adds same = (is, same refl)

pub read-adds : (told : Type 0) (old new : Marks) (bytes sector : List ℕ) (found : Bool) → (told → bytes ≡ sector) → MatchBool found (IsMapOf old bytes) (IsMapOf old bytes → ⊥) → (found ≡ true → Adds old new bytes) → (found ≡ false → new ≡ old) → AddsRead told old new sector (Some found)
read-adds told old new bytes sector found same is adds none =
    (grows-found old new bytes found adds none, λ t. subst (λ l. AddsFound old new l found) (same t) (adds-found old new bytes found is adds none))

-- ## The device

pub sector_there : {D : Type 0} (g : Ghosts D) (ds : List (Option D)) (d : ℕ) (e : Option D) (x : D) → d < length ds → get_or ds d e ≡ Some x → sector_of g ds d 1 ≡ g.sector x 1
sector_there g ds d e x h is = ap (λ o. option_map_or (λ z. g.sector z 1) o []) (device_at-get ds d e h ∙ is)

-- the list with that device after its call
pub reading_is : {D : Type 0} (g : Ghosts D) (ds : List (Option D)) (d : ℕ) (e : Option D) (x z : D) (good : Bool) → d < length ds → get_or ds d e ≡ Some x → Stays g (λ _. ⊥) x z
    → (good ≡ false → Rose (g.faults x) (g.faults z)) → Tells (g.calls x) (g.calls z) (call_of 0 1 512 good) → IsReading g d ds (set ds d (Some z)) good
reading_is {D = D} g ds d e x z good h is stays cause told =
    let was : device_at ds d ≡ Some x = device_at-get ds d e h ∙ is in
    let now : device_at (set ds d (Some z)) d ≡ Some z = device_at-set ds d (Some z) h in
    let before : calls_of g ds d ≡ g.calls x = ap (λ o. option_and_then g.calls o) was in
    let after : calls_of g (set ds d (Some z)) d ≡ g.calls z = ap (λ o. option_and_then g.calls o) now in
    record {
      frame = changes-set g (λ _ _. ⊥) ds d (Some z) h (subst (λ o. StaysIf g (λ _. ⊥) o (Some z)) (sym was) stays);
      cause = λ bad. record { before = x; after = z; was = was; is = now; rose = cause bad };
      told = subst (λ o. Tells o (calls_of g (set ds d (Some z)) d) (call_of 0 1 512 good)) (sym before) (subst (λ o. Tells (g.calls x) o (call_of 0 1 512 good)) (sym after) told);
      others = λ k apart. device_at-set_other ds d k (Some z) apart;
    }
