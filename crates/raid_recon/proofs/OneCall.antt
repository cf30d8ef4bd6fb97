-- A call of one device, as its list changes.
use Rattle.std.proofs.Common.{◌≡◌, ℕ, ◌+◌, ◌*◌, ◌/◌, ◌-◌, ◌<◌, ◌≤◌, List, [], ◌∷◌, zero, suc, length, true, false, Option, Some, None, Result, Ok, Err, OnOk, OnErr, is_ok, inl, inr, refl, sym, ap, ◌∙◌, subst, arith}
use Rattle.std.specs.Prelude.{set, slice_index}
use Rattle.std.specs.Option.{option_map_or}
use Rattle.std.proofs.lemmas.Bool.{cases_lt}
use Rattle.blk_disk.specs.declared.disk.Call.{Call}
use Rattle.blk_disk.specs.declared.disk.Failed.{Failed}
use Rattle.blk_disk.specs.declared.disk.Disk.{Ghosts}
use Rattle.blk_disk.specs.Disk.{Rose, Tells, call_of, sector_at}
use Rattle.blk_disk.specs.Devices.{device_at, size_of, contents_of, RisesOn, Stays, StaysIf, Changes}
use Rattle.blk_disk.proofs.DeviceLaws.{device_at-set, tells_on-one, changes-set}
use Rattle.eng_cols.specs.declared.spot.Spot.{Spot}
use Rattle.raid_recon.specs.Turns.{call_at}
use Rattle.raid_recon.specs.Units.{IsThere, IsRead, IsWritten, call_from}
use Rattle.raid_recon.proofs.Calls.{call_on, told_at}
use Rattle.raid_recon.proofs.Bytes.{byte-sector_at}

pub on_ok : {A E : Type 0} (r : Result A E) (P : Type 0) → OnOk r P → is_ok r ≡ true → P
on_ok (Ok x) P h e = h
on_ok (Err x) P h e = let z : false ≡ true = e in absurd (let u : ⊥ = cc in u)

pub on_err : {A E : Type 0} (r : Result A E) (P : Type 0) → OnErr r P → is_ok r ≡ false → P
on_err (Ok x) P h e = let z : true ≡ false = e in absurd (let u : ⊥ = cc in u)
on_err (Err x) P h e = h

-- where a device has sectors there is one
pub some_device : {D : Type 0} (g : Ghosts D) (ds : List (Option D)) (d : ℕ) → 1 ≤ size_of g ds d → d < length ds
unfolding device_at
some_device g [] d h = absurd (omega (arith, h))
some_device g (x ∷ ds) zero h = omega arith
some_device g (x ∷ ds) (suc d) h = omega (arith, some_device g ds d h)

pub size_none : {D : Type 0} (g : Ghosts D) (ds : List (Option D)) (d : ℕ) → device_at ds d ≡ None → 1 ≤ size_of g ds d → ⊥
size_none g ds d is h = omega (arith, h, ap (λ o. option_map_or g.size o 0) is)

pub size_some : {D : Type 0} (g : Ghosts D) (ds : List (Option D)) (d : ℕ) (x : D) → device_at ds d ≡ Some x → size_of g ds d ≡ g.size x
size_some g ds d x is = ap (λ o. option_map_or g.size o 0) is

module _ {D : Type 0} (g : Ghosts D) (ds : List (Option D)) (at : Spot) (u first : ℕ) (x z : D) (long : at.device < length ds) (here : device_at ds at.device ≡ Some x) (is : first ≡ 64 + at.row * u) (few : u ≤ 4294967295) (size : g.size z ≡ g.size x) (later : g.faults x ≤ g.faults z) where
  after : List (Option D)
  after = set ds at.device (Some z)

  new-is : device_at after at.device ≡ Some z
  unfolding after
  new-is = device_at-set ds at.device (Some z) long

  rose : Rose (g.faults x) (g.faults z) → RisesOn g ds after at.device
  rose h = record { before = x; after = z; was = here; is = new-is; rose = h }

  changed : (may : ℕ → ℕ → Type 0) → Stays g (may at.device) x z → Changes g may ds after
  unfolding after
  changed may h = changes-set g may ds at.device (Some z) long (subst (λ o. StaysIf g (may at.device) o (Some z)) (sym here) h)

  contents : (b : List (Option D)) (w : D) → device_at b at.device ≡ Some w → (n k : ℕ) → contents_of g b at.device n k ≡ slice_index (g.sector w n) k
  contents b w e n k = ap (λ o. slice_index (option_map_or (λ v. g.sector v n) o []) k) e

  pub read_is : (m n : ℕ) → n ≡ 512 * m → m ≤ 4294967295 → (into : List ℕ) (r : Result (Unit {0}) Failed) → OnErr r (Rose (g.faults x) (g.faults z)) → (g.tells → (s : ℕ) → g.sector z s ≡ g.sector x s) → OnOk r (g.tells → (k : ℕ) → k < n / 512 → sector_at into k ≡ g.sector x (first + k))
      → Tells (g.calls x) (g.calls z) (call_of 0 first n (is_ok r)) → IsRead g at u m ds (set ds at.device (Some z)) into (is_ok r)
  unfolding after
  read_is m n sectors short into r cause same bytes told = record {
    same = changed (λ d n. ⊥) (record { size = size; later = later; told = tells_on-one (g.calls x) (g.calls z) _ told; same = λ t n not. same t n });
    bytes = λ good t o k ou ku.
        sym (byte-sector_at into o k ku) ∙ ap (λ (l : List ℕ). slice_index l k) (on_ok r _ bytes good t o (omega (arith, ou, sectors)) ∙ ap (g.sector x) (omega (arith, is)))
        ∙ sym (contents ds x here (64 + at.row * u + o) k);
    cause = λ bad. rose (on_err r _ cause bad);
    told = told_at g ds at.device x z (call_from u at 0 m (is_ok r)) long here
        (subst (Tells (g.calls x) (g.calls z)) (call_on 0 first m n (is_ok r) short sectors ∙ ap (λ f. let c : Call = record { kind = 0; first = f; count = m; good = is_ok r } in c) is) told);
  }

  pub written_is : (from : List ℕ) (r : Result (Unit {0}) Failed) → OnErr r (Rose (g.faults x) (g.faults z)) → (g.tells → (s : ℕ) → s < first → g.sector z s ≡ g.sector x s) → (g.tells → (s : ℕ) → first + 512 * u / 512 ≤ s → g.sector z s ≡ g.sector x s)
      → OnOk r (g.tells → (k : ℕ) → k < 512 * u / 512 → g.sector z (first + k) ≡ sector_at from k)
      → Tells (g.calls x) (g.calls z) (call_of 1 first (512 * u) (is_ok r)) → IsWritten g at u ds (set ds at.device (Some z)) from (is_ok r)
  unfolding after
  written_is from r cause before behind bytes told = record {
    frame = changed (IsThere at u) (record { size = size; later = later; told = tells_on-one (g.calls x) (g.calls z) _ told; same = kept });
    bytes = λ good t o k ou ku.
        contents after z new-is (64 + at.row * u + o) k
        ∙ (ap (λ (l : List ℕ). slice_index l k) (ap (g.sector z) (let e : 64 + at.row * u + o ≡ first + o = omega (arith, is) in e) ∙ on_ok r _ bytes good t o (omega (arith, ou))) ∙ byte-sector_at from o k ku);
    cause = λ bad. rose (on_err r _ cause bad);
    told = told_at g ds at.device x z (call_at u at 1 (is_ok r)) long here
        (subst (Tells (g.calls x) (g.calls z)) (call_on 1 first u (512 * u) (is_ok r) few refl ∙ ap (λ n. let c : Call = record { kind = 1; first = n; count = u; good = is_ok r } in c) is) told);
  }
    where
      kept : g.tells → (n : ℕ) → (IsThere at u at.device n → ⊥) → g.sector z n ≡ g.sector x n
      kept t n not = elim (cases_lt n first) [
        | inl lt ↦ before t n lt
        | inr le ↦ elim (cases_lt n (first + u)) [
          | inl lt ↦ absurd (not (record { offset = n - first; device = refl; within = omega (arith, le, lt); sector = omega (arith, is, le) }))
          | inr far ↦ behind t n (omega (arith, far))
        ]
      ]
