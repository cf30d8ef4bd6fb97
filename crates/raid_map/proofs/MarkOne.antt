-- One device that is marked.
use Rattle.std.proofs.Common.{◌≡◌, ◌∙◌, ℕ, zero, suc, ◌<◌, ◌≤◌, Bool, true, false, List, [], ◌∷◌, length, get_or, Option, Some, None, refl, sym, ap, subst, arith}
use Rattle.std.specs.Prelude.{set, option_and_then}
use Rattle.std.specs.Option.{option_map_or}
use Rattle.std.proofs.lemmas.List.{take_all}
use Rattle.blk_disk.specs.declared.disk.Disk.{Ghosts}
use Rattle.blk_disk.specs.Disk.{Rose, sector_at}
use Rattle.blk_disk.specs.Devices.{device_at, size_of, calls_of, Stays, StaysIf}
use Rattle.blk_disk.specs.Stops.{Left, LeftSettles}
use Rattle.blk_disk.proofs.DeviceLaws.{device_at-get, device_at-set, device_at-set_other, changes-set, stays-more}
use Rattle.raid_map.specs.Marking.{MarksOn, IsSafeOn, IsMarking}

-- one sector is all of its bytes
pub sector_all : (bytes : List ℕ) → length bytes ≡ 512 → sector_at bytes 0 ≡ bytes
unfolding sector_at
sector_all bytes long = take_all 512 bytes (omega (arith, long))

-- what a good settle leaves
pub settles_left : (a b : Option Left) (sectors : ℕ → List ℕ) → LeftSettles a b sectors true → (l : Left) → b ≡ Some l → (l.settled ≡ sectors) × (l.logged ≡ [])
settles_left a None sectors h l is = absurd (let u : ⊥ = cc in u)
settles_left None (Some b) sectors h l is = absurd h
settles_left (Some a) (Some b) sectors h l is = let e : b ≡ l = cc in (ap (λ (z : Left). z.settled) (sym e) ∙ h.0, ap (λ (z : Left). z.logged) (sym e) ∙ h.1)

-- a device that has sectors is there
pub sized_within : {D : Type 0} (g : Ghosts D) (ds : List (Option D)) (d : ℕ) → 2 ≤ size_of g ds d → d < length ds
unfolding device_at
sized_within g [] d h = absurd (omega (arith, h))
sized_within g (x ∷ ds) zero h = omega arith
sized_within g (x ∷ ds) (suc d) h = omega (arith, sized_within g ds d h)

pub sized_there : {D : Type 0} (g : Ghosts D) (ds : List (Option D)) (d : ℕ) (e : Option D) (x : D) → d < length ds → get_or ds d e ≡ Some x → size_of g ds d ≡ g.size x
sized_there g ds d e x h is = ap (λ o. option_map_or g.size o 0) (device_at-get ds d e h ∙ is)

pub none_sized : {D : Type 0} (g : Ghosts D) (ds : List (Option D)) (d : ℕ) (e : Option D) → d < length ds → get_or ds d e ≡ None → 2 ≤ size_of g ds d → ⊥
none_sized g ds d e h is s = let z = ap (λ o. option_map_or g.size o 0) (device_at-get ds d e h ∙ is) in omega (arith, z, s)

-- the list with that device after its calls
pub marking_is : {D : Type 0} (g : Ghosts D) (ds : List (Option D)) (d : ℕ) (bytes : List ℕ) (e : Option D) (x z : D) (good : Bool) → d < length ds → get_or ds d e ≡ Some x → Stays g (λ n. n ≡ 1) x z
    → (good ≡ false → Rose (g.faults x) (g.faults z)) → (good ≡ true → IsSafeOn g z bytes) → MarksOn (g.calls x) (g.calls z) good → IsMarking g d bytes ds (set ds d (Some z)) good
marking_is {D = D} g ds d bytes e x z good h is stays cause safe told =
    let was : device_at ds d ≡ Some x = device_at-get ds d e h ∙ is in
    let now : device_at (set ds d (Some z)) d ≡ Some z = device_at-set ds d (Some z) h in
    let before : calls_of g ds d ≡ g.calls x = ap (λ o. option_and_then g.calls o) was in
    let after : calls_of g (set ds d (Some z)) d ≡ g.calls z = ap (λ o. option_and_then g.calls o) now in
    record {
      frame = changes-set g (λ k n. (k ≡ d) × (n ≡ 1)) ds d (Some z) h (subst (λ o. StaysIf g (λ n. (d ≡ d) × (n ≡ 1)) o (Some z)) (sym was) (stays-more g (λ n. n ≡ 1) (λ n. (d ≡ d) × (n ≡ 1)) x z (λ n m. (refl, m)) stays));
      cause = λ bad. record { before = x; after = z; was = was; is = now; rose = cause bad };
      safe = λ ok v there. subst (λ v. IsSafeOn g v bytes) (let q : Some z ≡ Some v = sym now ∙ there in let r : z ≡ v = cc in r) (safe ok);
      told = subst (λ o. MarksOn o (calls_of g (set ds d (Some z)) d) good) (sym before) (subst (λ o. MarksOn (g.calls x) o good) (sym after) told);
      others = λ k apart. device_at-set_other ds d k (Some z) apart;
    }
