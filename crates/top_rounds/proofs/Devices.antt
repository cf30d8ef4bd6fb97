-- One device that gets a label.
use Rattle.std.proofs.Common.{◌≡◌, ◌∙◌, ℕ, zero, suc, ◌<◌, Bool, true, false, List, [], ◌∷◌, length, get_or, Option, Some, None, refl, sym, ap, subst, arith}
use Rattle.std.specs.Prelude.{IsSome, set, option_and_then}
use Rattle.std.specs.Option.{option_map_or}
use Rattle.std.proofs.lemmas.List.{take_all}
use Rattle.blk_disk.specs.declared.disk.Disk.{Ghosts}
use Rattle.blk_disk.specs.Disk.{Rose, Tells, call_of, sector_at}
use Rattle.blk_disk.specs.Devices.{device_at, size_of, calls_of, Stays, StaysIf}
use Rattle.blk_disk.proofs.DeviceLaws.{changes-set, device_at-get, device_at-set, device_at-set_other, stays-more}
use Rattle.raid_label.specs.declared.label.Label.{Label}
use Rattle.raid_label.specs.Bytes.{bytes_of}
use Rattle.top_rounds.specs.Passes.{IsLabelling}

-- a device that is there has a number below their count
pub there_within : {D : Type 0} (ds : List (Option D)) (d : ℕ) → IsSome (device_at ds d) → d < length ds
unfolding device_at
there_within [] d h = let z : false ≡ true = h in absurd (let u : ⊥ = cc in u)
there_within (x ∷ ds) zero h = omega arith
there_within (x ∷ ds) (suc d) h = omega (arith, there_within ds d h)

pub none_there : {D : Type 0} (ds : List (Option D)) (d : ℕ) (e : Option D) → d < length ds → get_or ds d e ≡ None → IsSome (device_at ds d) → ⊥
none_there ds d e h is there =
    let z : false ≡ true = subst (λ o. IsSome o) (device_at-get ds d e h ∙ is) there in absurd (let u : ⊥ = cc in u)

-- its size
pub size_there : {D : Type 0} (g : Ghosts D) (ds : List (Option D)) (d : ℕ) (e : Option D) (x : D) → d < length ds → get_or ds d e ≡ Some x → size_of g ds d ≡ g.size x
size_there g ds d e x h is = ap (λ o. option_map_or g.size o 0) (device_at-get ds d e h ∙ is)

-- the bytes of one sector are that sector
pub only_sector : (bytes : List ℕ) → length bytes ≡ 512 → sector_at bytes 0 ≡ bytes
unfolding sector_at
only_sector bytes long = take_all 512 bytes (omega (arith, long))

-- the list with that device after its call
pub labelling_is : {D : Type 0} (g : Ghosts D) (ds : List (Option D)) (d : ℕ) (label : Label) (e : Option D) (x z : D) (good : Bool) → d < length ds → get_or ds d e ≡ Some x → Stays g (λ n. n ≡ 0) x z
    → (good ≡ false → Rose (g.faults x) (g.faults z)) → (good ≡ true → g.tells → g.sector z 0 ≡ bytes_of label) → Tells (g.calls x) (g.calls z) (call_of 1 0 512 good) → IsLabelling g d label ds (set ds d (Some z)) good
labelling_is g ds d label e x z good h is stays cause held told =
    let was : device_at ds d ≡ Some x = device_at-get ds d e h ∙ is in
    let now : device_at (set ds d (Some z)) d ≡ Some z = device_at-set ds d (Some z) h in
    let before : calls_of g ds d ≡ g.calls x = ap (λ o. option_and_then g.calls o) was in
    let after : calls_of g (set ds d (Some z)) d ≡ g.calls z = ap (λ o. option_and_then g.calls o) now in
    let wide = stays-more g (λ n. n ≡ 0) (λ n. (d ≡ d) × (n ≡ 0)) x z (λ n first. (refl, first)) stays in
    record {
      frame = changes-set g (λ k n. (k ≡ d) × (n ≡ 0)) ds d (Some z) h (subst (λ o. StaysIf g (λ n. (d ≡ d) × (n ≡ 0)) o (Some z)) (sym was) wide);
      cause = λ bad. record { before = x; after = z; was = was; is = now; rose = cause bad };
      held = λ well told. ap (λ o. option_map_or (λ y. g.sector y 0) o []) now ∙ held well told;
      told = subst (λ o. Tells o (calls_of g (set ds d (Some z)) d) (call_of 1 0 512 good)) (sym before) (subst (λ o. Tells (g.calls x) o (call_of 1 0 512 good)) (sym after) told);
      others = λ k apart. device_at-set_other ds d k (Some z) apart;
    }
