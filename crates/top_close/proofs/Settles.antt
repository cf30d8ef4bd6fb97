-- One device that is settled.
use Rattle.std.proofs.Common.{◌≡◌, ◌∙◌, ℕ, zero, suc, ◌<◌, Bool, true, false, List, [], ◌∷◌, length, get_or, Option, Some, None, sym, ap, subst, arith}
use Rattle.std.specs.Prelude.{IsSome, set, option_and_then}
use Rattle.blk_disk.specs.declared.disk.Disk.{Ghosts}
use Rattle.blk_disk.specs.Disk.{Rose, Tells, call_of}
use Rattle.blk_disk.specs.Devices.{device_at, calls_of, Stays, StaysIf}
use Rattle.blk_disk.proofs.DeviceLaws.{device_at-get, device_at-set, device_at-set_other, changes-set}
use Rattle.top_close.specs.Settled.{IsSettling}

-- a device that is there has a number below their count
pub there_within : {D : Type 0} (ds : List (Option D)) (d : ℕ) → IsSome (device_at ds d) → d < length ds
unfolding device_at
there_within [] d h = let z : false ≡ true = h in absurd (let u : ⊥ = cc in u)
there_within (x ∷ ds) zero h = omega arith
there_within (x ∷ ds) (suc d) h = omega (arith, there_within ds d h)

pub none_there : {D : Type 0} (ds : List (Option D)) (d : ℕ) (e : Option D) → d < length ds → get_or ds d e ≡ None → IsSome (device_at ds d) → ⊥
none_there ds d e h is there =
    let z : false ≡ true = subst (λ o. IsSome o) (device_at-get ds d e h ∙ is) there in absurd (let u : ⊥ = cc in u)

-- the list with that device after its call
pub settling_is : {D : Type 0} (g : Ghosts D) (ds : List (Option D)) (d : ℕ) (e : Option D) (x z : D) (good : Bool) → d < length ds → get_or ds d e ≡ Some x → Stays g (λ _. ⊥) x z
    → (good ≡ false → Rose (g.faults x) (g.faults z)) → Tells (g.calls x) (g.calls z) (call_of 2 0 0 good) → IsSettling g d ds (set ds d (Some z)) good
settling_is g ds d e x z good h is stays cause told =
    let was : device_at ds d ≡ Some x = device_at-get ds d e h ∙ is in
    let now : device_at (set ds d (Some z)) d ≡ Some z = device_at-set ds d (Some z) h in
    let before : calls_of g ds d ≡ g.calls x = ap (λ o. option_and_then g.calls o) was in
    let after : calls_of g (set ds d (Some z)) d ≡ g.calls z = ap (λ o. option_and_then g.calls o) now in
    record {
      frame = changes-set g (λ _ _. ⊥) ds d (Some z) h (subst (λ o. StaysIf g (λ _. ⊥) o (Some z)) (sym was) stays);
      cause = λ bad. record { before = x; after = z; was = was; is = now; rose = cause bad };
      told = subst (λ o. Tells o (calls_of g (set ds d (Some z)) d) (call_of 2 0 0 good)) (sym before) (subst (λ o. Tells (g.calls x) o (call_of 2 0 0 good)) (sym after) told);
      others = λ k apart. device_at-set_other ds d k (Some z) apart;
    }
