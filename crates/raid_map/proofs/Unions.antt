-- A map to which sectors were added.
use Rattle.std.proofs.Common.{◌≡◌, ◌<◌, ◌≤◌, ◌-◌, ◌*◌, ℕ, List, Bool, true, false, refl, ◌∙◌, ap, arith, length}
use Rattle.std.specs.Prelude.{◌||◌, ◌&&◌, slice_index}
use Rattle.std.proofs.Math.Nat.{div-lt_iff_lt-mul}
use Rattle.std.proofs.lemmas.Bool.{lt-ltb}
use Rattle.lay_core.proofs.Quotients.{div-le-div}
use Rattle.raid_map.specs.Regions.{region_stripes, region_of, regions_in, bit_at, IsMap, Marks, is_marked, Adds}

or-right : (a b : Bool) → b ≡ true → (a || b) ≡ true
or-right true b h = refl
or-right false b h = h

or-left : (a b : Bool) → a ≡ true → (a || b) ≡ true
or-left true b h = refl
or-left false b h = let z : false ≡ true = h in absurd (let u : ⊥ = cc in u)

-- a stripe's region is one of the map's
pub region-within : (stripes s : ℕ) → s < stripes → (region_of stripes s < regions_in stripes) × (region_of stripes s < 3968)
region-within stripes s h =
    let each : 0 < region_stripes stripes = omega (arith, h) in
    let a = div-le-div s (stripes - 1) (region_stripes stripes) each (omega (arith, h)) in
    let fits : s < 3968 * region_stripes stripes = omega (arith, h) in
    (omega (arith, a), (div-lt_iff_lt-mul {k = region_stripes stripes} {x = s} {y = 3968} each).1 fits)

-- a map has bits enough
pub regions-few : (stripes : ℕ) → 1 ≤ stripes → regions_in stripes ≤ 3968
regions-few stripes some = let w = region-within stripes (stripes - 1) (omega (arith, some)) in let few = w.1 in omega (arith, few)

pub added-marks : (old new : Marks) (sector : List ℕ) (marks : ℕ → Bool) (r : ℕ) → Adds old new sector → IsMap old.serial old.stripes marks (slice_index sector) → r < regions_in old.stripes → marks r ≡ true → is_marked new.marks r ≡ true
added-marks old new sector marks r adds map within h =
    let count = adds.whole in
    let few = regions-few old.stripes adds.some in
    adds.marks r (omega (arith, count, within)) ∙ or-right (is_marked old.marks r) (bit_at (slice_index sector) r) (map.bits r (omega (arith, few, within)) ∙ ap (λ b. b && marks r) (lt-ltb r (regions_in old.stripes) within) ∙ h)

pub kept-marks : (old new : Marks) (sector : List ℕ) (r : ℕ) → Adds old new sector → r < length old.marks → is_marked old.marks r ≡ true → is_marked new.marks r ≡ true
kept-marks old new sector r adds within h = adds.marks r within ∙ or-left (is_marked old.marks r) (bit_at (slice_index sector) r) h
