-- The spare places of a layout.
use Rattle.std.specs.Prelude.{◌≡◌, ℕ, Bool, true, false, Option, Some, None, IsSome, IsTrue, if◌then◌else◌, nat_eq}
use Rattle.std.proofs.Common.{refl, sym, ap, subst, ◌∙◌}
use Rattle.lay_decluster.specs.Shapes.{declustered, spared}
use Rattle.raid_conf.specs.declared.given.Given.{Given}
use Rattle.raid_conf.specs.Designs.{blocks_of}
use Rattle.raid_conf.specs.Form.{IsDesignOf}
use Rattle.raid_conf.specs.Layouts.{design_shape, plain_of, plain_shape}
use Rattle.raid_conf.specs.Steps.{level_shape}
use Rattle.raid_conf.specs.Levels.{has_design}

-- at level D each stripe has one
with_design : IsTrue (has_design 68)
unfolding has_design
with_design = refl

pub spare_by : (level n u rows : ℕ) (given : Option Given) → level ≡ 68 → IsDesignOf level n given → (s : ℕ) → IsSome ((level_shape level n u rows given).spare s)
unfolding design_shape
spare_by level n u rows None e is s = let bad : true ≡ false = sym with_design ∙ (ap has_design (sym e) ∙ is) in cc bad
spare_by level n u rows (Some given) e is s =
    subst (λ (b : Bool). IsSome ((if b then design_shape level (blocks_of given) u rows else plain_shape (plain_of level) n u rows).spare s)) (sym is.0)
    (subst (λ (l : ℕ). IsSome ((if nat_eq l 68 then spared (blocks_of given) u rows else declustered (blocks_of given) u rows).spare s)) (sym e) refl)
