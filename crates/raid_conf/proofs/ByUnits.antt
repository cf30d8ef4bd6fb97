-- Where a layout has spare places they lie on columns with units.
use Rattle.std.specs.Prelude.{◌≡◌, Some, None}
use Rattle.lay_core.specs.declared.place.Place.{Place}
use Rattle.lay_core.specs.Layout.{SparesLieByUnits}
use Rattle.lay_decluster.proofs.ByUnits.{spared_by_units}
use Rattle.raid_conf.specs.declared.layouts.AnyLayout.{AnyLayout}
use Rattle.raid_conf.specs.declared.layouts.AnyLayout.TheVariants.{Level0, Level1, Level4, Level5, LevelC, LevelT, LevelD}
use Rattle.raid_conf.specs.Layouts.{shape_in}

none : {A : Type 0} (p : Place) → None ≡ Some p → A
none p e = cc

pub spares_by_units : (layout : AnyLayout) → SparesLieByUnits (shape_in layout)
spares_by_units (Level0 l) = λ s p within is. none p is
spares_by_units (Level1 l) = λ s p within is. none p is
spares_by_units (Level4 l) = λ s p within is. none p is
spares_by_units (Level5 l) = λ s p within is. none p is
spares_by_units (LevelC l) = λ s p within is. none p is
spares_by_units (LevelT l) = λ s p within is. none p is
spares_by_units (LevelD l) = spared_by_units l.table l.unit_sectors l.rows l.tabled l.wide
