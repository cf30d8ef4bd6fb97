-- The layout that a configuration describes.
use Rattle.std.specs.Prelude.{◌≡◌, ◌≢◌, ◌<◌, ◌≤◌, ◌*◌, ◌/◌, ◌⊎◌, ℕ, Bool, true, false, Option, Some, None, IsTrue, if◌then◌else◌, nat_eq, nat_lt, ◌+◌, ◌%◌, ◌-◌}
use Rattle.lay_core.specs.Layout.{Shape, IsLayout}
use Rattle.lay_decluster.specs.declared.fault.TableFault.{TableFault}
use Rattle.lay_decluster.specs.declared.fault.TableFault.TheVariants as table
use Rattle.lay_decluster.specs.Limits.{AreNoTables, IsNoUnit, IsUnit}
use Rattle.lay_decluster.specs.Shapes.{declustered, declustered_lawful, spared, spared_lawful}
use Rattle.lay_design.specs.declared.fault.DesignFault.{DesignFault}
use Rattle.lay_design.specs.declared.fault.DesignFault.TheVariants as design
use Rattle.lay_design.specs.Design.{Blocks, IsFault}
use Rattle.lay_plain.specs.declared.fault.MakeFault.{MakeFault}
use Rattle.lay_plain.specs.declared.fault.MakeFault.TheVariants as make
use Rattle.lay_plain.specs.Chained.{AreNoRounds, chained, chained_lawful}
use Rattle.lay_plain.specs.LeftSymmetric.{left_symmetric}
use Rattle.lay_plain.specs.Limits.{IsBetween, IsOutside}
use Rattle.lay_plain.specs.Mirrored.{AreNoPairs, ArePairs, mirrored, mirrored_lawful}
use Rattle.lay_plain.specs.Rotation.{left_symmetric_lawful}
use Rattle.lay_plain.specs.Straight.{last_checked, last_checked_lawful, striped, striped_lawful}
use Rattle.raid_conf.specs.declared.any_fault.AnyFault.{AnyFault}
use Rattle.raid_conf.specs.declared.any_fault.AnyFault.TheVariants as any
use Rattle.raid_conf.specs.declared.conf.Conf.{Conf}
use Rattle.raid_conf.specs.declared.given.Given.{Given}
use Rattle.raid_conf.specs.declared.layouts.AnyLayout.{AnyLayout}
use Rattle.raid_conf.specs.declared.layouts.AnyLayout.TheVariants.{Level0, Level1, Level4, Level5, LevelC, LevelT, LevelD}
use Rattle.raid_conf.specs.declared.plain.Plain.{Plain}
use Rattle.raid_conf.specs.declared.plain.Plain.TheVariants.{Striped, Mirrored, LastChecked, LeftSymmetric, Chained}
use Rattle.raid_conf.specs.Designs.{blocks_of}
use Rattle.raid_conf.specs.Levels.{has_design, is_level}
use Rattle.lay_plain.specs.Plain.{by_rows}

-- ---- any layout is one

-- the layout as one record
abbrev pub shape_in : AnyLayout → Shape
shape_in (Level0 l) = striped l.columns l.unit_sectors l.rows
shape_in (Level1 l) = mirrored l.columns l.unit_sectors l.rows
shape_in (Level4 l) = last_checked l.columns l.unit_sectors l.rows
shape_in (Level5 l) = left_symmetric l.columns l.unit_sectors l.rows
shape_in (LevelC l) = chained l.columns l.unit_sectors l.rows
shape_in (LevelT l) = declustered l.table l.unit_sectors l.rows
shape_in (LevelD l) = spared l.table l.unit_sectors l.rows

-- it has all laws
pub shape_lawful : (layout : AnyLayout) → IsLayout (shape_in layout)
shape_lawful (Level0 l) = striped_lawful l.columns l.unit_sectors l.rows l.columns_least l.columns_most l.unit_least l.unit_most l.rows_least l.rows_most
shape_lawful (Level1 l) = mirrored_lawful l.columns l.unit_sectors l.rows l.columns_even l.columns_least l.columns_most l.unit_least l.unit_most l.rows_least l.stripes_most
shape_lawful (Level4 l) = last_checked_lawful l.columns l.unit_sectors l.rows l.columns_least l.columns_most l.unit_least l.unit_most l.rows_least l.rows_most
shape_lawful (Level5 l) = left_symmetric_lawful l.columns l.unit_sectors l.rows l.columns_least l.columns_most l.unit_least l.unit_most l.rows_least l.rows_most
shape_lawful (LevelC l) = chained_lawful l.columns l.unit_sectors l.rows l.columns_least l.columns_most l.unit_least l.unit_most l.rows_least l.stripes_most
shape_lawful (LevelT l) = declustered_lawful l.table l.unit_sectors l.rows l.tabled
shape_lawful (LevelD l) = spared_lawful l.table l.unit_sectors l.rows l.tabled l.wide

-- ---- which one a configuration describes

-- the layout of a level that stands on no design
unfoldable pub plain_of : ℕ → Plain
plain_of level = if nat_eq level 48 then Striped else (if nat_eq level 49 then Mirrored else (if nat_eq level 52 then LastChecked else (if nat_eq level 53 then LeftSymmetric else Chained)))

abbrev pub plain_shape : Plain → ℕ → ℕ → ℕ → Shape
plain_shape Striped n u rows = by_rows n 0 u rows (λ s i. i)
plain_shape Mirrored n u rows = mirrored n u rows
plain_shape LastChecked n u rows = by_rows n 1 u rows (λ s i. i)
plain_shape LeftSymmetric n u rows =
    by_rows n 1 u rows (λ s i. if nat_lt i (n - 1) then (s * (n - 1) + i) % n else n - 1 - s % n)
plain_shape Chained n u rows = chained n u rows

-- the layout of a level that stands on this design
unfoldable pub design_shape : ℕ → Blocks → ℕ → ℕ → Shape
design_shape level d u rows = if nat_eq level 68 then spared d u rows else declustered d u rows

-- the layout that a configuration describes, with so many rows
abbrev pub shape_of : Conf → ℕ → Shape
shape_of conf rows =
    let plain = plain_shape (plain_of conf.level) conf.columns conf.unit rows in
    elim conf.design [
      | None ↦ plain
      | Some given ↦ if has_design conf.level then design_shape conf.level (blocks_of given) conf.unit rows else plain
    ]

abbrev pub plain_stripes : Plain → ℕ → ℕ
plain_stripes Chained n = n
plain_stripes Mirrored n = n / 2
plain_stripes _ n = 1

abbrev pub level_rows : ℕ → Option Given → ℕ
level_rows level given =
    let plain : ℕ = elim (plain_of level) [ Chained ↦ 2 | _ ↦ 1 ] in
    elim given [
      | None ↦ plain
      | Some g ↦ if has_design level then (blocks_of g).k * (blocks_of g).r else plain
    ]

abbrev pub level_stripes : ℕ → ℕ → Option Given → ℕ
level_stripes level n None = plain_stripes (plain_of level) n
level_stripes level n (Some given) = if has_design level then (blocks_of given).k * (blocks_of given).b else plain_stripes (plain_of level) n

abbrev pub table_rows : Conf → ℕ
table_rows conf = level_rows conf.level conf.design

abbrev pub table_stripes : Conf → ℕ
table_stripes conf = level_stripes conf.level conf.columns conf.design

-- ---- why it isn't made

-- the level is one of the seven, and has a design where it stands on one
abbrev pub HasDesign : Option Given → Type 0
HasDesign None = ⊥
HasDesign (Some given) = Unit {0}

pub record IsMakeable (conf : Conf) : Type 0 where
  pub level : IsTrue (is_level conf.level)
  pub design : IsTrue (has_design conf.level) → HasDesign conf.design

-- the level can't have so many columns
abbrev pub AreNoColumns : Plain → ℕ → Type 0
AreNoColumns Striped n = IsOutside 1 32 n
AreNoColumns Mirrored n = AreNoPairs n
AreNoColumns _ n = IsOutside 2 32 n

abbrev pub AreColumns : Plain → ℕ → Type 0
AreColumns Striped n = IsBetween 1 32 n
AreColumns Mirrored n = ArePairs n
AreColumns _ n = IsBetween 2 32 n

-- the level can't have so many rows of n columns
abbrev pub AreNoRows : Plain → ℕ → ℕ → Type 0
AreNoRows Mirrored n rows = (rows < 1) ⊎ (1048576 < n / 2 * rows)
AreNoRows Chained n rows = AreNoRounds n rows
AreNoRows _ n rows = IsOutside 1 1048576 rows

-- the first cause for which a level that stands on no design isn't made
abbrev pub IsMakeFault : Plain → ℕ → ℕ → ℕ → MakeFault → Type 0
IsMakeFault plain n u rows make.Columns = AreNoColumns plain n
IsMakeFault plain n u rows make.Unit = AreColumns plain n × IsOutside 1 128 u
IsMakeFault plain n u rows make.Rows = AreColumns plain n × IsBetween 1 128 u × AreNoRows plain n rows

-- the first cause for which a level that stands on this design isn't made: at level D a tuple has three objects at least
abbrev pub IsTableFault : ℕ → Blocks → ℕ → ℕ → TableFault → Type 0
IsTableFault level d u rows table.Width = (level ≡ 68) × (d.k < 3)
IsTableFault level d u rows table.Unit = (level ≡ 68 → 3 ≤ d.k) × IsNoUnit u
IsTableFault level d u rows table.Rows = (level ≡ 68 → 3 ≤ d.k) × IsUnit u × AreNoTables d rows
IsTableFault level d u rows table.Memory = ⊥

-- why a level isn't made on what is given: it is no design, or the maker of the layout refuses it; or there is no memory
abbrev pub IsDesignFault : ℕ → Blocks → ℕ → ℕ → AnyFault → Type 0
IsDesignFault level d u rows (any.Make fault) = ⊥
IsDesignFault level d u rows (any.Design fault) = (fault ≢ design.Memory) × IsFault d fault
IsDesignFault level d u rows (any.Table fault) = IsTableFault level d u rows fault
IsDesignFault level d u rows any.Memory = Unit {0}

-- the first cause for which a level isn't made, with the design that there may be
abbrev pub IsPlainFault : ℕ → ℕ → ℕ → ℕ → AnyFault → Type 0
IsPlainFault level n u rows (any.Make fault) = IsMakeFault (plain_of level) n u rows fault
IsPlainFault level n u rows _ = ⊥

abbrev pub IsLevelFault : Bool → ℕ → ℕ → ℕ → ℕ → Option Given → AnyFault → Type 0
IsLevelFault true level n u rows (Some given) fault = IsDesignFault level (blocks_of given) u rows fault
IsLevelFault true level n u rows None fault = ⊥
IsLevelFault false level n u rows _ fault = IsPlainFault level n u rows fault

-- the first cause for which the layout of a configuration isn't made with so many rows
abbrev pub IsAnyFault : Conf → ℕ → AnyFault → Type 0
IsAnyFault conf rows fault = IsLevelFault (has_design conf.level) conf.level conf.columns conf.unit rows conf.design fault

-- what a maker's fault is to a configuration: want of memory is one for all
abbrev pub of_table : TableFault → AnyFault
of_table table.Memory = any.Memory
of_table fault = any.Table fault

abbrev pub of_design : DesignFault → AnyFault
of_design design.Memory = any.Memory
of_design fault = any.Design fault
