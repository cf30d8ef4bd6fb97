-- A layout over whole tables of a configuration is made but for want of memory.
use Rattle.std.specs.Prelude.{◌≡◌, ◌≢◌, ◌⊎◌, ◌+◌, ◌*◌, ◌/◌, ◌%◌, ◌<◌, ◌≤◌, ◌||◌, ℕ, Bool, true, false, not, Option, Some, None, IsTrue, nat_eq, nat_le, if◌then◌else◌}
use Rattle.std.proofs.Common.{arith, refl, sym, ap, subst, inl, inr, ◌∙◌}
use Rattle.std.proofs.Math.Nat.{mul-div_cancel_left, mul-mod_right, mul-pos, mul_comm}
use Rattle.std.proofs.lemmas.Bool.{and_parts, eq-eqb, eqb-true, leb-true}
use Rattle.lay_decluster.specs.declared.fault.TableFault.{TableFault}
use Rattle.lay_decluster.specs.declared.fault.TableFault.TheVariants as table
use Rattle.lay_design.specs.declared.fault.DesignFault.{DesignFault}
use Rattle.lay_design.specs.declared.fault.DesignFault.TheVariants as design
use Rattle.lay_design.specs.Design.{Blocks, IsDesign, IsFault}
use Rattle.lay_plain.specs.declared.fault.MakeFault.{MakeFault}
use Rattle.lay_plain.specs.declared.fault.MakeFault.TheVariants as make
use Rattle.raid_conf.specs.declared.any_fault.AnyFault.{AnyFault}
use Rattle.raid_conf.specs.declared.any_fault.AnyFault.TheVariants as any
use Rattle.raid_conf.specs.declared.conf.Conf.{Conf}
use Rattle.raid_conf.specs.declared.given.Given.{Given}
use Rattle.raid_conf.specs.declared.given.Given.TheVariants.{Listed, Cyclic, Complete}
use Rattle.raid_conf.specs.declared.plain.Plain.{Plain}
use Rattle.raid_conf.specs.declared.plain.Plain.TheVariants.{Striped, Mirrored, LastChecked, LeftSymmetric, Chained}
use Rattle.raid_conf.specs.Designs.{blocks_of, serves}
use Rattle.raid_conf.specs.Form.{IsConf, IsDesignOf}
use Rattle.raid_conf.specs.Layouts.{AreColumns, AreNoColumns, AreNoRows, IsAnyFault, IsDesignFault, IsLevelFault, IsMakeFault, IsPlainFault, IsTableFault, level_rows, level_stripes, plain_of, plain_stripes, table_rows, table_stripes}
use Rattle.raid_conf.specs.Steps.{plain_rows, is_wide, width_of}
use Rattle.raid_conf.specs.Levels.{allows, has_design}
use Rattle.raid_conf.proofs.TableLaws.{is_given_design, rows_least}

-- ---- a level that stands on no design

columns_are : (level n : ℕ) → IsTrue (allows level n) → 1 ≤ n → n ≤ 32 → AreColumns (plain_of level) n
unfolding allows plain_of
columns_are level n h least most = go (nat_eq level 48) (nat_eq level 49) (nat_eq level 52) (nat_eq level 53) (and_parts _ _ h).0 (and_parts _ _ h).1
  where
    go : (a b c d : Bool) → (a || nat_le 2 n) ≡ true → (not b || nat_eq (n % 2) 0) ≡ true
        → AreColumns (if a then Striped else (if b then Mirrored else (if c then LastChecked else (if d then LeftSymmetric else Chained)))) n
    go true b c d wide even = (least, most)
    go false true c d wide even = ((leb-true 2 n wide, most), eqb-true (n % 2) 0 even)
    go false false true d wide even = (leb-true 2 n wide, most)
    go false false false true wide even = (leb-true 2 n wide, most)
    go false false false false wide even = (leb-true 2 n wide, most)

no_columns : (p : Plain) (n : ℕ) → AreColumns p n → AreNoColumns p n → ⊥
no_columns Striped n are (inl few) = omega (arith, are.0, few)
no_columns Striped n are (inr many) = omega (arith, are.1, many)
no_columns Mirrored n are (inl (inl few)) = omega (arith, are.0.0, few)
no_columns Mirrored n are (inl (inr many)) = omega (arith, are.0.1, many)
no_columns Mirrored n are (inr odd) = omega (arith, are.1, odd)
no_columns LastChecked n are (inl few) = omega (arith, are.0, few)
no_columns LastChecked n are (inr many) = omega (arith, are.1, many)
no_columns LeftSymmetric n are (inl few) = omega (arith, are.0, few)
no_columns LeftSymmetric n are (inr many) = omega (arith, are.1, many)
no_columns Chained n are (inl few) = omega (arith, are.0, few)
no_columns Chained n are (inr many) = omega (arith, are.1, many)

no_unit : (u : ℕ) → 1 ≤ u → u ≤ 128 → (u < 1) ⊎ (128 < u) → ⊥
no_unit u least most (inl few) = omega (arith, least, few)
no_unit u least most (inr many) = omega (arith, most, many)

no_rows : (p : Plain) (n rows tables : ℕ) → 1 ≤ tables → tables * plain_stripes p n ≤ 1048576 → rows ≡ plain_rows p * tables → AreNoRows p n rows → ⊥
no_rows Striped n rows tables some within are (inl few) = omega (arith, some, are, few)
no_rows Striped n rows tables some within are (inr many) = omega (arith, within, are, many)
no_rows Mirrored n rows tables some within are (inl few) = omega (arith, some, are, few)
no_rows Mirrored n rows tables some within are (inr many) =
    let same : rows ≡ tables = omega (arith, are) in
    let stripes : n / 2 * rows ≡ tables * (n / 2) = ap (λ m. n / 2 * m) same ∙ mul_comm (n / 2) tables in
    omega (arith, within, stripes, many)
no_rows LastChecked n rows tables some within are (inl few) = omega (arith, some, are, few)
no_rows LastChecked n rows tables some within are (inr many) = omega (arith, within, are, many)
no_rows LeftSymmetric n rows tables some within are (inl few) = omega (arith, some, are, few)
no_rows LeftSymmetric n rows tables some within are (inr many) = omega (arith, within, are, many)
no_rows Chained n rows tables some within are (inl few) = omega (arith, some, are, few)
no_rows Chained n rows tables some within are (inr (inl odd)) = omega (arith, are, odd)
no_rows Chained n rows tables some within are (inr (inr many)) =
    let half : rows / 2 ≡ tables = omega (arith, are) in
    let stripes : n * (rows / 2) ≡ tables * n = ap (λ m. n * m) half ∙ mul_comm n tables in
    omega (arith, within, stripes, many)

-- ---- a level that stands on a design

wide_if : (level : ℕ) (given : Given) → IsTrue (serves level given) → level ≡ 68 → 3 ≤ (blocks_of given).k
unfolding serves is_wide
wide_if level given h e = subst (λ (k : ℕ). 3 ≤ k) (widths given)
    (leb-true 3 (width_of given) (subst (λ (b : Bool). (not b || nat_le 3 (width_of given)) ≡ true) (eq-eqb level 68 e) (and_parts _ _ h).0))
  where
    widths : (given : Given) → width_of given ≡ (blocks_of given).k
    widths (Listed b v k r lambda tuples) = refl
    widths (Cyclic v base) = refl
    widths (Complete v k) = refl

module _ (u rows tables : ℕ) (least : 1 ≤ u) (most : u ≤ 128) (some : 1 ≤ tables) where
  no_make : (p : Plain) (n : ℕ) → AreColumns p n → tables * plain_stripes p n ≤ 1048576 → rows ≡ plain_rows p * tables → (fault : MakeFault) → IsMakeFault p n u rows fault → ⊥
  no_make p n are within whole make.Columns h = no_columns p n are h
  no_make p n are within whole make.Unit h = no_unit u least most h.1
  no_make p n are within whole make.Rows h = no_rows p n rows tables some within whole h.2

  no_table : (level : ℕ) (d : Blocks) → IsDesign d → (level ≡ 68 → 3 ≤ d.k) → tables * (d.k * d.b) ≤ 1048576 → rows ≡ d.k * d.r * tables → (fault : TableFault) → IsTableFault level d u rows fault → ⊥
  no_table level d is wide within whole table.Width h = omega (arith, wide h.0, h.1)
  no_table level d is wide within whole table.Unit h = no_unit u least most h.1
  no_table level d is wide within whole table.Rows h = elim h.2 [
    | inl part ↦ part (ap (λ (m : ℕ). m % (d.k * d.r)) whole ∙ mul-mod_right (d.k * d.r) tables)
    | inr other ↦ elim other [
      | inl none ↦ omega (arith, none, whole, mul-pos (rows_least d is.numbers) some)
      | inr many ↦
          let count : rows / (d.k * d.r) ≡ tables = ap (λ (m : ℕ). m / (d.k * d.r)) whole ∙ mul-div_cancel_left tables (rows_least d is.numbers) in
          let stripes : d.k * d.b * (rows / (d.k * d.r)) ≡ tables * (d.k * d.b) = ap (λ (m : ℕ). d.k * d.b * m) count ∙ mul_comm (d.k * d.b) tables in
          omega (arith, within, stripes, many)
    ]
  ]
  no_table level d is wide within whole table.Memory h = absurd h

  module _ (law : (d : Blocks) (fault : DesignFault) → IsDesign d → IsFault d fault → fault ≡ design.Memory) where
    plain_memory : (level n : ℕ) → AreColumns (plain_of level) n → tables * plain_stripes (plain_of level) n ≤ 1048576 → rows ≡ plain_rows (plain_of level) * tables
        → (fault : AnyFault) → IsPlainFault level n u rows fault → fault ≡ any.Memory
    plain_memory level n are within whole (any.Make fault) h = absurd (no_make (plain_of level) n are within whole fault h)
    plain_memory level n are within whole (any.Design fault) h = absurd h
    plain_memory level n are within whole (any.Table fault) h = absurd h
    plain_memory level n are within whole any.Memory h = refl

    design_memory : (level : ℕ) (d : Blocks) → IsDesign d → (level ≡ 68 → 3 ≤ d.k) → tables * (d.k * d.b) ≤ 1048576 → rows ≡ d.k * d.r * tables
        → (fault : AnyFault) → IsDesignFault level d u rows fault → fault ≡ any.Memory
    design_memory level d is wide within whole (any.Make fault) h = absurd h
    design_memory level d is wide within whole (any.Design fault) h = absurd (h.0 (law d fault is h.1))
    design_memory level d is wide within whole (any.Table fault) h = absurd (no_table level d is wide within whole fault h)
    design_memory level d is wide within whole any.Memory h = refl

    level_memory : (level n : ℕ) (given : Option Given) → AreColumns (plain_of level) n → IsDesignOf level n given → tables * level_stripes level n given ≤ 1048576 → rows ≡ level_rows level given * tables
        → (fault : AnyFault) → IsLevelFault (has_design level) level n u rows given fault → fault ≡ any.Memory
    level_memory level n None are is within whole fault h = plain_memory level n are within whole fault (subst (λ (b : Bool). IsLevelFault b level n u rows None fault) is h)
    level_memory level n (Some given) are is within whole fault h =
        let both = is_given_design level n given is in
        let d = blocks_of given in
        design_memory level d both.1 (wide_if level given is.1.serves)
        (subst (λ (b : Bool). tables * (if b then d.k * d.b else plain_stripes (plain_of level) n) ≤ 1048576) both.0 within)
        (subst (λ (b : Bool). rows ≡ (if b then d.k * d.r else plain_rows (plain_of level)) * tables) both.0 whole)
        fault
        (subst (λ (b : Bool). IsLevelFault b level n u rows (Some given) fault) both.0 h)

pub only_memory : ((d : Blocks) (fault : DesignFault) → IsDesign d → IsFault d fault → fault ≡ design.Memory)
    → (conf : Conf) (rows tables : ℕ) (fault : AnyFault) → IsConf conf → 1 ≤ tables → tables * table_stripes conf ≤ 1048576 → rows ≡ table_rows conf * tables
    → IsAnyFault conf rows fault → fault ≡ any.Memory
only_memory law conf rows tables fault is some within whole h =
    level_memory conf.unit rows tables is.unit_least is.unit_most some law conf.level conf.columns conf.design
    (columns_are conf.level conf.columns is.allowed is.columns_least is.columns_most) is.design within whole fault h
