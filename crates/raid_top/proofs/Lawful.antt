-- The layout of a configuration over whole tables has all laws.
use Rattle.std.specs.Prelude.{◌≡◌, ◌*◌, ◌/◌, ◌%◌, ◌≤◌, ◌||◌, ℕ, Bool, true, false, not, Option, Some, None, IsTrue, nat_eq, nat_le, if◌then◌else◌}
use Rattle.std.proofs.Common.{arith, refl, sym, ap, subst, ◌∙◌}
use Rattle.std.proofs.Math.Nat.{mul-div_cancel_left, mul-le-mul_right, mul-mod_right, mul-pos, mul_comm}
use Rattle.std.proofs.lemmas.Bool.{and_parts, eq-eqb, eqb-true, leb-true}
use Rattle.lay_core.specs.Layout.{IsLayout}
use Rattle.lay_decluster.specs.Limits.{IsTabled}
use Rattle.lay_decluster.specs.Shapes.{declustered, declustered_lawful, spared, spared_lawful}
use Rattle.lay_design.specs.Design.{Blocks, IsDesign}
use Rattle.lay_plain.specs.Chained.{chained_lawful}
use Rattle.lay_plain.specs.Mirrored.{mirrored_lawful}
use Rattle.lay_plain.specs.Rotation.{left_symmetric_lawful}
use Rattle.lay_plain.specs.Straight.{last_checked_lawful, striped_lawful}
use Rattle.raid_conf.specs.declared.conf.Conf.{Conf}
use Rattle.raid_conf.specs.declared.given.Given.{Given}
use Rattle.raid_conf.specs.declared.given.Given.TheVariants.{Listed, Cyclic, Complete}
use Rattle.raid_conf.specs.Designs.{blocks_of, serves}
use Rattle.raid_conf.specs.Form.{IsConf, IsDesignOf}
use Rattle.raid_conf.specs.Layouts.{design_shape, level_rows, level_stripes, plain_of, plain_shape, plain_stripes, shape_of}
use Rattle.raid_conf.specs.Steps.{level_shape, plain_rows, is_wide, width_of}
use Rattle.raid_conf.specs.Levels.{allows}
use Rattle.raid_conf.proofs.TableLaws.{is_given_design, rows_least, rows_most}
use Rattle.top_duty.specs.Opening.{AreTableRows}

-- ## A level that stands on no design

module _ (level n u rows tables : ℕ) (allowed : IsTrue (allows level n)) (n_least : 1 ≤ n) (n_most : n ≤ 32) (least : 1 ≤ u) (most : u ≤ 128) (some : 1 ≤ tables)
    (within : tables * plain_stripes (plain_of level) n ≤ 1048576) (whole : rows ≡ plain_rows (plain_of level) * tables) where
  wide : nat_eq level 48 ≡ false → 2 ≤ n
  unfolding allows
  wide e = leb-true 2 n (subst (λ (b : Bool). (b || nat_le 2 n) ≡ true) e (and_parts _ _ allowed).0)

  even : nat_eq level 49 ≡ true → n % 2 ≡ 0
  unfolding allows
  even e = eqb-true (n % 2) 0 (subst (λ (b : Bool). (not b || nat_eq (n % 2) 0) ≡ true) e (and_parts _ _ allowed).1)

  -- by how many rows and stripes the least layout has
  many : (r s : ℕ) → plain_rows (plain_of level) ≡ r → plain_stripes (plain_of level) n ≡ s → (rows ≡ r * tables) × (tables * s ≤ 1048576)
  many r s one two = (subst (λ (m : ℕ). rows ≡ m * tables) one whole, subst (λ (m : ℕ). tables * m ≤ 1048576) two within)

  plain_by : (a b c d : Bool) → nat_eq level 48 ≡ a → nat_eq level 49 ≡ b → nat_eq level 52 ≡ c → nat_eq level 53 ≡ d → IsLayout (plain_shape (plain_of level) n u rows)
  unfolding plain_of
  plain_by true b c d e f g h =
      let k = many 1 1 (rw e refl) (rw e refl) in
      rw e (striped_lawful n u rows n_least n_most least most (omega (arith, some, k.0)) (omega (arith, k.0, k.1)))
  plain_by false true c d e f g h =
      let k = many 1 (n / 2) (rw (e, f) refl) (rw (e, f) refl) in
      let same : rows ≡ tables = omega (arith, k.0) in
      let stripes : n / 2 * rows ≡ tables * (n / 2) = ap (λ (m : ℕ). n / 2 * m) same ∙ mul_comm (n / 2) tables in
      rw (e, f) (mirrored_lawful n u rows (even f) (wide e) n_most least most (omega (arith, some, same)) (omega (arith, k.1, stripes)))
  plain_by false false true d e f g h =
      let k = many 1 1 (rw (e, f, g) refl) (rw (e, f, g) refl) in
      rw (e, f, g) (last_checked_lawful n u rows (wide e) n_most least most (omega (arith, some, k.0)) (omega (arith, k.0, k.1)))
  plain_by false false false true e f g h =
      let k = many 1 1 (rw (e, f, g, h) refl) (rw (e, f, g, h) refl) in
      rw (e, f, g, h) (left_symmetric_lawful n u rows (wide e) n_most least most (omega (arith, some, k.0)) (omega (arith, k.0, k.1)))
  plain_by false false false false e f g h =
      let k = many 2 n (rw (e, f, g, h) refl) (rw (e, f, g, h) refl) in
      let half : rows / 2 ≡ tables = omega (arith, k.0) in
      let stripes : n * (rows / 2) ≡ tables * n = ap (λ (m : ℕ). n * m) half ∙ mul_comm n tables in
      rw (e, f, g, h) (chained_lawful n u rows (wide e) n_most least most (omega (arith, some, k.0)) (omega (arith, k.1, stripes)))

  plain_laws : IsLayout (plain_shape (plain_of level) n u rows)
  plain_laws = plain_by (nat_eq level 48) (nat_eq level 49) (nat_eq level 52) (nat_eq level 53) refl refl refl refl

-- ## A level that stands on a design

module _ (u rows tables : ℕ) (least : 1 ≤ u) (most : u ≤ 128) (some : 1 ≤ tables) where
  tabled : (d : Blocks) → IsDesign d → tables * (d.k * d.b) ≤ 1048576 → rows ≡ d.k * d.r * tables → IsTabled d u rows
  tabled d is within whole =
      let some_rows = mul-pos (rows_least d is.numbers) some in
      let few : d.k * d.r * tables ≤ d.k * d.b * tables = mul-le-mul_right tables (rows_most d is.numbers) in
      let turned : d.k * d.b * tables ≡ tables * (d.k * d.b) = mul_comm (d.k * d.b) tables in
      let count : rows / (d.k * d.r) ≡ tables = ap (λ (m : ℕ). m / (d.k * d.r)) whole ∙ mul-div_cancel_left tables (rows_least d is.numbers) in
      let stripes : d.k * d.b * (rows / (d.k * d.r)) ≡ tables * (d.k * d.b) = ap (λ (m : ℕ). d.k * d.b * m) count ∙ turned in
      record {
        design = is;
        unit_least = least;
        unit_most = most;
        rows_least = omega (arith, whole, some_rows);
        rows_most = omega (arith, whole, few, turned, within);
        whole = ap (λ (m : ℕ). m % (d.k * d.r)) whole ∙ mul-mod_right (d.k * d.r) tables;
        stripes_most = omega (arith, stripes, within);
      }

  design_laws : (level : ℕ) (d : Blocks) → IsDesign d → (level ≡ 68 → 3 ≤ d.k) → tables * (d.k * d.b) ≤ 1048576 → rows ≡ d.k * d.r * tables → IsLayout (design_shape level d u rows)
  unfolding design_shape
  design_laws level d is wide within whole = go (nat_eq level 68) refl
    where
      go : (b : Bool) → nat_eq level 68 ≡ b → IsLayout (if b then spared d u rows else declustered d u rows)
      go true e = spared_lawful d u rows (tabled d is within whole) (wide (eqb-true level 68 e))
      go false e = declustered_lawful d u rows (tabled d is within whole)

wide_if : (level : ℕ) (given : Given) → IsTrue (serves level given) → level ≡ 68 → 3 ≤ (blocks_of given).k
unfolding serves is_wide
wide_if level given h e = subst (λ (k : ℕ). 3 ≤ k) (widths given)
    (leb-true 3 (width_of given) (subst (λ (b : Bool). (not b || nat_le 3 (width_of given)) ≡ true) (eq-eqb level 68 e) (and_parts _ _ h).0))
  where
    widths : (given : Given) → width_of given ≡ (blocks_of given).k
    widths (Listed b v k r lambda tuples) = refl
    widths (Cyclic v base) = refl
    widths (Complete v k) = refl

-- ## Of any level

level_laws : (level n u rows tables : ℕ) (given : Option Given) → IsTrue (allows level n) → 1 ≤ n → n ≤ 32 → IsDesignOf level n given → 1 ≤ u → u ≤ 128 → 1 ≤ tables
    → tables * level_stripes level n given ≤ 1048576 → rows ≡ level_rows level given * tables → IsLayout (level_shape level n u rows given)
level_laws level n u rows tables None allowed n_least n_most is least most some within whole = plain_laws level n u rows tables allowed n_least n_most least most some within whole
level_laws level n u rows tables (Some given) allowed n_least n_most is least most some within whole =
    let both = is_given_design level n given is in
    let d = blocks_of given in
    subst (λ (b : Bool). IsLayout (if b then design_shape level d u rows else plain_shape (plain_of level) n u rows)) (sym both.0)
    (design_laws u rows tables least most some level d both.1 (wide_if level given is.1.serves)
    (subst (λ (b : Bool). tables * (if b then d.k * d.b else plain_stripes (plain_of level) n) ≤ 1048576) both.0 within)
    (subst (λ (b : Bool). rows ≡ (if b then d.k * d.r else plain_rows (plain_of level)) * tables) both.0 whole))

pub shape_laws : (conf : Conf) (rows : ℕ) → IsConf conf → AreTableRows conf rows → IsLayout (shape_of conf rows)
shape_laws conf rows is h =
    level_laws conf.level conf.columns conf.unit rows h.tables conf.design is.allowed is.columns_least is.columns_most is.design is.unit_least is.unit_most h.some h.within h.are
