-- The least layout of a configuration: its rows and stripes, and the numbers of its layouts.
use Rattle.std.specs.Prelude.{◌≡◌, ◌+◌, ◌-◌, ◌*◌, ◌<◌, ◌≤◌, ◌||◌, ℕ, zero, suc, Bool, true, false, Option, Some, None, IsTrue, nat_eq, nat_le, if◌then◌else◌}
use Rattle.std.proofs.Common.{arith, refl, sym, ap, subst, ◌∙◌}
use Rattle.std.proofs.Math.Nat.{le_of_mul-le-mul_left, mul-le-mul_left, mul-le-mul_right, mul-pos}
use Rattle.std.proofs.lemmas.Bool.{and_parts, leb-true}
use Rattle.lay_core.specs.Layout.{Shape}
use Rattle.lay_design.specs.Design.{AreNumbers, Blocks, IsDesign}
use Rattle.lay_design.specs.Families.{choose}
use Rattle.lay_decluster.specs.Shapes.{declustered, spared}
use Rattle.raid_conf.specs.declared.conf.Conf.{Conf}
use Rattle.raid_conf.specs.declared.given.Given.{Given}
use Rattle.raid_conf.specs.declared.given.Given.TheVariants.{Listed, Cyclic, Complete}
use Rattle.raid_conf.specs.declared.plain.Plain.{Plain}
use Rattle.raid_conf.specs.declared.plain.Plain.TheVariants.{Striped, Mirrored, LastChecked, LeftSymmetric, Chained}
use Rattle.raid_conf.specs.Designs.{blocks_of, objects_of, serves}
use Rattle.raid_conf.specs.Form.{IsConf, IsDesignOf}
use Rattle.raid_conf.specs.Layouts.{HasDesign, IsMakeable, design_shape, level_rows, level_stripes, plain_of, plain_shape, plain_stripes, shape_of, table_rows, table_stripes}
use Rattle.raid_conf.specs.Steps.{level_shape, plain_rows, is_wide}
use Rattle.raid_conf.specs.Levels.{allows, has_design}
use Rattle.raid_conf.proofs.Judged.{design_is}

-- ---- how many tuples there are

pub choose_none : (n : ℕ) → choose n 0 ≡ 1
choose_none zero = refl
choose_none (suc n) = refl

pub choose_few : (n k : ℕ) → n < k → choose n k ≡ 0
choose_few n zero h = absurd (omega (arith, h))
choose_few zero (suc k) h = refl
choose_few (suc n) (suc k) h = omega (arith, choose_few n k (omega (arith, h)), choose_few n (suc k) (omega (arith, h)))

pub choose_step : (n k : ℕ) → 0 < n → 0 < k → choose n k ≡ choose (n - 1) (k - 1) + choose (n - 1) k
choose_step zero k hn hk = absurd (omega (arith, hn))
choose_step (suc n) zero hn hk = absurd (omega (arith, hk))
choose_step (suc n) (suc k) hn hk =
    let en : suc n - 1 ≡ n = omega arith in
    let ek : suc k - 1 ≡ k = omega arith in
    rw (en, ek) refl

-- ---- the design that is given

pub serves_design : (level : ℕ) (given : Given) → IsTrue (serves level given) → IsDesign (blocks_of given)
unfolding serves is_wide
serves_design level given h = design_is (blocks_of given) ((and_parts _ _ h).1)

-- where there is one, the level stands on it
pub is_given_design : (level columns : ℕ) (given : Given) → IsDesignOf level columns (Some given) → IsTrue (has_design level) × IsDesign (blocks_of given)
is_given_design level columns given h = (h.0, serves_design level given h.1.serves)

-- the rows of a full table: 1 to its stripes, which are few. Each tuple has at most as many objects as there are, and these places are those of each object in its tuples
module _ (d : Blocks) (n : AreNumbers d) where
  degree_most : d.r ≤ d.b
  degree_most =
      let places : d.v * d.r ≤ d.v * d.b = omega (arith, n.places, mul-le-mul_right d.b n.width_most) in
      le_of_mul-le-mul_left places (omega (arith, n.objects_least))

  degree_least : 0 < d.r
  degree_least = go d.r refl
    where
      go : (r : ℕ) → d.r ≡ r → 0 < d.r
      go zero e =
          let none : d.v * d.r ≡ 0 = ap (λ r. d.v * r) e ∙ omega arith in
          let some : 0 < d.b * d.k = mul-pos (omega (arith, n.tuples_least)) (omega (arith, n.width_least)) in
          absurd (omega (arith, none, some, n.places))
      go (suc r) e = omega (arith, e)

  pub rows_least : 0 < d.k * d.r
  rows_least = mul-pos (omega (arith, n.width_least)) degree_least

  pub rows_most : d.k * d.r ≤ d.k * d.b
  rows_most = mul-le-mul_left d.k degree_most

  pub stripes_most : d.k * d.b ≤ 131072
  stripes_most =
      let wide : d.k * d.b ≤ 32 * d.b = mul-le-mul_right d.b (omega (arith, n.width_most, n.objects_most)) in
      omega (arith, wide, n.tuples_most)

-- ---- the least layout of a level

-- a level that isn't 0 has two columns at least
wide_unless : (level columns : ℕ) → IsTrue (allows level columns) → nat_eq level 48 ≡ false → 2 ≤ columns
unfolding allows
wide_unless level columns h e = leb-true 2 columns (subst (λ (b : Bool). (b || nat_le 2 columns) ≡ true) e ((and_parts _ _ h).0))

-- level 0 isn't what has pairs of columns or of rows
is_striped : (level : ℕ) → nat_eq level 48 ≡ true → plain_of level ≡ Striped
unfolding plain_of
is_striped level e = rw e refl

plain_rows_least : (p : Plain) → 0 < plain_rows p
plain_rows_least Striped = omega arith
plain_rows_least Mirrored = omega arith
plain_rows_least LastChecked = omega arith
plain_rows_least LeftSymmetric = omega arith
plain_rows_least Chained = omega arith

wide_rows_most : (p : Plain) (columns : ℕ) → 2 ≤ columns → plain_rows p ≤ plain_stripes p columns
wide_rows_most Striped columns h = omega arith
wide_rows_most Mirrored columns h = omega (arith, h)
wide_rows_most LastChecked columns h = omega arith
wide_rows_most LeftSymmetric columns h = omega arith
wide_rows_most Chained columns h = omega (arith, h)

plain_rows_most : (level columns : ℕ) → IsTrue (allows level columns) → plain_rows (plain_of level) ≤ plain_stripes (plain_of level) columns
plain_rows_most level columns h = go (nat_eq level 48) refl
  where
    go : (b : Bool) → nat_eq level 48 ≡ b → plain_rows (plain_of level) ≤ plain_stripes (plain_of level) columns
    go true e = rw (is_striped level e) (omega arith)
    go false e = wide_rows_most (plain_of level) columns (wide_unless level columns h e)

plain_stripes_most : (p : Plain) (columns : ℕ) → columns ≤ 32 → plain_stripes p columns ≤ 32
plain_stripes_most Striped columns h = omega arith
plain_stripes_most Mirrored columns h = omega (arith, h)
plain_stripes_most LastChecked columns h = omega arith
plain_stripes_most LeftSymmetric columns h = omega arith
plain_stripes_most Chained columns h = h

-- with a design or without
module _ (level columns : ℕ) where
  rows_least_of : (given : Option Given) → IsDesignOf level columns given → 0 < level_rows level given
  rows_least_of None is = plain_rows_least (plain_of level)
  rows_least_of (Some given) is = let h = is_given_design level columns given is in
      subst (λ (b : Bool). 0 < (if b then (blocks_of given).k * (blocks_of given).r else plain_rows (plain_of level))) (sym h.0) (rows_least (blocks_of given) h.1.numbers)

  rows_most_of : (given : Option Given) → IsTrue (allows level columns) → IsDesignOf level columns given → level_rows level given ≤ level_stripes level columns given
  rows_most_of None allowed is = plain_rows_most level columns allowed
  rows_most_of (Some given) allowed is = let h = is_given_design level columns given is in
      subst (λ (b : Bool). (if b then (blocks_of given).k * (blocks_of given).r else plain_rows (plain_of level)) ≤ (if b then (blocks_of given).k * (blocks_of given).b else plain_stripes (plain_of level) columns)) (sym h.0) (rows_most (blocks_of given) h.1.numbers)

  stripes_most_of : (given : Option Given) → columns ≤ 32 → IsDesignOf level columns given → level_stripes level columns given ≤ 131072
  stripes_most_of None few is = omega (arith, plain_stripes_most (plain_of level) columns few)
  stripes_most_of (Some given) few is = let h = is_given_design level columns given is in
      subst (λ (b : Bool). (if b then (blocks_of given).k * (blocks_of given).b else plain_stripes (plain_of level) columns) ≤ 131072) (sym h.0) (stripes_most (blocks_of given) h.1.numbers)

-- The least layout of a configuration has a row at least, and no more rows than stripes, which are far fewer than an array may have.
pub table-rows-least : (conf : Conf) → IsConf conf → 0 < table_rows conf
table-rows-least conf is = rows_least_of conf.level conf.columns conf.design is.design

pub table-rows-most : (conf : Conf) → IsConf conf → table_rows conf ≤ table_stripes conf
table-rows-most conf is = rows_most_of conf.level conf.columns conf.design is.allowed is.design

pub table-stripes-most : (conf : Conf) → IsConf conf → table_stripes conf ≤ 131072
table-stripes-most conf is = stripes_most_of conf.level conf.columns conf.design is.columns_most is.design

-- ---- the numbers of a layout

-- a layout over n columns, of units of u sectors, with so many rows
pub record HasNumbers (y : Shape) (n u many : ℕ) : Type 0 where
  pub columns : y.columns ≡ n
  pub unit_sectors : y.unit_sectors ≡ u
  pub rows : y.rows ≡ many

plain_numbers : (p : Plain) (n u rows : ℕ) → HasNumbers (plain_shape p n u rows) n u rows
plain_numbers Striped n u rows = record { columns = refl; unit_sectors = refl; rows = refl }
plain_numbers Mirrored n u rows = record { columns = refl; unit_sectors = refl; rows = refl }
plain_numbers LastChecked n u rows = record { columns = refl; unit_sectors = refl; rows = refl }
plain_numbers LeftSymmetric n u rows = record { columns = refl; unit_sectors = refl; rows = refl }
plain_numbers Chained n u rows = record { columns = refl; unit_sectors = refl; rows = refl }

design_numbers : (level : ℕ) (d : Blocks) (u rows : ℕ) → HasNumbers (design_shape level d u rows) d.v u rows
unfolding design_shape
design_numbers level d u rows = go (nat_eq level 68)
  where
    go : (b : Bool) → HasNumbers (if b then spared d u rows else declustered d u rows) d.v u rows
    go true = record { columns = refl; unit_sectors = refl; rows = refl }
    go false = record { columns = refl; unit_sectors = refl; rows = refl }

objects_are : (given : Given) → (blocks_of given).v ≡ objects_of given
objects_are (Listed b v k r lambda tuples) = refl
objects_are (Cyclic v base) = refl
objects_are (Complete v k) = refl

level_numbers : (level n u rows : ℕ) (given : Option Given) → IsDesignOf level n given → HasNumbers (level_shape level n u rows given) n u rows
level_numbers level n u rows None is = plain_numbers (plain_of level) n u rows
level_numbers level n u rows (Some given) is =
    subst (λ (b : Bool). HasNumbers (if b then design_shape level (blocks_of given) u rows else plain_shape (plain_of level) n u rows) n u rows) (sym is.0)
    (subst (λ (m : ℕ). HasNumbers (design_shape level (blocks_of given) u rows) m u rows) (objects_are given ∙ is.1.objects) (design_numbers level (blocks_of given) u rows))

-- A layout of a configuration has its columns and its units, and as many rows as are asked for.
pub shape-numbers : (conf : Conf) (rows : ℕ) → IsConf conf → HasNumbers (shape_of conf rows) conf.columns conf.unit rows
shape-numbers conf rows is = level_numbers conf.level conf.columns conf.unit rows conf.design is.design

pub shape-columns : (conf : Conf) (rows : ℕ) → IsConf conf → (shape_of conf rows).columns ≡ conf.columns
shape-columns conf rows is = (shape-numbers conf rows is).columns

pub shape-unit : (conf : Conf) (rows : ℕ) → IsConf conf → (shape_of conf rows).unit_sectors ≡ conf.unit
shape-unit conf rows is = (shape-numbers conf rows is).unit_sectors

pub shape-rows : (conf : Conf) (rows : ℕ) → IsConf conf → (shape_of conf rows).rows ≡ rows
shape-rows conf rows is = (shape-numbers conf rows is).rows

-- ---- it can be made

has_design_if : (level columns : ℕ) (given : Option Given) → IsDesignOf level columns given → IsTrue (has_design level) → HasDesign given
has_design_if level columns None is stands = cc (is, stands)
has_design_if level columns (Some given) is stands = tt

pub conf-makeable : (conf : Conf) → IsConf conf → IsMakeable conf
conf-makeable conf is = record { level = is.level; design = has_design_if conf.level conf.columns conf.design is.design }
