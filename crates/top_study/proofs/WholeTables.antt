-- Rows that a layout can have are those of whole tables.
use Rattle.std.proofs.Common.{◌≡◌, ◌<◌, ◌≤◌, ◌*◌, ◌/◌, ◌%◌, ℕ, arith}
use Rattle.std.specs.Prelude.{IsTrue}
use Rattle.std.proofs.lemmas.Bool.{and_parts, eqb-true, leb-true}
use Rattle.std.proofs.lemmas.Nat.{le-div}
use Rattle.std.proofs.Math.Nat.{mod-eq-sub-mul-div, mul-div-le}
use Rattle.raid_conf.specs.Form.{IsConf}
use Rattle.raid_conf.specs.Layouts.{table_rows, table_stripes}
use Rattle.raid_conf.specs.declared.conf.Conf.{Conf}
use Rattle.raid_conf.proofs.TableLaws.{table-rows-least}
use Rattle.top_study.specs.Rows.{are_rows}

pub whole_tables : (conf : Conf) (rows : ℕ) → IsConf conf → IsTrue (are_rows conf rows)
    → (tables : ℕ) × (1 ≤ tables) × (tables * table_stripes conf ≤ 1048576) × (rows ≡ table_rows conf * tables)
unfolding are_rows
whole_tables conf rows is h =
    let both = and_parts _ _ h in
    let first = and_parts _ _ both.0 in
    let step = table_rows conf in
    let most : step ≤ rows = leb-true step rows first.0 in
    let none : rows % step ≡ 0 = eqb-true (rows % step) 0 first.1 in
    let some : 1 ≤ rows / step = le-div 1 rows step (table-rows-least conf is) (omega (arith, most)) in
    let whole : rows ≡ step * (rows / step) = omega (arith, none, mod-eq-sub-mul-div rows step, mul-div-le rows step) in
    (rows / step, some, leb-true (rows / step * table_stripes conf) 1048576 both.1, whole)
