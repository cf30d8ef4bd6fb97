-- The rows of an array are those of whole tables.
use Rattle.std.proofs.Common.{◌≡◌, ◌∙◌, ap, sym, subst, ℕ, zero, suc, ◌-◌, ◌*◌, ◌/◌, ◌<◌, ◌≤◌, Bool, true, false, List, length, min, refl, arith, Option, Some, None, option_map}
use Rattle.std.specs.Prelude.{slice_get, slice_index, ◌&&◌, ◌==◌, ◌%◌, nat_le, if◌then◌else◌, Ok}
use Rattle.std.proofs.Math.Nat.{le-div_iff_mul-le}
use Rattle.std.proofs.lemmas.Bool.{eqb-true, leb-true}
use Rattle.eng_cols.specs.declared.column.Column.TheVariants as column
use Rattle.raid_label.specs.declared.label.Label.{Label}
use Rattle.top_open.specs.declared.fronts.Front.{Front}
use Rattle.top_open.specs.declared.fault.OpenFault.{OpenFault}
use Rattle.top_open.specs.declared.fault.OpenFault.TheVariants as fault
use Rattle.top_open.specs.declared.plan.Plan.{Plan}
use Rattle.top_open.specs.declared.plan.Needs.{Needs}
use Rattle.top_open.specs.Plan.{AreWholeTables, IsPlan, are_rows, is_present, sectors_for, tables_below}
use Rattle.top_open.specs.Steps.{tables_in, configured, labelled_if, is_unlabelled}
use Rattle.raid_label.specs.Judged.{fault_in}
use Rattle.top_open.specs.Labels.{newest_below, shape_refusal, refusal_of}
use Rattle.top_open.specs.Seats.{columns_below, judged_at, own_disk}
use Rattle.top_open.specs.First.{first_below}
use Rattle.top_open.specs.Opening.{Opened, judged_in, unlabelled_in, labelled_in, unlabelled_refusal, counter_refusal, small_in, seats_in, own_seats}
use Rattle.top_open.proofs.OwnDevices.{not_refused}
use Rattle.top_open.proofs.LargeEnough.{columns_below-at, no_refusal, rows_of, small_seat}
use Rattle.std.specs.Option.{option_or}

-- there are no more tables than the greatest number of stripes has
few_stripes : (p : Plan) (present : List Bool) (sizes : List ℕ) (n : ℕ) → tables_below p present sizes n ≤ 1048576 / p.stripes
unfolding tables_below
few_stripes p present sizes zero = omega arith
few_stripes p present sizes (suc n) = go (is_present present n) (few_stripes p present sizes n)
  where
    go : (b : Bool) → tables_below p present sizes n ≤ 1048576 / p.stripes → (if b then min (tables_below p present sizes n) (tables_in p (slice_index sizes n)) else tables_below p present sizes n) ≤ 1048576 / p.stripes
    go true h = omega (arith, h)
    go false h = h

-- each present disk has room for one, so there is one
some_table : (p : Plan) (present : List Bool) (sizes : List ℕ) (n : ℕ) → 1 ≤ 1048576 / p.stripes → ((c : ℕ) → c < n → is_present present c ≡ true → 1 ≤ tables_in p (slice_index sizes c)) → 1 ≤ tables_below p present sizes n
unfolding tables_below
some_table p present sizes zero first each = first
some_table p present sizes (suc n) first each = go (is_present present n) refl (some_table p present sizes n first (λ c lt there. each c (omega (arith, lt)) there))
  where
    go : (b : Bool) → is_present present n ≡ b → 1 ≤ tables_below p present sizes n → 1 ≤ (if b then min (tables_below p present sizes n) (tables_in p (slice_index sizes n)) else tables_below p present sizes n)
    go true e h = omega (arith, h, each n (omega arith) e)
    go false e h = h

-- a disk with the least number of sectors has room for a table
room_for_one : (p : Plan) (size : ℕ) → IsPlan p → sectors_for p p.step ≤ size → 1 ≤ tables_in p size
room_for_one p size plan least =
    let some : 0 < p.step * p.unit = Rattle.std.proofs.Math.Nat.mul-pos plan.step plan.unit in
    let product : 1 * (p.step * p.unit) ≤ size - 64 = omega (arith, least) in
    (le-div_iff_mul-le some).1 product

of_unlabelled : (q : Needs) (p : Plan) (present : List Bool) (sizes : List ℕ) (fronts : List Front) (o : Opened) → IsPlan p → p.stripes ≤ 1048576 → unlabelled_in q p present sizes fronts ≡ Ok o → AreWholeTables p o.rows
unfolding unlabelled_in own_seats rows_of
of_unlabelled q p present sizes fronts o plan most h =
    let n = length present in
    let sized = not_refused (unlabelled_refusal q) _ o h in
    let small : small_in None false sizes (sectors_for p p.step) (columns_below (own_disk present) n) n ≡ None = no_refusal _ _ o sized in
    let made = not_refused (small_in None false sizes (sectors_for p p.step) (columns_below (own_disk present) n) n) _ o sized in
    let rows : p.step * tables_below p present sizes n ≡ o.rows = ap rows_of made in
    let stripes : 0 < p.stripes = omega (arith, plan.step, plan.step_most) in
    let first : 1 ≤ 1048576 / p.stripes = (le-div_iff_mul-le stripes).1 (omega (arith, most)) in
    let few = few_stripes p present sizes n in
    record {
      tables = tables_below p present sizes n;
      some = some_table p present sizes n first
          (λ c lt there.
          let own : slice_get (columns_below (own_disk present) n) c ≡ Some (column.Live c) = columns_below-at (own_disk present) n c lt ∙ ap (λ (b : Bool). Some (if b then column.Live c else column.Dead)) there in
          room_for_one p (slice_index sizes c) plan (small_seat None false sizes (sectors_for p p.step) (columns_below (own_disk present) n) n c c small lt refl own));
      within = (le-div_iff_mul-le stripes).0 few;
      are = sym rows;
    }

-- rows that a label may name
rows_are : (p : Plan) (rows : ℕ) → IsPlan p → are_rows p rows ≡ true → AreWholeTables p rows
unfolding are_rows
rows_are p rows plan h = go (nat_le p.step rows) (rows % p.step == 0) (nat_le (rows / p.step * p.stripes) 1048576) refl refl refl h
  where
    go : (a b d : Bool) → nat_le p.step rows ≡ a → (rows % p.step == 0) ≡ b → nat_le (rows / p.step * p.stripes) 1048576 ≡ d → ((a && b) && d) ≡ true → AreWholeTables p rows
    go false b d x y z e = cc e
    go true false d x y z e = cc e
    go true true false x y z e = cc e
    go true true true x y z e =
        let least : p.step ≤ rows = leb-true p.step rows x in
        let whole : rows % p.step ≡ 0 = eqb-true (rows % p.step) 0 y in
        let few : rows / p.step * p.stripes ≤ 1048576 = leb-true (rows / p.step * p.stripes) 1048576 z in
        let some : 0 < p.step = plan.step in
        record {
          tables = rows / p.step;
          some = (le-div_iff_mul-le some).1 (omega (arith, least));
          within = few;
          are = omega (arith, whole, some);
        }

of_labelled : (q : Needs) (p : Plan) (present : List Bool) (sizes : List ℕ) (fronts : List Front) (l : Label) (o : Opened) → IsPlan p → labelled_in q p present sizes fronts l ≡ Ok o → AreWholeTables p o.rows
unfolding labelled_in shape_refusal rows_of
of_labelled q p present sizes fronts l o plan h =
    let n = length present in
    let sized = not_refused (shape_refusal p n l) _ o h in
    let made = not_refused (counter_refusal q l) _ o (not_refused (first_below (judged_at q.excused l fronts (seats_in p present l)) n) _ o (not_refused (small_in q.excused q.own sizes (sectors_for p l.rows) (seats_in p present l) n) _ o sized)) in
    let rows : l.rows ≡ o.rows = ap rows_of made in
    let none : shape_refusal p n l ≡ None = no_refusal _ _ o h in
    subst (λ (r : ℕ). AreWholeTables p r) rows (go (option_map (refusal_of l.column) (fault_in (Some l) 1 (configured p n l))) (are_rows p l.rows) refl none)
  where
    go : (a : Option OpenFault) (b : Bool) → are_rows p l.rows ≡ b → option_or a (if b then None else Some (fault.Label l.column 4 l.rows p.step)) ≡ None → AreWholeTables p l.rows
    go (Some f) b e none = cc none
    go None false e none = cc none
    go None true e none = rows_are p l.rows plan e

pub whole_tables : (q : Needs) (p : Plan) (present : List Bool) (sizes : List ℕ) (fronts : List Front) (o : Opened) → IsPlan p → p.stripes ≤ 1048576 → judged_in q p present sizes fronts ≡ Ok o → AreWholeTables p o.rows
unfolding judged_in
whole_tables q p present sizes fronts o plan most h = go (is_unlabelled q (length present) fronts) (newest_below fronts (length fronts)) h
  where
    go : (b : Bool) (l : Option Label) → (if b then unlabelled_in q p present sizes fronts else labelled_if q p present sizes fronts l) ≡ Ok o → AreWholeTables p o.rows
    go true l h = of_unlabelled q p present sizes fronts o plan most h
    go false None h = cc
    go false (Some l) h = of_labelled q p present sizes fronts l o plan h
