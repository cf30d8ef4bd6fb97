-- Where a call reads one row, nothing is ever at hand, and each unit is read by a call of its own.
use Rattle.std.proofs.Common.{◌≡◌, ℕ, zero, suc, ◌+◌, ◌*◌, ◌<◌, ◌≤◌, List, ◌++◌, Bool, true, false, Option, Some, None, inl, inr, refl, ap, ap₂, ◌∙◌, subst, arith}
use Rattle.std.specs.Prelude.{◌==◌, ◌&&◌, not, if◌then◌else◌}
use Rattle.std.proofs.lemmas.Bool.{cases_Bool}
use Rattle.blk_disk.specs.declared.disk.Call.{Call}
use Rattle.blk_disk.specs.declared.disk.Disk.{Ghosts}
use Rattle.blk_disk.specs.Devices.{calls_of, contents_of}
use Rattle.lay_core.specs.Layout.{Shape, IsLayout, data_units}
use Rattle.eng_cols.specs.declared.column.Column.{Column}
use Rattle.eng_cols.specs.declared.spot.Spot.{Spot}
use Rattle.eng_cols.specs.Cols.{ColumnState}
use Rattle.eng_cols.specs.Contents.{Contents}
use Rattle.eng_cols.specs.Seats.{seat}
use Rattle.eng_cols.specs.Stripes.{states_of}
use Rattle.eng_cols.proofs.Spots.{seat-within}
use Rattle.raid_recon.specs.declared.ahead.Rows.{Rows}
use Rattle.raid_recon.specs.declared.kind.Sweep.{Sweep}
use Rattle.raid_recon.specs.declared.kind.Sweep.TheVariants.{Check, Sync, Init}
use Rattle.raid_recon.specs.Turns.{Turn, Left, Unread, Sound, Unsound, Written, Unwritten, TellsMore, call_if, seat_calls, read_calls, units_read, turn_calls, IsTurn}
use Rattle.raid_recon.specs.Ahead.{is_at_hand, no_rows, read_rows, reads_ahead, seat_reads, seat_rows, turn_ahead}
use Rattle.raid_recon.specs.Units.{SweepsBy, SweepsStripe}
use Rattle.raid_recon.proofs.AtHand.{at_hand-is}
use Rattle.raid_recon.proofs.Words.{ahead_call, rows_from, rows_read}

IsShort : Rows → Type 0
IsShort r = r.end ≤ suc r.first

-- nothing is at hand of one row
never : (r : Rows) (row : ℕ) → IsShort r → is_at_hand r row ≡ false
unfolding IsShort
never r row short = elim (cases_Bool (is_at_hand r row)) [
  | inl e ↦ let h = at_hand-is r row e in absurd (omega (arith, h.0, h.1, short))
  | inr e ↦ e
]

module _ (y : Shape) (layout : IsLayout y) (cols : List ColumnState) (s d : ℕ) (within : s < y.stripes) where
  fresh-short : (row : ℕ) (good : Bool) → IsShort (record { first = row; end = row + (if good then rows_from y 1 row else 0) })
  unfolding IsShort
  fresh-short row true = omega arith
  fresh-short row false = omega arith

  either : (b : Bool) (x z : Rows) → IsShort x → IsShort z → IsShort (if b then x else z)
  either true x z one other = one
  either false x z one other = other

  still-short : (q : Option Spot) (good : Bool) (r : Rows) → IsShort r → IsShort (seat_rows y 1 q good d r)
  still-short None good r short = short
  still-short (Some at) good r short = either (d == at.device) (rows_read y 1 at.row good r) r (either (is_at_hand r at.row) r _ short (fresh-short at.row good)) short

  with-true : (b : Bool) → (b && not false) ≡ b
  with-true true = refl
  with-true false = refl

  unit-same : (i : ℕ) (good : Bool) (r : Rows) → IsShort r → i < y.width → (q : Option Spot) → seat y cols s i ≡ q → seat_reads y 1 q good d r ≡ seat_calls y q 0 good d
  unit-same i good r short iw None is = refl
  unit-same i good r short iw (Some at) is =
      let row : at.row < y.rows = (seat-within y cols s i at layout within iw is).1 in
      let one : rows_from y 1 at.row * y.unit_sectors ≡ y.unit_sectors = ap (λ n. n * y.unit_sectors) (let e : rows_from y 1 at.row ≡ 1 = omega (arith, row) in e) ∙ omega arith in
      ap (λ b. call_if ((d == at.device) && not b) (ahead_call y 1 at good)) (never r at.row short)
      ∙ (ap (λ b. call_if b (ahead_call y 1 at good)) (with-true (d == at.device))
      ∙ ap (λ n. call_if (d == at.device) (let c : Call = record { kind = 0; first = 64 + at.row * y.unit_sectors; count = n; good = good } in c)) one)

  rows-short : (n : ℕ) (r : Rows) → IsShort r → IsShort (read_rows y 1 cols s n d r)
  rows-short zero r short = short
  rows-short (suc n) r short = still-short (seat y cols s n) true _ (rows-short n r short)

  reads-same : (n : ℕ) (r : Rows) → IsShort r → n ≤ y.width → reads_ahead y 1 cols s n d r ≡ read_calls y cols s n d
  reads-same zero r short le = refl
  reads-same (suc n) r short le = ap₂ (λ (a b : List Call). a ++ b) (reads-same n r short (omega (arith, le))) (unit-same n true _ (rows-short n r short) (omega (arith, le)) (seat y cols s n) refl)

  most : (kind : Sweep) → units_read kind y ≤ y.width
  most Check = omega arith
  most Sync = omega arith
  most Init = omega arith

  turn-same : (kind : Sweep) (told : Type 0) (c : Contents) (t : Turn) (r : Rows) → IsShort r → IsTurn told kind y c cols s t → turn_ahead kind y 1 cols s t d r ≡ turn_calls kind y cols s t d
  turn-same kind told c Left r short is = refl
  turn-same kind told c (Unread i) r short is =
      let lt : i < y.width = omega (arith, is.1, most kind) in
      ap₂ (λ (a b : List Call). a ++ b) (reads-same i r short (omega (arith, lt))) (unit-same i false _ (rows-short i r short) lt (seat y cols s i) refl)
  turn-same kind told c Sound r short is = reads-same (units_read kind y) r short (most kind)
  turn-same kind told c Unsound r short is = reads-same (units_read kind y) r short (most kind)
  turn-same kind told c Written r short is = ap (λ (a : List Call). a ++ seat_calls y (seat y cols s (data_units y)) 1 true d) (reads-same (units_read kind y) r short (most kind))
  turn-same kind told c Unwritten r short is = ap (λ (a : List Call). a ++ seat_calls y (seat y cols s (data_units y)) 1 false d) (reads-same (units_read kind y) r short (most kind))

none-short : IsShort no_rows
unfolding IsShort
none-short = omega arith

-- so a stripe's turn alone has the calls of its units
pub swept-alone : {D : Type 0} (g : Ghosts D) (kind : Sweep) (y : Shape) (s : ℕ) (columns after : List Column) (old new : List (Option D)) (counted : Bool) → IsLayout y → s < y.stripes
    → SweepsBy g (λ t d. turn_ahead kind y 1 (states_of y columns) s t d no_rows) kind y s columns after old new counted → SweepsStripe g kind y s columns after old new counted
swept-alone g kind y s columns after old new counted layout within st = record {
  turn = st.turn;
  visit = record {
    is = st.visit.is;
    frame = st.visit.frame;
    sum = st.visit.sum;
    cause = st.visit.cause;
    told = λ d. subst (TellsMore (calls_of g old d) (calls_of g new d)) (turn-same y layout (states_of y columns) s d within kind g.tells (contents_of g old) st.turn no_rows none-short st.visit.is) (st.visit.told d);
  };
  columns_are = st.columns_are;
  count = st.count;
}
