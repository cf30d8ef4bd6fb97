-- A stripe's turn by the judge's columns, and what becomes of these where a device failed.
use Rattle.std.proofs.Common.{◌≡◌, ℕ, suc, ◌<◌, List, Bool, false, Option, Some, None, Result, Ok, Err, length-set, slice_set, refl, sym, ap, ◌∙◌, subst, arith}
use Rattle.blk_disk.specs.declared.disk.Disk.{Ghosts}
use Rattle.lay_core.specs.Layout.{Shape, IsLayout, data_units}
use Rattle.eng_cols.specs.declared.column.Column.{Column}
use Rattle.eng_cols.specs.declared.column.Column.TheVariants as column
use Rattle.eng_cols.specs.declared.spot.Spot.{Spot}
use Rattle.eng_cols.specs.Cols.{ColumnState, Columns, Dead, InOrder}
use Rattle.eng_cols.specs.Changes.{killed}
use Rattle.eng_cols.specs.Seats.{seat}
use Rattle.eng_cols.specs.Stripes.{states_of}
use Rattle.eng_cols.proofs.Spots.{seat-within}
use Rattle.raid_recon.specs.declared.kind.Sweep.{Sweep}
use Rattle.raid_recon.specs.declared.kind.Sweep.TheVariants.{Check, Sync, Init}
use Rattle.raid_recon.specs.declared.kind.FailedAt.{FailedAt}
use Rattle.raid_recon.specs.Array.{IsJudge, Lacks}
use Rattle.raid_recon.specs.Turns.{Turn, Left, Unread, Sound, Unsound, Written, Unwritten, failed_at, dead_at, does_count, units_read, IsTurn, IsVisitBy}
use Rattle.raid_recon.specs.declared.ahead.ColumnWindows.{ColumnWindows}
use Rattle.raid_recon.specs.declared.ahead.Rows.{Rows}
use Rattle.raid_recon.specs.Ahead.{turn_ahead, turn_rows}
use Rattle.raid_recon.specs.Units.{AnswersTurn, IsAhead, Visits, SweepsBy}
use Rattle.raid_recon.proofs.AtHand.{ahead-later}
use Rattle.raid_recon.proofs.Backs.{Back, back-dead, back-refl, failed-unspread}
use Rattle.raid_recon.proofs.Frames.{last-unit}
use Rattle.raid_recon.proofs.Places.{states-killed}
use Rattle.raid_recon.proofs.Visits.{visit-left}

no-some : {A X : Type 0} {x : X} → None ≡ Some x → A
no-some h = absurd (let u : ⊥ = cc in u)

-- a turn in which a device failed doesn't count
failed-uncounted : (y : Shape) (cols : List ColumnState) (s : ℕ) (t : Turn) (at : Spot) → failed_at y cols s t ≡ Some at → false ≡ does_count t
failed-uncounted y cols s Left at is = no-some is
failed-uncounted y cols s (Unread i) at is = refl
failed-uncounted y cols s Sound at is = no-some is
failed-uncounted y cols s Unsound at is = no-some is
failed-uncounted y cols s Written at is = no-some is
failed-uncounted y cols s Unwritten at is = refl

-- A stripe had its turn, by the columns as they are set, and this is at hand behind it.
pub record Steps {D : Type 0} (g : Ghosts D) (kind : Sweep) (y : Shape) (windows : ColumnWindows) (s : ℕ) (rows : ℕ → Rows) (columns after : List Column) (old new : List (Option D)) (hands : List Rows) (bytes : List ℕ) (counted : Bool) : Type 0 where
  pub by : SweepsBy g (λ t d. turn_ahead kind y windows.most (states_of y columns) s t d (rows d)) kind y s columns after old new counted
  pub ahead : IsAhead g y windows (states_of y after) (suc s) (λ d. turn_rows kind y windows.most (states_of y columns) s by.turn d (rows d)) new hands bytes

module _ {D : Type 0} (g : Ghosts D) (kind : Sweep) (y : Shape) (windows : ColumnWindows) (cols : List ColumnState) (s : ℕ) (rows : ℕ → Rows) (old new : List (Option D)) (hands : List Rows) (bytes : List ℕ) where
  pub visits-left : Lacks y cols s → IsAhead g y windows cols s rows old hands bytes → Visits g kind y windows cols s rows old old hands bytes (Ok false)
  visits-left lacks h = record {
    turn = Left;
    visit = visit-left g kind y windows cols s rows old lacks;
    answer = (refl, refl);
    ahead = ahead-later g y windows cols cols s (suc s) rows old old hands bytes (back-refl y cols) (omega arith) (λ told t i o k at le tw iw is ou ku. refl) h;
  }

  module _ (r : Result Bool FailedAt) (v : Visits g kind y windows cols s rows old new hands bytes r) where
    -- the column of a device that failed is there
    pub failed-within : (e : FailedAt) → r ≡ Err e → IsLayout y → y.checks ≡ 1 → s < y.stripes → e.column < y.columns
    failed-within e is layout one sw =
        let a = subst (AnswersTurn g y cols s v.turn) is v.answer in
        let unit = of v.turn a.0 v.visit.is a.1 in
        let within = (seat-within y cols s unit.0 a.0 layout sw unit.1 unit.2).0 in
        omega (arith, within, a.2)
      where
        of : (t : Turn) (at : Spot) → IsTurn g.tells kind y (Rattle.blk_disk.specs.Devices.contents_of g old) cols s t → failed_at y cols s t ≡ Some at → (i : ℕ) × (i < y.width) × (seat y cols s i ≡ Some at)
        of Left at t is = no-some is
        of (Unread i) at t is = (i, read kind t.1, is)
          where
            read : (k : Sweep) → i < units_read k y → i < y.width
            read Check lt = lt
            read Sync lt = lt
            read Init lt = omega (arith, lt)
        of Sound at t is = no-some is
        of Unsound at t is = no-some is
        of Written at t is = no-some is
        of Unwritten at t is = (data_units y, omega (arith, last-unit y layout one), is)

    module _ (columns : List Column) (same : cols ≡ states_of y columns) where
      visit : IsVisitBy g kind y (states_of y columns) s old new v.turn (λ d. turn_ahead kind y windows.most (states_of y columns) s v.turn d (rows d))
      visit = subst (λ c. IsVisitBy g kind y c s old new v.turn (λ d. turn_ahead kind y windows.most c s v.turn d (rows d))) same v.visit

      at_hand : IsAhead g y windows (states_of y columns) (suc s) (λ d. turn_rows kind y windows.most (states_of y columns) s v.turn d (rows d)) new hands bytes
      at_hand = subst (λ c. IsAhead g y windows c (suc s) (λ d. turn_rows kind y windows.most c s v.turn d (rows d)) new hands bytes) same v.ahead

      pub steps-good : (b : Bool) → r ≡ Ok b → Steps g kind y windows s rows columns columns old new hands bytes b
      steps-good b is =
          let a = subst (AnswersTurn g y cols s v.turn) is v.answer in
          record {
            by = record {
              turn = v.turn;
              visit = visit;
              columns_are = sym (ap (dead_at columns) (ap (λ c. failed_at y c s v.turn) (sym same) ∙ a.0));
              count = a.1;
            };
            ahead = at_hand;
          }

      pub steps-bad : (e : FailedAt) → r ≡ Err e → InOrder (states_of y columns) → Steps g kind y windows s rows columns (slice_set columns e.column column.Dead) old new hands bytes false
      steps-bad e is order =
          let a = subst (AnswersTurn g y cols s v.turn) is v.answer in
          let at : failed_at y (states_of y columns) s v.turn ≡ Some a.0 = ap (λ c. failed_at y c s v.turn) (sym same) ∙ a.1 in
          let fewer : Back y (states_of y (slice_set columns e.column column.Dead)) (states_of y columns) = subst (λ k. Back y (states_of y (slice_set columns k column.Dead)) (states_of y columns)) (sym a.2)
          (back-dead y columns order (Some a.0) (λ to h. failed-unspread y columns s v.turn to (at ∙ h))) in
          record {
            by = record {
              turn = v.turn;
              visit = visit;
              columns_are = ap (λ k. slice_set columns k column.Dead) a.2 ∙ sym (ap (dead_at columns) at);
              count = failed-uncounted y cols s v.turn a.0 a.1;
            };
            ahead = ahead-later g y windows (states_of y columns) (states_of y (slice_set columns e.column column.Dead)) (suc s) (suc s) _ new new hands bytes fewer (omega arith) (λ told t i o k to le tw iw h ou ku. refl) at_hand;
          }

      -- the judge's columns are those behind the turn
      pub judge-lost : (judge : Columns) (e : FailedAt) → r ≡ Err e → InOrder (states_of y columns) → judge.states ≡ cols → IsJudge y columns judge → IsJudge y (slice_set columns e.column column.Dead) (record judge { states = killed judge.states e.column })
      judge-lost judge e is order were was =
          let a = subst (AnswersTurn g y cols s v.turn) is v.answer in
          let at = ap (λ c. failed_at y c s v.turn) (sym same) ∙ a.1 in
          let dead = states-killed y columns a.0.column order (failed-unspread y columns s v.turn a.0 at) in
          record {
            fit = record { columns = length-set judge.states e.column Dead ∙ was.fit.columns; stripes = was.fit.stripes };
            states = ap (λ c. killed c e.column) was.states ∙ (ap (killed (states_of y columns)) a.2 ∙ (sym dead ∙ ap (λ k. states_of y (slice_set columns k column.Dead)) (sym a.2)));
          }
