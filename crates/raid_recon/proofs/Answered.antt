-- What is answered of a stripe's turn.
use Rattle.std.proofs.Common.{◌≡◌, ℕ, suc, ◌<◌, ◌≤◌, List, Bool, true, false, Option, Some, Result, Ok, Err, IfErr, is_ok, refl, sym, ap, subst, arith}
use Rattle.std.specs.Prelude.{slice_index}
use Rattle.blk_disk.specs.declared.disk.Disk.{Ghosts}
use Rattle.blk_disk.specs.Devices.{contents_of}
use Rattle.blk_disk.proofs.DeviceLaws.{changes_sector}
use Rattle.lay_core.specs.Layout.{Shape, IsLayout, data_units}
use Rattle.eng_cols.specs.declared.spot.Spot.{Spot}
use Rattle.eng_cols.specs.Cols.{ColumnState, InOrder}
use Rattle.eng_cols.specs.Seats.{seat}
use Rattle.eng_cols.specs.Contents.{byte_at, sector_at}
use Rattle.raid_recon.specs.declared.ahead.ColumnWindows.{ColumnWindows}
use Rattle.raid_recon.specs.declared.ahead.Rows.{Rows}
use Rattle.raid_recon.specs.declared.kind.Sweep.{Sweep}
use Rattle.raid_recon.specs.declared.kind.Sweep.TheVariants.{Check}
use Rattle.raid_recon.specs.declared.kind.FailedAt.{FailedAt}
use Rattle.raid_recon.specs.Array.{IsComplete}
use Rattle.raid_recon.specs.Sums.{IsNotZero}
use Rattle.raid_recon.specs.Turns.{Unread, Sound, Unsound, Written, Unwritten, units_read, is_init, Rewrites}
use Rattle.raid_recon.specs.Ahead.{read_rows}
use Rattle.raid_recon.specs.Units.{IsAhead, IsSum, IsThere, IsWritten, WritesCheck, AllRead, Stopped, Tested, TestsUnits, Visits}
use Rattle.raid_recon.proofs.AtHand.{ahead-later}
use Rattle.raid_recon.proofs.Backs.{back-refl}
use Rattle.raid_recon.proofs.Frames.{check-alone}
use Rattle.raid_recon.proofs.Visits.{visit-unread, visit-sound, visit-unsound, visit-written, visit-unwritten}

module _ {D : Type 0} (g : Ghosts D) (y : Shape) (windows : ColumnWindows) (cols : List ColumnState) (s : ℕ) (rows : ℕ → Rows) (complete : IsComplete y cols s) where
  -- what is at hand is so of later stripes, as nothing changed
  next : (now : ℕ → Rows) (new : List (Option D)) (hands : List Rows) (bytes : List ℕ) → IsAhead g y windows cols s now new hands bytes → IsAhead g y windows cols (suc s) now new hands bytes
  next now new hands bytes h = ahead-later g y windows cols cols s (suc s) now new new hands bytes (back-refl y cols) (omega arith) (λ told t i o k at le tw iw is ou ku. refl) h

  pub visits-unread : (kind : Sweep) (old new : List (Option D)) (hands : List Rows) (bytes : List ℕ) (n : ℕ) (e : FailedAt) → n ≡ units_read kind y → Stopped g y windows cols s n rows old new hands bytes e → Visits g kind y windows cols s rows old new hands bytes (Err e)
  visits-unread kind old new hands bytes n e all st = record {
    turn = Unread st.unit;
    visit = visit-unread g kind y windows cols s rows old new hands bytes n e all complete st;
    answer = (st.at, st.stands, st.column);
    ahead = next _ new hands bytes st.ahead;
  }

  -- the rows behind all reads
  all-read : (kind : Sweep) (n : ℕ) (new : List (Option D)) (hands : List Rows) (bytes : List ℕ) → n ≡ units_read kind y → IsAhead g y windows cols s (λ d. read_rows y windows.most cols s n d (rows d)) new hands bytes
      → IsAhead g y windows cols s (λ d. read_rows y windows.most cols s (units_read kind y) d (rows d)) new hands bytes
  all-read kind n new hands bytes all h = subst (λ m. IsAhead g y windows cols s (λ d. read_rows y windows.most cols s m d (rows d)) new hands bytes) all h

  pub visits-sound : (kind : Sweep) (old new : List (Option D)) (hands : List Rows) (bytes sum : List ℕ) → is_init kind ≡ false → units_read kind y ≡ y.width → Tested g y windows cols s rows old new hands bytes sum false → Visits g kind y windows cols s rows old new hands bytes (Ok false)
  visits-sound kind old new hands bytes sum looks all t = record {
    turn = Sound;
    visit = visit-sound g kind y windows cols s rows old new hands bytes sum looks all complete t;
    answer = (refl, refl);
    ahead = next _ new hands bytes (all-read kind y.width new hands bytes (sym all) t.read.ahead);
  }

  pub visits-check : (old new : List (Option D)) (hands : List Rows) (bytes sum : List ℕ) (r : Result Bool FailedAt) → TestsUnits g y windows cols s rows old new hands bytes sum r → Visits g Check y windows cols s rows old new hands bytes r
  visits-check old new hands bytes sum (Ok true) t = record {
    turn = Unsound;
    visit = visit-unsound g Check y windows cols s rows old new hands bytes sum refl refl complete t;
    answer = (refl, refl);
    ahead = next _ new hands bytes t.read.ahead;
  }
  visits-check old new hands bytes sum (Ok false) t = visits-sound Check old new hands bytes sum refl refl t
  visits-check old new hands bytes sum (Err e) t = visits-unread Check old new hands bytes y.width e refl t

  module _ (kind : Sweep) (old mid new : List (Option D)) (hands : List Rows) (bytes : List ℕ) (n : ℕ) (all : n ≡ units_read kind y) (read : AllRead g y windows cols s n rows old mid hands bytes) (from : List ℕ) (why : Rewrites kind (g.tells → IsNotZero y (contents_of g old) cols s))
      (r : Result (Unit {0}) FailedAt) (w : WritesCheck g y cols s mid new from r) (layout : IsLayout y) (order : InOrder cols) (one : y.checks ≡ 1) (sw : s < y.stripes) where
    call : (good : Bool) → is_ok r ≡ good → IsWritten g w.at y.unit_sectors mid new from good
    call good is = subst (λ b. IsWritten g w.at y.unit_sectors mid new from b) is w.call

    -- the check unit is none of a later stripe's
    behind : g.tells → (t i o k : ℕ) (at : Spot) → suc s ≤ t → t < y.stripes → i < y.width → seat y cols t i ≡ Some at → o < y.unit_sectors → k < 512 → byte_at y (contents_of g new) at o k ≡ byte_at y (contents_of g mid) at o k
    behind told t i o k at le tw iw is ou ku =
        ap (λ (l : List ℕ). slice_index l k) (changes_sector g (IsThere w.at y.unit_sectors) mid new at.device (sector_at y at o) w.call.frame told
        (λ h. let e = check-alone y cols layout order one s t i o at sw tw iw ou is (record { at = w.at; offset = h.offset; stands = w.stands; device = h.device; within = h.within; sector = h.sector }) in omega (arith, le, e.0)))

    later : IsAhead g y windows cols (suc s) (λ d. read_rows y windows.most cols s (units_read kind y) d (rows d)) new hands bytes
    later = ahead-later g y windows cols cols s (suc s) _ mid new hands bytes (back-refl y cols) (omega arith) behind (all-read kind n mid hands bytes all read.ahead)

    pub visits-written : (g.tells → IsSum y (contents_of g old) cols s (data_units y) from) → is_ok r ≡ true → Visits g kind y windows cols s rows old new hands bytes (Ok true)
    visits-written sum is = record {
      turn = Written;
      visit = visit-written g kind y windows cols s rows old mid new n all complete hands bytes read w.at w.stands from layout order one sw why sum (call true is);
      answer = (refl, refl);
      ahead = later;
    }

    pub visits-unwritten : (e : FailedAt) → r ≡ Err e → Visits g kind y windows cols s rows old new hands bytes (Err e)
    visits-unwritten e is = record {
      turn = Unwritten;
      visit = visit-unwritten g kind y windows cols s rows old mid new n all complete hands bytes read w.at w.stands from why (call false (ap is_ok is));
      answer = (w.at, w.stands, subst (λ x. IfErr x (λ f. f.column ≡ w.at.column)) is w.column);
      ahead = later;
    }
