-- Turns of single stripes.
use Rattle.std.proofs.Common.{◌≡◌, ℕ, ◌<◌, List, ◌++◌, Bool, true, false, Option, Some, None, refl, sym, ◌∙◌, subst, arith}
use Rattle.blk_disk.specs.declared.disk.Disk.{Ghosts}
use Rattle.blk_disk.specs.Devices.{Changes, contents_of, calls_of, RisesOn}
use Rattle.blk_disk.proofs.DeviceLaws.{changes-refl, changes-more, changes-then, rises-wider}
use Rattle.lay_core.specs.Layout.{Shape, IsLayout, data_units}
use Rattle.eng_cols.specs.declared.spot.Spot.{Spot}
use Rattle.eng_cols.specs.Cols.{ColumnState, InOrder}
use Rattle.eng_cols.specs.Seats.{seat}
use Rattle.raid_recon.specs.declared.kind.Sweep.{Sweep}
use Rattle.raid_recon.specs.declared.kind.FailedAt.{FailedAt}
use Rattle.raid_recon.specs.Array.{IsComplete, Lacks, IsCheckSector}
use Rattle.raid_recon.specs.Sums.{IsNotZero, HoldsSum}
use Rattle.raid_recon.specs.Turns.{Turn, Left, Unread, Sound, Unsound, Written, Unwritten, TellsMore, seat_calls, units_read, does_write, Rewrites, is_check, is_init, IsVisitBy}
use Rattle.raid_recon.specs.declared.ahead.ColumnWindows.{ColumnWindows}
use Rattle.raid_recon.specs.declared.ahead.Rows.{Rows}
use Rattle.raid_recon.specs.Ahead.{reads_ahead, turn_ahead}
use Rattle.raid_recon.specs.Units.{IsThere, IsSum, IsWritten, AllRead, Stopped, Tested}
use Rattle.raid_recon.proofs.Calls.{tells_more-nil, tells_more-then}
use Rattle.raid_recon.proofs.Frames.{last-unit, check-alone, sum-same}
use Rattle.raid_recon.proofs.Bytes.{byte-seat}

abbrev pub nothing : ℕ → ℕ → Type 0
nothing d n = ⊥

no-some : {A X : Type 0} {x : X} → None ≡ Some x → A
no-some h = absurd (let u : ⊥ = cc in u)

some-same : {X : Type 0} {a b : X} → Some a ≡ Some b → a ≡ b
some-same h = cc

module _ {D : Type 0} (g : Ghosts D) (kind : Sweep) (y : Shape) (windows : ColumnWindows) (cols : List ColumnState) (s : ℕ) (rows : ℕ → Rows) where
  abbrev VisitIs : (old new : List (Option D)) → Turn → Type 0
  VisitIs old new turn = IsVisitBy g kind y cols s old new turn (λ d. turn_ahead kind y windows.most cols s turn d (rows d))

  -- the sectors that may change in a turn
  abbrev May : Turn → ℕ → ℕ → Type 0
  May turn d n = (does_write turn ≡ true) × IsCheckSector y cols s d n

  pub visit-left : (old : List (Option D)) → Lacks y cols s → VisitIs old old Left
  visit-left old lacks = record {
    is = lacks;
    frame = changes-refl g (May Left) old;
    sum = λ told e. let u : ⊥ = cc in absurd u;
    cause = λ at e. no-some e;
    told = λ d. tells_more-nil (calls_of g old d);
  }

  pub visit-unread : (old new : List (Option D)) (hands : List Rows) (bytes : List ℕ) (n : ℕ) (e : FailedAt) → n ≡ units_read kind y → IsComplete y cols s → (st : Stopped g y windows cols s n rows old new hands bytes e) → VisitIs old new (Unread st.unit)
  visit-unread old new hands bytes n e all complete st = record {
    is = (complete, omega (arith, st.within, all));
    frame = changes-more g nothing (May (Unread st.unit)) old new (λ d m h. absurd h) st.same;
    sum = λ told h. let u : ⊥ = cc in absurd u;
    cause = λ at h. subst (λ (q : Spot). RisesOn g old new q.device) (some-same (sym st.stands ∙ h)) st.rose;
    told = st.told;
  }

  pub visit-sound : (old new : List (Option D)) (hands : List Rows) (bytes sum : List ℕ) → is_init kind ≡ false → units_read kind y ≡ y.width → IsComplete y cols s → Tested g y windows cols s rows old new hands bytes sum false → VisitIs old new Sound
  visit-sound old new hands bytes sum looks all complete t = record {
    is = (complete, (looks, t.zero refl));
    frame = changes-more g nothing (May Sound) old new (λ d m h. absurd h) t.read.same;
    sum = λ told h. let u : ⊥ = cc in absurd u;
    cause = λ at h. no-some h;
    told = λ d. subst (λ n. TellsMore (calls_of g old d) (calls_of g new d) (reads_ahead y windows.most cols s n d (rows d))) (sym all) (t.read.told d);
  }

  pub visit-unsound : (old new : List (Option D)) (hands : List Rows) (bytes sum : List ℕ) → is_check kind ≡ true → units_read kind y ≡ y.width → IsComplete y cols s → Tested g y windows cols s rows old new hands bytes sum true → VisitIs old new Unsound
  visit-unsound old new hands bytes sum checks all complete t = record {
    is = (complete, (checks, t.not_zero refl));
    frame = changes-more g nothing (May Unsound) old new (λ d m h. absurd h) t.read.same;
    sum = λ told h. let u : ⊥ = cc in absurd u;
    cause = λ at h. no-some h;
    told = λ d. subst (λ n. TellsMore (calls_of g old d) (calls_of g new d) (reads_ahead y windows.most cols s n d (rows d))) (sym all) (t.read.told d);
  }

  -- the check unit's write
  module _ (old mid new : List (Option D)) (n : ℕ) (all : n ≡ units_read kind y) (complete : IsComplete y cols s) (hands : List Rows) (bytes : List ℕ) (read : AllRead g y windows cols s n rows old mid hands bytes) (at : Spot) (stands : seat y cols s (data_units y) ≡ Some at) (from : List ℕ) where
    there : (turn : Turn) → does_write turn ≡ true → (d m : ℕ) → IsThere at y.unit_sectors d m → May turn d m
    there turn writes d m h = (writes, record { at = at; offset = h.offset; stands = stands; device = h.device; within = h.within; sector = h.sector })

    framed : (turn : Turn) (good : Bool) → does_write turn ≡ true → IsWritten g at y.unit_sectors mid new from good → Changes g (May turn) old new
    framed turn good writes w = changes-then g (May turn) old mid new (changes-more g nothing (May turn) old mid (λ d m h. absurd h) read.same) (changes-more g (IsThere at y.unit_sectors) (May turn) mid new (there turn writes) w.frame)

    calls : (good : Bool) → IsWritten g at y.unit_sectors mid new from good → (d : ℕ) → TellsMore (calls_of g old d) (calls_of g new d) (reads_ahead y windows.most cols s (units_read kind y) d (rows d) ++ seat_calls y (seat y cols s (data_units y)) 1 good d)
    calls good w d =
        subst (λ m. TellsMore (calls_of g old d) (calls_of g new d) (reads_ahead y windows.most cols s m d (rows d) ++ seat_calls y (seat y cols s (data_units y)) 1 good d)) all
        (subst (λ q. TellsMore (calls_of g old d) (calls_of g new d) (reads_ahead y windows.most cols s n d (rows d) ++ seat_calls y q 1 good d)) (sym stands)
        (tells_more-then (calls_of g old d) (calls_of g mid d) (calls_of g new d) _ _ (read.told d) (w.told d)))

    pub visit-written : IsLayout y → InOrder cols → y.checks ≡ 1 → s < y.stripes → Rewrites kind (g.tells → IsNotZero y (contents_of g old) cols s) → (g.tells → IsSum y (contents_of g old) cols s (data_units y) from)
        → IsWritten g at y.unit_sectors mid new from true → VisitIs old new Written
    visit-written layout order one sw why sum w = record {
      is = (complete, why);
      frame = framed Written true refl w;
      sum = λ told h. held told;
      cause = λ q h. no-some h;
      told = calls true w;
    }
      where
        last : data_units y < y.width
        last = omega (arith, last-unit y layout one)

        held : g.tells → HoldsSum y (contents_of g new) cols s
        held told o k ou ku =
            byte-seat y (contents_of g new) cols s (data_units y) o k at (complete (data_units y) last) stands
            ∙ (w.bytes refl told o k ou ku ∙ (sum told o k ou ku
            ∙ sym (sum-same g (May Written) old new y cols s (data_units y) o k (framed Written true refl w) told
            (λ i to iw is h. let e = check-alone y cols layout order one s s i o to sw sw (omega (arith, iw, last)) ou is h.1 in omega (arith, iw, e.1)))))

    pub visit-unwritten : Rewrites kind (g.tells → IsNotZero y (contents_of g old) cols s) → IsWritten g at y.unit_sectors mid new from false → VisitIs old new Unwritten
    visit-unwritten why w = record {
      is = (complete, why);
      frame = framed Unwritten false refl w;
      sum = λ told h. let u : ⊥ = cc in absurd u;
      cause = λ q h. rises-wider g nothing nothing old mid new new q.device read.same (subst (λ (p : Spot). RisesOn g mid new p.device) (some-same (sym stands ∙ h)) (w.cause refl)) (changes-refl g nothing new);
      told = calls false w;
    }
