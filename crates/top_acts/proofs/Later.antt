-- A sweep, said by the columns and contents before the rounds that were written before it, and by those behind the rounds and settles that come behind it.
use Rattle.std.proofs.Common.{◌≡◌, ◌⊎◌, ◌∙◌, ℕ, ◌<◌, ◌≤◌, List, Bool, true, false, Option, Some, refl, inl, inr, sym, subst, arith}
use Rattle.blk_disk.specs.declared.disk.Disk.{Ghosts}
use Rattle.blk_disk.specs.Devices.{Changes, contents_of}
use Rattle.lay_core.specs.Layout.{Shape, IsLayout, data_units}
use Rattle.eng_cols.specs.declared.column.Column.{Column}
use Rattle.eng_cols.specs.declared.spot.Spot.{Spot}
use Rattle.eng_cols.specs.Cols.{ColumnState, InOrder}
use Rattle.eng_cols.specs.Seats.{seat}
use Rattle.eng_cols.specs.Contents.{byte_of, sector_at, InSync}
use Rattle.raid_recon.specs.declared.kind.Sweep.{Sweep}
use Rattle.raid_recon.specs.declared.kind.Sweep.TheVariants.{Check, Sync, Init}
use Rattle.eng_cols.specs.Stripes.{states_of}
use Rattle.raid_recon.specs.Array.{IsComplete, Lacks}
use Rattle.raid_recon.specs.Ends.{IsToCount, MayRewrite, ChecksHold, IsCounted}
use Rattle.raid_recon.specs.Sums.{sum_of, IsNotZero}
use Rattle.raid_recon.specs.Turns.{Rewrites}
use Rattle.raid_recon.proofs.Backs.{Back, byte-back, check-back, sum-back}
use Rattle.raid_recon.proofs.Frames.{byte-same, check-alone, last-unit, sum-same}
use Rattle.raid_recon.specs.Array.{IsCheckSector}
use Rattle.raid_map.specs.Sweeping.{IsCountedTo, MayRewrite as MayRewriteMarked}
use Rattle.top_acts.specs.Begun.{HasSwept, HasSweptMarked, MaySweep, SweepHas}
use Rattle.top_acts.specs.Sweeps.{Sweeps, Nothing, Over, Marked}
use Rattle.top_acts.proofs.Backs.{complete_or}

module _ {D : Type 0} (g : Ghosts D) (y : Shape) where
  -- no sector of the rows has changed
  abbrev pub Quiet : List (Option D) → List (Option D) → Type 0
  Quiet old new = Changes g (λ d n. n < 64) old new

  pub byte_quiet : (cols : List ColumnState) (old new : List (Option D)) (s i o k : ℕ) → Quiet old new → g.tells → byte_of y (contents_of g new) cols s i o k ≡ byte_of y (contents_of g old) cols s i o k
  byte_quiet cols old new s i o k quiet told = byte-same g (λ d n. n < 64) old new y cols s i o k quiet told (λ at is zero. omega (arith, zero))

  pub sum_quiet : (cols : List ColumnState) (old new : List (Option D)) (s n o k : ℕ) → Quiet old new → g.tells → sum_of y (contents_of g new) cols s n o k ≡ sum_of y (contents_of g old) cols s n o k
  sum_quiet cols old new s n o k quiet told = sum-same g (λ d n. n < 64) old new y cols s n o k quiet told (λ i at within is zero. omega (arith, zero))

  -- ## Behind a sweep

  pub sync_later : (cols after : List ColumnState) (old new : List (Option D)) → Back y after cols → Quiet old new → g.tells → InSync y (contents_of g old) cols → InSync y (contents_of g new) after
  sync_later cols after old new back quiet told h s o k sw ou ku one all =
      sum-back y (contents_of g new) after cols s y.width o k back all
      ∙ (sum_quiet cols old new s y.width o k quiet told ∙ h s o k sw ou ku one (λ i iw. back.available s i (all i iw)))

  checks_later : (columns mid after : List Column) (old dev new : List (Option D)) → Back y (states_of y after) (states_of y mid) → Quiet dev new → g.tells → ChecksHold g y columns mid old dev → ChecksHold g y columns after old new
  checks_later columns mid after old dev new back quiet told h s sw all here = elim (h s sw all (back.available s (data_units y) here)) [
    | inl sum ↦ inl (λ o k ou ku. byte_quiet (states_of y columns) dev new s (data_units y) o k quiet told ∙ (sum o k ou ku ∙ sym (sum_quiet (states_of y columns) dev new s (data_units y) o k quiet told)))
    | inr same ↦ inr (λ o k ou. byte_quiet (states_of y columns) dev new s (data_units y) o k quiet told ∙ same o k ou)
  ]

  counted_later : (kind : Sweep) (columns mid after : List Column) (old : List (Option D)) (n : ℕ) → Back y (states_of y after) (states_of y mid) → IsCounted g kind y columns mid old n → IsCounted g kind y columns after old n
  counted_later kind columns mid after old n back h = record {
    most = h.most;
    least = λ p each. h.least p (λ s sw ps. let e = each s sw ps in ((λ i iw. back.available s i (e.0 i iw)), e.1));
  }

  pub swept_later : (kind : Sweep) (columns mid after : List Column) (old dev new : List (Option D)) (n : ℕ) → Back y (states_of y after) (states_of y mid) → Quiet dev new → HasSwept g kind y columns mid old dev n → HasSwept g kind y columns after old new n
  swept_later kind columns mid after old dev new n back quiet h = record {
    counted = λ one. counted_later kind columns mid after old n back (h.counted one);
    none = h.none;
    checks = λ one told. checks_later columns mid after old dev new back quiet told (h.checks one told);
    in_sync = λ told. sync_later (states_of y mid) (states_of y after) dev new back quiet told (h.in_sync told);
  }

  -- the same of a sweep over marked stripes
  marked_later : (marks : ℕ → Bool) (columns mid after : List Column) (old dev new : List (Option D)) (n : ℕ) → Back y (states_of y after) (states_of y mid) → Quiet dev new → HasSweptMarked g marks y columns mid old dev n → HasSweptMarked g marks y columns after old new n
  marked_later marks columns mid after old dev new n back quiet h = record {
    counted = λ one. record {
      most = (h.counted one).most;
      least = λ p each. (h.counted one).least p (λ s sw ps. let e = each s sw ps in (e.0, (λ i iw. back.available s i (e.1 i iw)), e.2));
    };
    none = h.none;
    checks = λ one told. checks_later columns mid after old dev new back quiet told (h.checks one told);
    in_sync = λ told due. sync_later (states_of y mid) (states_of y after) dev new back quiet told (h.in_sync told due);
  }

  pub has_later : (sweep : Sweeps) (columns mid after : List Column) (old dev new : List (Option D)) (n : ℕ) → Back y (states_of y after) (states_of y mid) → Quiet dev new → SweepHas g sweep y columns mid old dev n → SweepHas g sweep y columns after old new n
  has_later Nothing columns mid after old dev new n back quiet h = h
  has_later (Over kind) columns mid after old dev new n back quiet h = swept_later kind columns mid after old dev new n back quiet h
  has_later (Marked marks) columns mid after old dev new n back quiet h = marked_later marks columns mid after old dev new n back quiet h

  -- what was in sync is so behind it
  pub sweep_still : (sweep : Sweeps) (columns after : List Column) (old new : List (Option D)) (n : ℕ) → (sweep ≡ Nothing → ⊥) → SweepHas g sweep y columns after old new n → g.tells → InSync y (contents_of g old) (states_of y columns) → InSync y (contents_of g new) (states_of y after)
  sweep_still Nothing columns after old new n some h told sound = absurd (some refl)
  sweep_still (Over kind) columns after old new n some h told sound = h.in_sync told
  sweep_still (Marked marks) columns after old new n some h told sound = λ s o k sw ou ku one all.
      h.in_sync told (λ t tw full z. absurd (z.differs (sound t z.offset z.byte tw z.within z.of_sector one full))) s o k sw ou ku one all

  -- a sector that a sweep may change is one of the check unit of a stripe that lacks no unit
  pub record OfCheck (columns : List Column) (d n : ℕ) : Type 0 where
    pub stripe : ℕ
    pub within : stripe < y.stripes
    pub complete : IsComplete y (states_of y columns) stripe
    pub sector : IsCheckSector y (states_of y columns) stripe d n

  pub of_check : (sweep : Sweeps) (columns : List Column) (old : List (Option D)) (d n : ℕ) → MaySweep g sweep y columns old d n → OfCheck columns d n
  of_check Nothing columns old d n h = absurd h
  of_check (Over kind) columns old d n h = record { stripe = h.1.stripe; within = h.1.within; complete = h.1.complete; sector = h.1.sector }
  of_check (Marked marks) columns old d n h = record { stripe = h.1.stripe; within = h.1.below; complete = h.1.complete; sector = h.1.sector }

  -- it isn't one of those before the rows
  pub sweep_high : (sweep : Sweeps) (columns : List Column) (old : List (Option D)) (d n : ℕ) → MaySweep g sweep y columns old d n → 64 ≤ n
  sweep_high sweep columns old d n h = let c = of_check sweep columns old d n h in omega (arith, c.sector.sector)

  -- ## Before it

  rewrites_same : (kind : Sweep) (P Q : Type 0) → (P → Q) → Rewrites kind P → Rewrites kind Q
  rewrites_same Check P Q f h = h
  rewrites_same Sync P Q f h = f h
  rewrites_same Init P Q f h = h

  due_same : (kind : Sweep) (P Q : Type 0) → (P → Q) → IsToCount kind P → IsToCount kind Q
  due_same Check P Q f h = f h
  due_same Sync P Q f h = f h
  due_same Init P Q f h = h

  module _ (columns mid : List Column) (old dev : List (Option D)) (back : Back y (states_of y mid) (states_of y columns)) (quiet : Quiet old dev) where
    sum_first : (s o k : ℕ) → g.tells → IsComplete y (states_of y mid) s → sum_of y (contents_of g dev) (states_of y mid) s y.width o k ≡ sum_of y (contents_of g old) (states_of y columns) s y.width o k
    sum_first s o k told all = sum-back y (contents_of g dev) (states_of y mid) (states_of y columns) s y.width o k back all ∙ sum_quiet (states_of y columns) old dev s y.width o k quiet told

    not_zero_was : (s : ℕ) → g.tells → IsComplete y (states_of y mid) s → IsNotZero y (contents_of g dev) (states_of y mid) s → IsNotZero y (contents_of g old) (states_of y columns) s
    not_zero_was s told all h = record { offset = h.offset; byte = h.byte; within = h.within; of_sector = h.of_sector; differs = λ e. h.differs (sum_first s h.offset h.byte told all ∙ e) }

    not_zero_is : (s : ℕ) → g.tells → IsComplete y (states_of y mid) s → IsNotZero y (contents_of g old) (states_of y columns) s → IsNotZero y (contents_of g dev) (states_of y mid) s
    not_zero_is s told all h = record { offset = h.offset; byte = h.byte; within = h.within; of_sector = h.of_sector; differs = λ e. h.differs (sym (sum_first s h.offset h.byte told all) ∙ e) }

    whole_was : (s : ℕ) → IsComplete y (states_of y mid) s → IsComplete y (states_of y columns) s
    whole_was s all i iw = back.available s i (all i iw)

    may_was : (kind : Sweep) (d n : ℕ) → MayRewrite g kind y mid dev d n → MayRewrite g kind y columns old d n
    may_was kind d n h = record {
      stripe = h.stripe;
      within = h.within;
      complete = whole_was h.stripe h.complete;
      why = rewrites_same kind _ _ (λ f told. not_zero_was h.stripe told h.complete (f told)) h.why;
      sector = check-back y (states_of y mid) (states_of y columns) h.stripe d n back h.sector;
    }

    marked_was : (marks : ℕ → Bool) (d n : ℕ) → MayRewriteMarked g y marks mid dev y.stripes d n → MayRewriteMarked g y marks columns old y.stripes d n
    marked_was marks d n h = record {
      stripe = h.stripe;
      below = h.below;
      marked = h.marked;
      complete = whole_was h.stripe h.complete;
      not_zero = λ told. not_zero_was h.stripe told h.complete (h.not_zero told);
      sector = check-back y (states_of y mid) (states_of y columns) h.stripe d n back h.sector;
    }

    pub sweep_was : (sweep : Sweeps) (d n : ℕ) → MaySweep g sweep y mid dev d n → MaySweep g sweep y columns old d n
    sweep_was Nothing d n h = h
    sweep_was (Over kind) d n h = (h.0, may_was kind d n h.1)
    sweep_was (Marked marks) d n h = (h.0, marked_was marks d n h.1)

    counted_first : (kind : Sweep) (after : List Column) (n : ℕ) → Back y (states_of y after) (states_of y mid) → IsCounted g kind y mid after dev n → IsCounted g kind y columns after old n
    counted_first kind after n later h = record {
      most = λ p each. h.most p (λ s sw all due. each s sw (whole_was s all) (due_same kind _ _ (λ f told. not_zero_was s told all (f told)) due));
      least = λ p each. h.least p (λ s sw ps.
          let e = each s sw ps in
          (e.0, due_same kind _ _ (λ f. (f.0, not_zero_is s f.0 (λ i iw. later.available s i (e.0 i iw)) f.1)) e.1));
    }

    counted_to_first : (marks : ℕ → Bool) (after : List Column) (n : ℕ) → Back y (states_of y after) (states_of y mid) → IsCountedTo g y marks mid dev y.stripes after n → IsCountedTo g y marks columns old y.stripes after n
    counted_to_first marks after n later h = record {
      most = λ p each. h.most p (λ s sw m all due. each s sw m (whole_was s all) (λ told. not_zero_was s told all (due told)));
      least = λ p each. h.least p (λ s sw ps.
          let e = each s sw ps in
          (e.0, e.1, (e.2.0, not_zero_is s e.2.0 (λ i iw. later.available s i (e.1 i iw)) e.2.1)));
    }

    -- which sectors have changed since
    abbrev pub IsSwept : Sweeps → ℕ → ℕ → Type 0
    IsSwept sweep d n = (n < 64) ⊎ MaySweep g sweep y mid dev d n

    module _ (sweep : Sweeps) (layout : IsLayout y) (order : InOrder (states_of y columns)) (one : y.checks ≡ 1) (after : List Column) (new : List (Option D)) (frame : Changes g (IsSwept sweep) dev new) where
      last : data_units y < y.width
      last = omega (arith, last-unit y layout one)

      -- a stripe that lacked a unit is left alone
      untouched : (s o : ℕ) (at : Spot) → s < y.stripes → o < y.unit_sectors → Lacks y (states_of y mid) s → seat y (states_of y columns) s (data_units y) ≡ Some at → IsSwept sweep at.device (sector_at y at o) → ⊥
      untouched s o at sw ou lacks is (inl low) = omega (arith, low)
      untouched s o at sw ou lacks is (inr swept) =
          let may = of_check sweep mid dev at.device (sector_at y at o) swept in
          let same = (check-alone y (states_of y columns) layout order one may.stripe s (data_units y) o at may.within sw last ou is (check-back y (states_of y mid) (states_of y columns) may.stripe at.device (sector_at y at o) back may.sector)).0 in
          let all = subst (IsComplete y (states_of y mid)) (sym same) may.complete in
          let z : true ≡ false = sym (all lacks.0 lacks.1) ∙ lacks.2 in let u : ⊥ = cc in u

      checks_first : g.tells → ChecksHold g y mid after dev new → ChecksHold g y columns after old new
      checks_first told h s sw all here = elim (complete_or y (states_of y mid) s) [
        | inl whole ↦ elim (h s sw whole here) [
          | inl sum ↦ inl (λ o k ou ku.
              sym (byte-back y (contents_of g new) (states_of y mid) (states_of y columns) s (data_units y) o k back (whole (data_units y) last))
              ∙ (sum o k ou ku ∙ sum-back y (contents_of g new) (states_of y mid) (states_of y columns) s (data_units y) o k back (λ i iw. whole i (omega (arith, iw, last)))))
          | inr same ↦ inr (λ o k ou.
              sym (byte-back y (contents_of g new) (states_of y mid) (states_of y columns) s (data_units y) o k back (whole (data_units y) last))
              ∙ (same o k ou
              ∙ (byte-back y (contents_of g dev) (states_of y mid) (states_of y columns) s (data_units y) o k back (whole (data_units y) last)
              ∙ byte_quiet (states_of y columns) old dev s (data_units y) o k quiet told)))
        ]
        | inr lacks ↦ inr (λ o k ou.
            byte-same g (IsSwept sweep) dev new y (states_of y columns) s (data_units y) o k frame told (λ at is. untouched s o at sw ou lacks is)
            ∙ byte_quiet (states_of y columns) old dev s (data_units y) o k quiet told)
      ]

    pub has_first : (sweep : Sweeps) → IsLayout y → InOrder (states_of y columns) → (after : List Column) (new : List (Option D)) (n : ℕ) → Back y (states_of y after) (states_of y mid) → Changes g (IsSwept sweep) dev new → SweepHas g sweep y mid after dev new n → SweepHas g sweep y columns after old new n
    has_first Nothing layout order after new n later frame h = h
    has_first (Over kind) layout order after new n later frame h = record {
      counted = λ one. counted_first kind after n later (h.counted one);
      none = h.none;
      checks = λ one told. checks_first (Over kind) layout order one after new frame told (h.checks one told);
      in_sync = h.in_sync;
    }
    has_first (Marked marks) layout order after new n later frame h = record {
      counted = λ one. counted_to_first marks after n later (h.counted one);
      none = h.none;
      checks = λ one told. checks_first (Marked marks) layout order one after new frame told (h.checks one told);
      in_sync = λ told due. h.in_sync told (λ s sw all z. due s sw (whole_was s all) (not_zero_was s told all z));
    }
