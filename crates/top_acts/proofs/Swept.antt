-- What one sweep did, be it over all stripes or over those that are marked.
use Rattle.std.proofs.Common.{ℕ, ◌≤◌, Bool, List, Option, sym, subst, inl, inr, arith}
use Rattle.std.proofs.lemmas.Bool.{cases_eq}
use Rattle.blk_disk.specs.declared.disk.Disk.{Ghosts}
use Rattle.blk_disk.specs.Devices.{Changes, calls_of}
use Rattle.blk_disk.proofs.DeviceLaws.{changes-more, changes-refl}
use Rattle.lay_core.specs.Layout.{Shape}
use Rattle.eng_cols.specs.declared.column.Column.{Column}
use Rattle.eng_cols.specs.declared.spot.Loss.{Loss}
use Rattle.eng_cols.specs.Deaths.{Dies}
use Rattle.eng_cols.proofs.DeathLaws.{dies-refl}
use Rattle.eng_cols.specs.Stripes.{states_of}
use Rattle.raid_map.specs.Sweeping.{MayRewrite as MayRewriteMarked}
use Rattle.raid_recon.specs.declared.kind.Sweep.{Sweep}
use Rattle.raid_recon.specs.Array.{Failed}
use Rattle.raid_recon.specs.Ends.{MayRewrite}
use Rattle.top_close.specs.Stage.{IsStage, ToldNothing}
use Rattle.top_close.proofs.StageLaws.{stage-plain}
use Rattle.top_acts.specs.Begun.{HasSwept, MaySweep, SweepHas}
use Rattle.top_acts.specs.Stages.{AreStaged}
use Rattle.top_acts.specs.Sweeping.{DoesSweep, SweepsMarked}
use Rattle.top_acts.specs.Sweeps.{Sweeps, Over, Marked}
use Rattle.top_acts.proofs.Named.{loses_of}
use Rattle.top_acts.proofs.Staged.{AreNone, staged-marked, staged-sweep}
use Rattle.top_acts.proofs.Uncalled.{told-marked, told-units}
use Rattle.top_acts.proofs.Words.{StagesOn}

module _ {D : Type 0} (g : Ghosts D) (y : Shape) where
  -- which sectors may have changed, whose columns died, what it left, counted and called
  pub record DidSweep (sweep : Sweeps) (columns after : List Column) (old new : List (Option D)) (n : ℕ) : Type 0 where
    pub frame : Changes g (MaySweep g sweep y columns old) old new
    pub dies : Dies (Failed g (states_of y columns) old new) columns after
    pub told : (d : ℕ) → StagesOn AreNone AreNone sweep y (states_of y columns) d (calls_of g old d) (calls_of g new d)
    pub uncalled : ToldNothing g columns old new
    pub has : SweepHas g sweep y columns after old new n

  -- no device is listed of it
  abbrev pub sweep_stage : (sweep : Sweeps) (lost : Option Loss) (columns after : List Column) (old new : List (Option D)) (n : ℕ) → DidSweep sweep columns after old new n → IsStage g (MaySweep g sweep y columns old) (λ d. AreStaged AreNone AreNone sweep y (states_of y columns) d) lost columns after old new
  sweep_stage sweep lost columns after old new n s =
      stage-plain g (MaySweep g sweep y columns old) (λ d. AreStaged AreNone AreNone sweep y (states_of y columns) d) lost columns after old new s.frame s.told s.uncalled (loses_of g y lost columns after old new s.dies)

  -- ## Over all stripes

  abbrev pub swept_now : (kind : Sweep) (columns after : List Column) (old new : List (Option D)) (n : ℕ) → DoesSweep g kind y columns after old new n → HasSwept g kind y columns after old new n
  swept_now kind columns after old new n s = record { counted = s.counted; none = λ e. (s.none e).0; checks = s.checks; in_sync = s.in_sync }

  -- where there are no check units nothing changes
  pub sweep_frame : (kind : Sweep) (columns after : List Column) (old new : List (Option D)) (n : ℕ) → y.checks ≤ 1 → DoesSweep g kind y columns after old new n → Changes g (MaySweep g (Over kind) y columns old) old new
  sweep_frame kind columns after old new n most s = elim (cases_eq y.checks 1) [
    | inl one ↦ changes-more g (MayRewrite g kind y columns old) (MaySweep g (Over kind) y columns old) old new (λ d m h. (one, h)) s.frame
    | inr ne ↦ subst (λ l. Changes g (MaySweep g (Over kind) y columns old) old l) (sym (s.none (omega (arith, most, ne))).1.1) (changes-refl g (MaySweep g (Over kind) y columns old) old)
  ]

  pub did_over : (kind : Sweep) (columns after : List Column) (old new : List (Option D)) (n : ℕ) → y.checks ≤ 1 → DoesSweep g kind y columns after old new n → DidSweep (Over kind) columns after old new n
  did_over kind columns after old new n most s = record {
    frame = sweep_frame kind columns after old new n most s;
    dies = s.dies;
    told = λ d. staged-sweep kind y (states_of y columns) d (calls_of g old d) (calls_of g new d) (s.calls d);
    uncalled = told-units g y columns old new s.calls;
    has = swept_now kind columns after old new n s;
  }

  -- ## Over those that are marked

  module _ (marks : ℕ → Bool) (columns after : List Column) (old new : List (Option D)) (n : ℕ) (most : y.checks ≤ 1) (s : SweepsMarked g y marks columns after old new n) where
    marked_frame : Changes g (MaySweep g (Marked marks) y columns old) old new
    marked_frame = elim (cases_eq y.checks 1) [
      | inl one ↦ changes-more g (MayRewriteMarked g y marks columns old y.stripes) (MaySweep g (Marked marks) y columns old) old new (λ d m h. (one, h)) (s.swept one).frame
      | inr ne ↦ subst (λ l. Changes g (MaySweep g (Marked marks) y columns old) old l) (sym (s.none (omega (arith, most, ne))).1.1) (changes-refl g (MaySweep g (Marked marks) y columns old) old)
    ]

    marked_dies : Dies (Failed g (states_of y columns) old new) columns after
    marked_dies = elim (cases_eq y.checks 1) [
      | inl one ↦ (s.swept one).dies
      | inr ne ↦ subst (Dies (Failed g (states_of y columns) old new) columns) (sym (s.none (omega (arith, most, ne))).1.0) (dies-refl (Failed g (states_of y columns) old new) columns)
    ]

    pub did_marked : DidSweep (Marked marks) columns after old new n
    did_marked = record {
      frame = marked_frame;
      dies = marked_dies;
      told = λ d. staged-marked marks y (states_of y columns) d (calls_of g old d) (calls_of g new d) (s.calls d);
      uncalled = told-marked g y marks columns old new s.calls;
      has = record { counted = s.counted; none = λ e. (s.none e).0; checks = s.checks; in_sync = s.in_sync };
    }
