-- Columns that get their labels one after the other.
use Rattle.std.proofs.Common.{◌≡◌, ◌≢◌, ◌∙◌, ℕ, ◌+◌, ◌<◌, ◌≤◌, Bool, true, false, List, [], length, Option, Some, None, refl, sym, ap, subst, inl, inr, arith}
use Rattle.std.specs.Prelude.{set, slice_get, IsSome, option_and_then, if◌then◌else◌}
use Rattle.std.specs.Option.{option_map_or}
use Rattle.std.proofs.lemmas.Bool.{cases_order, cases_lt}
use Rattle.blk_disk.specs.declared.disk.Disk.{Ghosts}
use Rattle.blk_disk.specs.Disk.{Tells, call_of}
use Rattle.blk_disk.specs.Devices.{device_at, size_of, sector_of, calls_of, Changes}
use Rattle.blk_disk.proofs.DeviceLaws.{changes-more, changes-refl, changes-then, rises-wider}
use Rattle.eng_cols.specs.declared.column.Column.{Column}
use Rattle.eng_cols.specs.declared.column.Column.TheVariants as column
use Rattle.eng_cols.specs.Cols.{device_set, HasDeviceOn, has_device}
use Rattle.eng_cols.specs.Deaths.{Dies, LosesDevice}
use Rattle.eng_cols.proofs.DeathLaws.{dies-refl, dies-more, dies-then}
use Rattle.raid_label.specs.declared.label.Label.{Label}
use Rattle.top_close.specs.Settled.{HaveDevices}
use Rattle.top_close.proofs.CallLaws.{more_all-none, more_all-one, more_all-then}
use Rattle.top_close.proofs.SettledLaws.{device_within, if_dies, if_live, if_other, set_here}
use Rattle.top_close.proofs.StageLaws.{live_before}
use Rattle.top_rounds.specs.Calls.{IsLabelWrite, WritesOn, WritesWithin}
use Rattle.top_rounds.proofs.CallLaws.{within-none, within-one}
use Rattle.top_rounds.specs.Passes.{AreLabelled, CanBeLabelled, HoldsLabel, IsTry, LabelsColumn}
use Rattle.top_rounds.proofs.Words.{IsFirstInUse}

-- ## Lists of columns

-- a column that still has a device has it only where that went well
if_good : (columns : List Column) (c d k : ℕ) (good : Bool) → HasDeviceOn columns c d → HasDeviceOn (if good then columns else set columns c column.Dead) c k → (good ≡ true) × (d ≡ k)
if_good columns c d k true was h = let z : Some d ≡ Some k = sym was ∙ h in let e : d ≡ k = cc in (refl, e)
if_good columns c d k false was h =
    let z : Some k ≡ None = sym h ∙ ap device_set (set_here columns c column.Dead (device_within columns c d was)) in absurd (let u : ⊥ = cc in u)

-- ## The first columns

module _ {D : Type 0} (g : Ghosts D) where
  pub labelled-none : (label : Label) (columns : List Column) (ds : List (Option D)) → AreLabelled g 0 label columns columns ds ds
  labelled-none label columns ds = record {
    frame = changes-refl g (IsFirstInUse columns) ds;
    dies = dies-refl (LosesDevice g columns ds ds) columns;
    held = λ c d below. absurd (omega (arith, below));
    once = λ c d below. absurd (omega (arith, below));
    others = λ d none. refl;
    left = λ c h. refl;
    told = λ d. more_all-none IsLabelWrite (calls_of g ds d);
    times = λ d. within-none 0 1 (calls_of g ds d) (omega arith);
  }

  -- the next column has no device
  pub labelled-skip : (n : ℕ) (label : Label) (columns after : List Column) (old new : List (Option D)) → ((d : ℕ) → HasDeviceOn after n d → ⊥) → AreLabelled g n label columns after old new → AreLabelled g (n + 1) label columns after old new
  labelled-skip n label columns after old new not was = record {
    frame = was.frame;
    dies = was.dies;
    held = λ c d below live. elim (cases_lt c n) [
      | inl lt ↦ was.held c d lt live
      | inr le ↦ let e : c ≡ n = omega (arith, below, le) in absurd (not d (ap (λ j. device_set (slice_get after j)) (sym e) ∙ live))
    ];
    once = λ c d below live. elim (cases_lt c n) [
      | inl lt ↦ was.once c d lt live
      | inr le ↦ let e : c ≡ n = omega (arith, below, le) in absurd (not d (ap device_set (was.left n (omega arith) ∙ ap (slice_get columns) (sym e)) ∙ live))
    ];
    others = λ d none. was.others d (λ c below. none c (omega (arith, below)));
    left = λ c h. was.left c (omega (arith, h));
    told = was.told;
    times = was.times;
  }

  module _ (n : ℕ) (label : Label) (columns mid after : List Column) (old dev new : List (Option D)) (good : Bool) (have : HaveDevices columns old) (was : AreLabelled g n label columns mid old dev) (step : LabelsColumn g n label mid after dev new good) where
    d : ℕ
    d = step.device

    live : HasDeviceOn columns n d
    unfolding d
    live = ap device_set (sym (was.left n (omega arith))) ∙ step.live

    step_frame : Changes g (IsFirstInUse columns) dev new
    unfolding d
    step_frame = changes-more g (λ k m. (k ≡ d) × (m ≡ 0)) (IsFirstInUse columns) dev new (λ k m h. record { col = n; live = live ∙ ap (λ j. Some j) (sym h.0); kept = h.1 }) step.labelling.frame

    frame : Changes g (IsFirstInUse columns) old new
    frame = changes-then g (IsFirstInUse columns) old dev new was.frame step_frame

    -- the device had no call before
    fresh : device_at dev d ≡ device_at old d
    fresh = was.others d (λ c below other. omega (arith, below, have.apart c n d other live))

    pub loses : good ≡ false → LosesDevice g columns old new n
    unfolding d
    loses bad = record { device = d; had = live; rose = rises-wider g (IsFirstInUse columns) (IsFirstInUse columns) old dev new new d was.frame (step.labelling.cause bad) (changes-refl g (IsFirstInUse columns) new) }

    dies : Dies (LosesDevice g columns old new) columns after
    dies =
        dies-then (LosesDevice g columns old new) columns mid after
        (dies-more (LosesDevice g columns old dev) (LosesDevice g columns old new) columns mid
        (λ c f. record { device = f.device; had = f.had; rose = rises-wider g (IsFirstInUse columns) (IsFirstInUse columns) old old dev new f.device (changes-refl g (IsFirstInUse columns) old) f.rose step_frame }) was.dies)
        (subst (Dies (LosesDevice g columns old new) mid) (sym step.after_is) (if_dies (LosesDevice g columns old new) mid n step.device good step.live loses))

    -- a column before has its device as it was
    apart_from : (c k : ℕ) → c < n → HasDeviceOn columns c k → k ≢ d
    unfolding d
    apart_from c k below h = λ e. omega (arith, below, have.apart c n d (h ∙ ap (λ j. Some j) e) live)

    here : (k : ℕ) → HasDeviceOn columns n k → Tells (calls_of g old k) (calls_of g new k) (call_of 1 0 512 (has_device (slice_get after n)))
    unfolding d
    here k h =
        let z : Some d ≡ Some k = sym live ∙ h in
        let e : d ≡ k = cc in
        let so : good ≡ has_device (slice_get after n) = sym (if_live mid n d good step.live) ∙ ap (λ (l : List Column). has_device (slice_get l n)) (sym step.after_is) in
        subst (λ j. Tells (calls_of g old j) (calls_of g new j) (call_of 1 0 512 (has_device (slice_get after n)))) e
        (subst (λ b. Tells (calls_of g old d) (calls_of g new d) (call_of 1 0 512 b)) so
        (subst (λ o. Tells o (calls_of g new d) (call_of 1 0 512 good)) (ap (λ o. option_and_then g.calls o) fresh) step.labelling.told))

    before : (c k : ℕ) → c < n → HasDeviceOn columns c k → Tells (calls_of g old k) (calls_of g new k) (call_of 1 0 512 (has_device (slice_get after c)))
    unfolding d
    before c k below h =
        let same : calls_of g dev k ≡ calls_of g new k = ap (λ o. option_and_then g.calls o) (sym (step.labelling.others k (apart_from c k below h))) in
        let state : has_device (slice_get mid c) ≡ has_device (slice_get after c) = ap has_device (sym (ap (λ (l : List Column). slice_get l c) step.after_is ∙ if_other mid n c good (λ e. omega (arith, below, e)))) in
        subst (λ b. Tells (calls_of g old k) (calls_of g new k) (call_of 1 0 512 b)) state
        (subst (λ o. Tells (calls_of g old k) o (call_of 1 0 512 (has_device (slice_get mid c)))) same (was.once c k below h))

    held_here : (k : ℕ) → HasDeviceOn after n k → HoldsLabel g new label n k
    unfolding d
    held_here k h told =
        let so = if_good mid n step.device k good step.live (subst (λ (l : List Column). HasDeviceOn l n k) step.after_is h) in
        ap (λ j. sector_of g new j 0) (sym so.1) ∙ step.labelling.held so.0 told

    held_before : (c k : ℕ) → c < n → HasDeviceOn after c k → HoldsLabel g new label c k
    unfolding d
    held_before c k below h told =
        let in_mid : HasDeviceOn mid c k = ap device_set (sym (ap (λ (l : List Column). slice_get l c) step.after_is ∙ if_other mid n c good (λ e. omega (arith, below, e)))) ∙ h in
        let in_old = live_before (LosesDevice g columns old dev) columns mid c k was.dies in_mid in
        ap (λ o. option_map_or (λ y. g.sector y 0) o []) (step.labelling.others k (apart_from c k below in_old)) ∙ was.held c k below in_mid told

    told : (k : ℕ) → WritesOn (calls_of g dev k) (calls_of g new k)
    unfolding d
    told k = elim (cases_order k d) [
      | inl e ↦ subst (λ j. WritesOn (calls_of g dev j) (calls_of g new j)) (sym e) (more_all-one IsLabelWrite (call_of 1 0 512 good) (calls_of g dev d) (calls_of g new d) (good, refl) step.labelling.told)
      | inr order ↦
          let apart : k ≢ d = λ e. elim order [ inl lt ↦ omega (arith, e, lt) | inr gt ↦ omega (arith, e, gt) ] in
          subst (λ o. WritesOn (calls_of g dev k) o) (ap (λ o. option_and_then g.calls o) (sym (step.labelling.others k apart))) (more_all-none IsLabelWrite (calls_of g dev k))
    ]

    -- the device had its one label; another as many as before
    times : (k : ℕ) → WritesWithin 0 1 (calls_of g old k) (calls_of g new k)
    unfolding d
    times k = elim (cases_order k d) [
      | inl e ↦ subst (λ j. WritesWithin 0 1 (calls_of g old j) (calls_of g new j)) (sym e)
          (subst (λ o. WritesWithin 0 1 o (calls_of g new d)) (ap (λ o. option_and_then g.calls o) fresh) (within-one good (calls_of g dev d) (calls_of g new d) step.labelling.told))
      | inr order ↦
          let apart : k ≢ d = λ e. elim order [ inl lt ↦ omega (arith, e, lt) | inr gt ↦ omega (arith, e, gt) ] in
          subst (λ o. WritesWithin 0 1 (calls_of g old k) o) (ap (λ o. option_and_then g.calls o) (sym (step.labelling.others k apart))) (was.times k)
    ]

    pub labelled-more : AreLabelled g (n + 1) label columns after old new
    unfolding d
    labelled-more = record {
      frame = frame;
      dies = dies;
      held = λ c k below h. elim (cases_lt c n) [
        | inl lt ↦ held_before c k lt h
        | inr le ↦ let e : n ≡ c = omega (arith, below, le) in subst (λ j. HoldsLabel g new label j k) e (held_here k (ap (λ j. device_set (slice_get after j)) e ∙ h))
      ];
      once = λ c k below h. elim (cases_lt c n) [
        | inl lt ↦ before c k lt h
        | inr le ↦ let e : n ≡ c = omega (arith, below, le) in subst (λ j. Tells (calls_of g old k) (calls_of g new k) (call_of 1 0 512 (has_device (slice_get after j)))) e (here k (ap (λ j. device_set (slice_get columns j)) e ∙ h))
      ];
      others = λ k none. step.labelling.others k (λ e. none n (omega arith) (live ∙ ap (λ j. Some j) (sym e))) ∙ was.others k (λ c below. none c (omega (arith, below)));
      left = λ c h. ap (λ (l : List Column). slice_get l c) step.after_is ∙ (if_other mid n c good (λ e. omega (arith, h, e)) ∙ was.left c (omega (arith, h)));
      told = λ k. more_all-then IsLabelWrite (calls_of g old k) (calls_of g dev k) (calls_of g new k) (was.told k) (told k);
      times = times;
    }

    -- the write failed, and none before
    pub try-failed : mid ≡ columns → good ≡ false → IsTry g label columns after old new false
    try-failed same bad = record {
      taken = n + 1;
      labelled = labelled-more;
      ends = record {
        col = n;
        last = refl;
        loses = loses bad;
        after_is = step.after_is ∙ (ap (λ b. if b then mid else set mid n column.Dead) bad ∙ ap (λ (l : List Column). set l n column.Dead) same);
      };
    }

    -- it went well, and no column died
    pub still_same : mid ≡ columns → good ≡ true → after ≡ columns
    still_same same well = step.after_is ∙ (ap (λ b. if b then mid else set mid n column.Dead) well ∙ same)

  -- no write failed
  pub try-whole : (n : ℕ) (label : Label) (columns after : List Column) (old new : List (Option D)) → n ≡ length columns → after ≡ columns → AreLabelled g n label columns after old new → IsTry g label columns after old new true
  try-whole n label columns after old new all same labelled = record { taken = n; labelled = labelled; ends = (all, same) }

  -- the device of the next column is where it was, and has a sector
  pub still_there : (n d : ℕ) (label : Label) (columns mid : List Column) (old dev : List (Option D)) → CanBeLabelled g columns old → AreLabelled g n label columns mid old dev → HasDeviceOn mid n d → IsSome (device_at dev d) × (1 ≤ size_of g dev d)
  still_there n d label columns mid old dev can was live =
      let before : HasDeviceOn columns n d = ap device_set (sym (was.left n (omega arith))) ∙ live in
      let same = was.others d (λ c below other. omega (arith, below, can.have.apart c n d other before)) in
      (subst (λ o. IsSome o) (sym same) (can.have.there n d before), omega (arith, can.sized n d before, ap (λ o. option_map_or g.size o 0) same))
