-- Columns that are settled one after the other.
use Rattle.std.proofs.Common.{◌≡◌, ◌≢◌, ◌∙◌, ℕ, zero, suc, ◌+◌, ◌<◌, Bool, true, false, List, [], ◌∷◌, length, Option, Some, None, refl, sym, ap, subst, inl, inr, arith}
use Rattle.std.specs.Prelude.{set, slice_get, IsSome, is_some, option_and_then, if◌then◌else◌}
use Rattle.std.proofs.lemmas.Bool.{cases_order, cases_lt}
use Rattle.std.proofs.lemmas.Option.{slice_get_within}
use Rattle.blk_disk.specs.declared.disk.Call.{Call}
use Rattle.blk_disk.specs.declared.disk.Disk.{Ghosts}
use Rattle.blk_disk.specs.Disk.{Tells, call_of}
use Rattle.blk_disk.specs.Devices.{device_at, calls_of, Changes}
use Rattle.blk_disk.proofs.DeviceLaws.{changes-refl, changes-then, rises-wider}
use Rattle.eng_cols.specs.declared.column.Column.{Column}
use Rattle.eng_cols.specs.declared.column.Column.TheVariants as column
use Rattle.eng_cols.specs.Cols.{device_set, HasDeviceOn, has_device}
use Rattle.eng_cols.specs.Deaths.{Dies, LosesDevice}
use Rattle.eng_cols.proofs.DeathLaws.{dies-refl, dies-more, dies-then, dies-set}
use Rattle.eng_cols.proofs.Lists.{get_set_other}
use Rattle.top_close.specs.Calls.{IsSettle, EndsSettled}
use Rattle.top_close.specs.Settled.{HaveDevices, SettlesColumn, AreSettled}
use Rattle.top_close.proofs.CallLaws.{more_all-none, more_all-one, more_all-then}
use Rattle.top_close.proofs.Words.{SettlesOn}

-- ## Calls

ends_settled-one : (a b : Option (List Call)) → Tells a b (call_of 2 0 0 true) → EndsSettled b
ends_settled-one a None h = tt
ends_settled-one None (Some bs) h = absurd h
ends_settled-one (Some xs) (Some bs) h = (xs, h)

-- ## Lists of columns

-- a column with a device is there
pub device_within : (columns : List Column) (c d : ℕ) → HasDeviceOn columns c d → c < length columns
device_within columns c d h = go (slice_get columns c) refl h
  where
    go : (o : Option Column) → slice_get columns c ≡ o → device_set o ≡ Some d → c < length columns
    go None e on = let z : None ≡ Some d = on in absurd (let u : ⊥ = cc in u)
    go (Some x) e on = slice_get_within columns c x e

pub set_here : (xs : List Column) (i : ℕ) (x : Column) → i < length xs → slice_get (set xs i x) i ≡ Some x
set_here [] i x h = absurd (omega arith)
set_here (y ∷ xs) zero x h = refl
set_here (y ∷ xs) (suc i) x h = set_here xs i x (omega arith)

pub if_live : (columns : List Column) (c d : ℕ) (good : Bool) → HasDeviceOn columns c d → has_device (slice_get (if good then columns else set columns c column.Dead) c) ≡ good
if_live columns c d true h = ap is_some h
if_live columns c d false h = ap has_device (set_here columns c column.Dead (device_within columns c d h))

pub if_other : (columns : List Column) (c k : ℕ) (good : Bool) → k ≢ c → slice_get (if good then columns else set columns c column.Dead) k ≡ slice_get columns k
if_other columns c k true apart = refl
if_other columns c k false apart = get_set_other columns c k column.Dead apart

pub if_dies : (cause : ℕ → Type 0) (columns : List Column) (c d : ℕ) (good : Bool) → HasDeviceOn columns c d → (good ≡ false → cause c) → Dies cause columns (if good then columns else set columns c column.Dead)
if_dies cause columns c d true h why = dies-refl cause columns
if_dies cause columns c d false h why = dies-set cause columns c (device_within columns c d h) (why refl)

-- ## The first columns

module _ {D : Type 0} (g : Ghosts D) where
  pub settled-none : (columns : List Column) (ds : List (Option D)) → AreSettled g 0 columns columns ds ds
  settled-none columns ds = record {
    frame = changes-refl g (λ _ _. ⊥) ds;
    dies = dies-refl (LosesDevice g columns ds ds) columns;
    once = λ c d below. absurd (omega (arith, below));
    others = λ d none. refl;
    left = λ c h. refl;
    told = λ d. more_all-none IsSettle (calls_of g ds d);
  }

  -- the next column isn't live
  pub settled-skip : (n : ℕ) (columns after : List Column) (old new : List (Option D)) → ((d : ℕ) → HasDeviceOn after n d → ⊥) → AreSettled g n columns after old new → AreSettled g (n + 1) columns after old new
  settled-skip n columns after old new not was = record {
    frame = was.frame;
    dies = was.dies;
    once = λ c d below live. elim (cases_lt c n) [
      | inl lt ↦ was.once c d lt live
      | inr le ↦ let e : c ≡ n = omega (arith, below, le) in absurd (not d (ap device_set (was.left n (omega arith) ∙ ap (slice_get columns) (sym e)) ∙ live))
    ];
    others = λ d none. was.others d (λ c below. none c (omega (arith, below)));
    left = λ c h. was.left c (omega (arith, h));
    told = was.told;
  }

  module _ (n : ℕ) (columns mid after : List Column) (old dev new : List (Option D)) (have : HaveDevices columns old) (was : AreSettled g n columns mid old dev) (step : SettlesColumn g n mid after dev new) where
    d : ℕ
    d = step.device

    live : HasDeviceOn columns n d
    unfolding d
    live = ap device_set (sym (was.left n (omega arith))) ∙ step.live

    frame : Changes g (λ _ _. ⊥) old new
    frame = changes-then g (λ _ _. ⊥) old dev new was.frame step.settling.frame

    -- the device had no call before
    fresh : device_at dev d ≡ device_at old d
    fresh = was.others d (λ c below other. omega (arith, below, have.apart c n d other live))

    fails : step.good ≡ false → LosesDevice g columns old new n
    unfolding d
    fails bad = record { device = d; had = live; rose = rises-wider g (λ _ _. ⊥) (λ _ _. ⊥) old dev new new d was.frame (step.settling.cause bad) (changes-refl g (λ _ _. ⊥) new) }

    dies : Dies (LosesDevice g columns old new) columns after
    dies =
        dies-then (LosesDevice g columns old new) columns mid after
        (dies-more (LosesDevice g columns old dev) (LosesDevice g columns old new) columns mid
        (λ c f. record { device = f.device; had = f.had; rose = rises-wider g (λ _ _. ⊥) (λ _ _. ⊥) old old dev new f.device (changes-refl g (λ _ _. ⊥) old) f.rose step.settling.frame }) was.dies)
        (subst (Dies (LosesDevice g columns old new) mid) (sym step.after_is) (if_dies (LosesDevice g columns old new) mid n step.device step.good step.live fails))

    here : (k : ℕ) → HasDeviceOn columns n k → Tells (calls_of g old k) (calls_of g new k) (call_of 2 0 0 (has_device (slice_get after n)))
    unfolding d
    here k h =
        let z : Some d ≡ Some k = sym live ∙ h in
        let e : d ≡ k = cc in
        let good : step.good ≡ has_device (slice_get after n) = sym (if_live mid n d step.good step.live) ∙ ap (λ (l : List Column). has_device (slice_get l n)) (sym step.after_is) in
        subst (λ j. Tells (calls_of g old j) (calls_of g new j) (call_of 2 0 0 (has_device (slice_get after n)))) e
        (subst (λ b. Tells (calls_of g old d) (calls_of g new d) (call_of 2 0 0 b)) good
        (subst (λ o. Tells o (calls_of g new d) (call_of 2 0 0 step.good)) (ap (λ o. option_and_then g.calls o) fresh) step.settling.told))

    before : (c k : ℕ) → c < n → HasDeviceOn columns c k → Tells (calls_of g old k) (calls_of g new k) (call_of 2 0 0 (has_device (slice_get after c)))
    unfolding d
    before c k below h =
        let apart : k ≢ d = λ e. omega (arith, below, have.apart c n d (h ∙ ap (λ j. Some j) e) live) in
        let same : calls_of g dev k ≡ calls_of g new k = ap (λ o. option_and_then g.calls o) (sym (step.settling.others k apart)) in
        let state : has_device (slice_get mid c) ≡ has_device (slice_get after c) = ap has_device (sym (ap (λ (l : List Column). slice_get l c) step.after_is ∙ if_other mid n c step.good (λ e. omega (arith, below, e)))) in
        subst (λ b. Tells (calls_of g old k) (calls_of g new k) (call_of 2 0 0 b)) state
        (subst (λ o. Tells (calls_of g old k) o (call_of 2 0 0 (has_device (slice_get mid c)))) same (was.once c k below h))

    told : (k : ℕ) → SettlesOn (calls_of g dev k) (calls_of g new k)
    unfolding d
    told k = elim (cases_order k d) [
      | inl e ↦ subst (λ j. SettlesOn (calls_of g dev j) (calls_of g new j)) (sym e) (more_all-one IsSettle (call_of 2 0 0 step.good) (calls_of g dev d) (calls_of g new d) (step.good, refl) step.settling.told)
      | inr order ↦
          let apart : k ≢ d = λ e. elim order [ inl lt ↦ omega (arith, e, lt) | inr gt ↦ omega (arith, e, gt) ] in
          subst (λ o. SettlesOn (calls_of g dev k) o) (ap (λ o. option_and_then g.calls o) (sym (step.settling.others k apart))) (more_all-none IsSettle (calls_of g dev k))
    ]

    pub settled-more : AreSettled g (n + 1) columns after old new
    unfolding d
    settled-more = record {
      frame = frame;
      dies = dies;
      once = λ c k below h. elim (cases_lt c n) [
        | inl lt ↦ before c k lt h
        | inr le ↦ let e : n ≡ c = omega (arith, below, le) in subst (λ j. Tells (calls_of g old k) (calls_of g new k) (call_of 2 0 0 (has_device (slice_get after j)))) e (here k (ap (λ j. device_set (slice_get columns j)) e ∙ h))
      ];
      others = λ k none. step.settling.others k (λ e. none n (omega arith) (live ∙ ap (λ j. Some j) (sym e))) ∙ was.others k (λ c below. none c (omega (arith, below)));
      left = λ c h. ap (λ (l : List Column). slice_get l c) step.after_is ∙ (if_other mid n c step.good (λ e. omega (arith, h, e)) ∙ was.left c (omega (arith, h)));
      told = λ k. more_all-then IsSettle (calls_of g old k) (calls_of g dev k) (calls_of g new k) (was.told k) (told k);
    }

  -- a device still in use has settled last
  pub settled_last : (columns after : List Column) (old new : List (Option D)) (c d : ℕ) → AreSettled g (length columns) columns after old new → HasDeviceOn after c d → EndsSettled (calls_of g new d)
  settled_last columns after old new c d all h = elim (all.dies.each c) [
    | inl same ↦
        let was : HasDeviceOn columns c d = ap device_set (sym same) ∙ h in
        ends_settled-one _ _ (subst (λ b. Tells (calls_of g old d) (calls_of g new d) (call_of 2 0 0 b)) (ap is_some h) (all.once c d (device_within columns c d was) was))
    | inr dead ↦ let z : Some d ≡ None = sym h ∙ ap device_set dead.0 in absurd (let u : ⊥ = cc in u)
  ]

  -- the device of the next column is where it was
  pub still_there : (n d : ℕ) (columns mid : List Column) (old dev : List (Option D)) → HaveDevices columns old → AreSettled g n columns mid old dev → HasDeviceOn mid n d → IsSome (device_at dev d)
  still_there n d columns mid old dev have was live =
      let before : HasDeviceOn columns n d = ap device_set (sym (was.left n (omega arith))) ∙ live in
      subst (λ o. IsSome o) (sym (was.others d (λ c below other. omega (arith, below, have.apart c n d other before)))) (have.there n d before)
