-- Columns that are marked one after the other.
use Rattle.std.proofs.Common.{◌≡◌, ◌≢◌, ◌∙◌, ℕ, zero, suc, ◌+◌, ◌<◌, ◌≤◌, Bool, true, false, List, [], ◌∷◌, length, Option, Some, None, refl, sym, ap, subst, inl, inr, arith, append-nil}
use Rattle.std.specs.Prelude.{Contains, is_some, set, slice_get, option_and_then, if◌then◌else◌}
use Rattle.std.proofs.lemmas.Bool.{cases_eq, cases_lt}
use Rattle.std.proofs.lemmas.List.{length-set}
use Rattle.std.proofs.lemmas.Option.{slice_get_within}
use Rattle.blk_disk.specs.declared.disk.Call.{Call}
use Rattle.blk_disk.specs.declared.disk.Logged.{Logged}
use Rattle.blk_disk.specs.declared.disk.Disk.{Ghosts}
use Rattle.blk_disk.specs.Devices.{device_at, size_of, calls_of, Changes}
use Rattle.blk_disk.specs.Stops.{Left, MayHold}
use Rattle.blk_disk.proofs.DeviceLaws.{changes-refl, changes-then, changes-more, changes_size, rises-wider}
use Rattle.eng_cols.specs.declared.column.Column.{Column}
use Rattle.eng_cols.specs.declared.column.Column.TheVariants as column
use Rattle.eng_cols.specs.Cols.{device_set, HasDeviceOn, has_device}
use Rattle.eng_cols.specs.Deaths.{Dies, LosesDevice}
use Rattle.eng_cols.proofs.DeathLaws.{dies-refl, dies-more, dies-then, dies-set}
use Rattle.raid_map.specs.Marking.{IsMapSector, MarksOn, CanBeMarked, MarksColumn, AreMarked}
use Rattle.raid_map.proofs.Words.{MarksAtMost}

-- ## Lists of columns

pub set_here : (xs : List Column) (i : ℕ) (x : Column) → i < length xs → slice_get (set xs i x) i ≡ Some x
set_here [] i x h = absurd (omega (arith, h))
set_here (y ∷ xs) zero x h = refl
set_here (y ∷ xs) (suc i) x h = set_here xs i x (omega (arith, h))

pub set_other : (xs : List Column) (i k : ℕ) (x : Column) → k ≢ i → slice_get (set xs i x) k ≡ slice_get xs k
set_other [] i k x apart = refl
set_other (y ∷ xs) zero zero x apart = absurd (apart refl)
set_other (y ∷ xs) zero (suc k) x apart = refl
set_other (y ∷ xs) (suc i) zero x apart = refl
set_other (y ∷ xs) (suc i) (suc k) x apart = set_other xs i k x (λ e. apart (omega (arith, e)))

-- a column that has a device is one of the list
pub on_within : (columns : List Column) (c d : ℕ) → HasDeviceOn columns c d → c < length columns
on_within columns c d h = go (slice_get columns c) refl h
  where
    go : (o : Option Column) → slice_get columns c ≡ o → device_set o ≡ Some d → c < length columns
    go None is h = absurd (let z : None ≡ Some d = h in let u : ⊥ = cc in u)
    go (Some x) is h = slice_get_within columns c x is

pub if_other : (columns : List Column) (c k : ℕ) (good : Bool) → k ≢ c → slice_get (if good then columns else set columns c column.Dead) k ≡ slice_get columns k
if_other columns c k true apart = refl
if_other columns c k false apart = set_other columns c k column.Dead apart

pub if_on : (columns : List Column) (c d : ℕ) (good : Bool) → c < length columns → HasDeviceOn (if good then columns else set columns c column.Dead) c d → good ≡ true
if_on columns c d true within h = refl
if_on columns c d false within h = absurd (let z : None ≡ Some d = ap device_set (sym (set_here columns c column.Dead within)) ∙ h in let u : ⊥ = cc in u)

pub if_dies : (cause : ℕ → Type 0) (columns : List Column) (c : ℕ) (good : Bool) → c < length columns → (good ≡ false → cause c) → Dies cause columns (if good then columns else set columns c column.Dead)
if_dies cause columns c true h why = dies-refl cause columns
if_dies cause columns c false h why = dies-set cause columns c h (why refl)

-- the column has its device still exactly where the mark went well
pub if_has : (columns : List Column) (c d : ℕ) (good : Bool) → c < length columns → HasDeviceOn columns c d → has_device (slice_get (if good then columns else set columns c column.Dead) c) ≡ good
if_has columns c d true within on = ap is_some on
if_has columns c d false within on = ap has_device (set_here columns c column.Dead within)

-- ## Calls

none_marks : (a : Option (List Call)) → MarksAtMost a a
none_marks None = tt
none_marks (Some calls) = ([], inl refl, sym (append-nil calls))

marks_most : (a b : Option (List Call)) (good : Bool) → MarksOn a b good → MarksAtMost a b
marks_most a None good h = tt
marks_most None (Some now) good h = absurd h
marks_most (Some before) (Some now) good h = (h.0, inr (good, h.1), h.2)

pub not_on : (o : Option ℕ) (d : ℕ) → o ≡ None → o ≡ Some d → ⊥
not_on o d h k = let z : None ≡ Some d = sym h ∙ k in let u : ⊥ = cc in u

pub if_length : (columns : List Column) (c : ℕ) (good : Bool) → length (if good then columns else set columns c column.Dead) ≡ length columns
if_length columns c true = refl
if_length columns c false = length-set columns c column.Dead

pub one_device : {a b : ℕ} → Some a ≡ Some b → a ≡ b
one_device h = cc

module _ {D : Type 0} (g : Ghosts D) (bytes : List ℕ) where
  pub marked-none : (columns : List Column) (ds : List (Option D)) → AreMarked g 0 bytes columns columns ds ds
  marked-none columns ds = record {
    frame = changes-refl g (IsMapSector columns) ds;
    dies = dies-refl (LosesDevice g columns ds ds) columns;
    safe = λ c d x below. absurd (omega (arith, below));
    once = λ c d below. absurd (omega (arith, below));
    others = λ d never. refl;
    kept = λ c h. refl;
    told = λ d. none_marks (calls_of g ds d);
  }

  -- the next column has no device
  pub marked-skip : (n : ℕ) (columns after : List Column) (old new : List (Option D)) → ((d : ℕ) → HasDeviceOn after n d → ⊥) → AreMarked g n bytes columns after old new → AreMarked g (n + 1) bytes columns after old new
  marked-skip n columns after old new not was = record {
    frame = was.frame;
    dies = was.dies;
    safe = λ c d x below on there. elim (cases_lt c n) [
      | inl lt ↦ was.safe c d x lt on there
      | inr le ↦ let e : c ≡ n = omega (arith, below, le) in absurd (not d (subst (λ z. HasDeviceOn after z d) e on))
    ];
    once = λ c d below on. elim (cases_lt c n) [
      | inl lt ↦ was.once c d lt on
      | inr le ↦ let e : c ≡ n = omega (arith, below, le) in absurd (not d (ap device_set (was.kept n (omega arith)) ∙ subst (λ z. HasDeviceOn columns z d) e on))
    ];
    others = λ d never. was.others d (λ c below. never c (omega (arith, below)));
    kept = λ c h. was.kept c (omega (arith, h));
    told = was.told;
  }

  module _ (n : ℕ) (columns mid after : List Column) (old dev new : List (Option D)) (can : CanBeMarked g columns old) (was : AreMarked g n bytes columns mid old dev) (step : MarksColumn g n bytes mid after dev new) where
    abbrev d : ℕ
    d = step.device

    here : HasDeviceOn columns n d
    here = ap device_set (sym (was.kept n (omega arith))) ∙ step.on

    within : n < length mid
    within = on_within mid n d step.on

    -- the device had no call before
    fresh : device_at dev d ≡ device_at old d
    fresh = was.others d (λ c below other. let e = can.apart c n d other here in omega (arith, below, e))

    moved : Changes g (IsMapSector columns) dev new
    moved = changes-more g (λ k m. (k ≡ d) × (m ≡ 1)) (IsMapSector columns) dev new (λ k m h. ((n, here ∙ ap Some (sym h.0)), h.1)) step.marking.frame

    fails : step.good ≡ false → LosesDevice g columns old new n
    fails bad = record { device = d; had = here; rose = rises-wider g (IsMapSector columns) (IsMapSector columns) old dev new new d was.frame (step.marking.cause bad) (changes-refl g (IsMapSector columns) new) }

    dies : Dies (LosesDevice g columns old new) columns after
    dies =
        dies-then (LosesDevice g columns old new) columns mid after
        (dies-more (LosesDevice g columns old dev) (LosesDevice g columns old new) columns mid
        (λ c f. record { device = f.device; had = f.had; rose = rises-wider g (IsMapSector columns) (IsMapSector columns) old old dev new f.device (changes-refl g (IsMapSector columns) old) f.rose moved }) was.dies)
        (subst (Dies (LosesDevice g columns old new) mid) (sym step.after_is) (if_dies (LosesDevice g columns old new) mid n step.good within fails))

    state : (c : ℕ) → c < n → slice_get after c ≡ slice_get mid c
    state c below = ap (λ (l : List Column). slice_get l c) step.after_is ∙ if_other mid n c step.good (λ e. omega (arith, below, e))

    -- an earlier column's device, by the columns as they were or are
    was-on : (c k : ℕ) → HasDeviceOn mid c k → HasDeviceOn columns c k
    was-on c k on = elim (was.dies.each c) [
      | inl same ↦ ap device_set (sym same) ∙ on
      | inr dead ↦ absurd (let z : None ≡ Some k = ap device_set (sym dead.0) ∙ on in let u : ⊥ = cc in u)
    ]

    apart-from : (c k : ℕ) → c < n → HasDeviceOn columns c k → k ≢ d
    apart-from c k below on e = let z = can.apart c n d (on ∙ ap Some e) here in omega (arith, below, z)

    -- its calls
    marks : MarksOn (calls_of g old d) (calls_of g new d) step.good
    marks = subst (λ o. MarksOn o (calls_of g new d) step.good) (ap (λ o. option_and_then g.calls o) fresh) step.marking.told

    good_is : has_device (slice_get after n) ≡ step.good
    good_is = ap (λ (l : List Column). has_device (slice_get l n)) step.after_is ∙ if_has mid n d step.good within step.on

    pub marked-more : AreMarked g (n + 1) bytes columns after old new
    marked-more = record {
      frame = changes-then g (IsMapSector columns) old dev new was.frame moved;
      dies = dies;
      safe = λ c k x below on there. elim (cases_lt c n) [
        | inl lt ↦
            let in-mid : HasDeviceOn mid c k = ap device_set (sym (state c lt)) ∙ on in
            was.safe c k x lt in-mid (sym (step.marking.others k (apart-from c k lt (was-on c k in-mid))) ∙ there)
        | inr le ↦
            let e : c ≡ n = omega (arith, below, le) in
            let on-n : HasDeviceOn after n k = subst (λ z. HasDeviceOn after z k) e on in
            let good : step.good ≡ true = if_on mid n k step.good within (subst (λ (l : List Column). HasDeviceOn l n k) step.after_is on-n) in
            let same : d ≡ k = one_device (sym step.on ∙ ap (λ (l : List Column). device_set (slice_get l n)) (ap (λ b. if b then mid else set mid n column.Dead) (sym good) ∙ sym step.after_is) ∙ on-n) in
            step.marking.safe good x (ap (device_at new) same ∙ there)
      ];
      once = λ c k below on. elim (cases_lt c n) [
        | inl lt ↦
            subst (λ o. MarksOn (calls_of g old k) o (has_device (slice_get after c))) (ap (λ o. option_and_then g.calls o) (sym (step.marking.others k (apart-from c k lt on))))
            (subst (λ o. MarksOn (calls_of g old k) (calls_of g dev k) (has_device o)) (sym (state c lt)) (was.once c k lt on))
        | inr le ↦
            let e : n ≡ c = omega (arith, below, le) in
            let same : d ≡ k = one_device (sym here ∙ subst (λ z. HasDeviceOn columns z k) (sym e) on) in
            subst (λ z. MarksOn (calls_of g old k) (calls_of g new k) (has_device (slice_get after z))) e
            (subst (λ b. MarksOn (calls_of g old k) (calls_of g new k) b) (sym good_is)
            (subst (λ j. MarksOn (calls_of g old j) (calls_of g new j) step.good) same marks))
      ];
      others = λ k never. step.marking.others k (λ e. never n (omega arith) (here ∙ ap Some (sym e))) ∙ was.others k (λ c below. never c (omega (arith, below)));
      kept = λ c h. ap (λ (l : List Column). slice_get l c) step.after_is ∙ (if_other mid n c step.good (λ e. omega (arith, h, e)) ∙ was.kept c (omega (arith, h)));
      told = λ k. elim (cases_eq k d) [
        | inl e ↦ subst (λ j. MarksAtMost (calls_of g old j) (calls_of g new j)) (sym e) (marks_most (calls_of g old d) (calls_of g new d) step.good marks)
        | inr ne ↦ subst (MarksAtMost (calls_of g old k)) (ap (λ o. option_and_then g.calls o) (sym (step.marking.others k ne))) (was.told k)
      ];
    }

  -- the device of the next column has its sectors
  pub still_sized : (n d : ℕ) (columns mid : List Column) (old dev : List (Option D)) → CanBeMarked g columns old → AreMarked g n bytes columns mid old dev → HasDeviceOn mid n d → 2 ≤ size_of g dev d
  still_sized n d columns mid old dev can was on =
      let s = can.sized n d (ap device_set (sym (was.kept n (omega arith))) ∙ on) in
      let e = changes_size g (IsMapSector columns) old dev d was.frame in omega (arith, s, e)

  -- whatever a stop leaves of a device in use, it holds the bytes
  pub left_marked : (columns after : List Column) (old new : List (Option D)) → length after ≡ length columns → AreMarked g (length columns) bytes columns after old new → g.tells
      → (c d : ℕ) → HasDeviceOn after c d → (x : D) → device_at new d ≡ Some x → (l : Left) → g.left x ≡ Some l → (held : List ℕ) → MayHold l 1 held → held ≡ bytes
  left_marked columns after old new same was told c d on x there l is held may =
      let safe = was.safe c d x (let w = on_within after c d on in omega (arith, w, same)) on there in
      go (safe.left l is) (safe.held told) may
    where
      go : (l.settled ≡ g.sector x) × (l.logged ≡ []) → g.sector x 1 ≡ bytes → MayHold l 1 held → held ≡ bytes
      go p q (inl e) = e ∙ ap (λ f. f 1) p.0 ∙ q
      go p q (inr has) = absurd (let z = subst (λ (es : List Logged). Contains es (record { sector = 1; bytes = held })) p.1 has in let b = z.1 in omega (arith, b))
