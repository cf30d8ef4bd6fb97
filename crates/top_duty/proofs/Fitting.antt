-- An array that was opened over the devices that were looked at is fit for what is to be done.
use Rattle.std.specs.Prelude.{◌≡◌, ◌+◌, ◌*◌, ◌<◌, ◌≤◌, ℕ, true, List, length, get_or, All, Option, Some, Ok, slice_get, slice_index}
use Rattle.std.proofs.Common.{arith, sym, ap, ◌∙◌}
use Rattle.std.proofs.lemmas.Option.{slice_get-get_or}
use Rattle.blk_disk.specs.Devices.{size_of}
use Rattle.blk_disk.specs.declared.disk.Disk.{Ghosts}
use Rattle.eng_cols.specs.declared.column.Column.{Column}
use Rattle.eng_cols.specs.declared.column.Column.TheVariants as column
use Rattle.eng_cols.specs.Cols.{device_set, HasDeviceOn}
use Rattle.eng_cols.specs.Laws.{HaveSpares}
use Rattle.raid_conf.specs.Form.{IsConf}
use Rattle.raid_conf.specs.Layouts.{shape_of}
use Rattle.raid_label.specs.declared.label.Label.{Label}
use Rattle.top_bay.specs.Asked.{Asked}
use Rattle.top_bay.specs.Views.{IsWithinLimits}
use Rattle.top_open.specs.declared.fronts.Front.{Front}
use Rattle.top_open.specs.Opening.{Opened, opened_seen}
use Rattle.top_open.specs.Plan.{sectors_for}
use Rattle.top_open.proofs.Columns.{numbered_devices}
use Rattle.top_open.proofs.Filled.{WasJudged}
use Rattle.top_open.proofs.Newest.{newest_may_follow}
use Rattle.top_open.proofs.OneSpread.{one_spread}
use Rattle.top_open.proofs.OwnDevices.{own_devices}
use Rattle.top_rounds.specs.Labels.{IsLabelFor, IsNumbered}
use Rattle.top_duty.specs.declared.duty.Duty as declared_duty
use Rattle.top_duty.specs.declared.duty.Duty.TheVariants as duty
use Rattle.eng_cols.specs.Stripes.{states_of}
use Rattle.top_duty.specs.Fit.{IsFit}
use Rattle.top_duty.specs.Opening.{needs_of, opened_by, plan_of, sizes_of}
use Rattle.top_duty.specs.Steps.{present_of}
use Rattle.top_duty.specs.Views.{IsDutyOver, IsFitFor, IsReady, views_of}
use Rattle.top_duty.proofs.Labels.{named_columns}
use Rattle.top_duty.proofs.Opens.{Stages, opened_count, opened_filling, opened_left, opened_rows, opened_spread, present_count, stages}
use Rattle.top_duty.proofs.Places.{spare_by}
use Rattle.top_duty.proofs.Setting.{spread_was}
use Rattle.top_duty.proofs.Sized.{size_at}
use Rattle.top_duty.proofs.Stages.{had, judged, newest_are, rows_are, was_spread}
use Rattle.top_duty.proofs.Starting.{may_start}
use Rattle.top_duty.proofs.Tables.{plan_is}

module _ {D : Type 0} (g : Ghosts D) (k : Asked) (o : Opened) (devices : List (Option D)) (fronts : List Front) (is : IsConf k.conf) (opens : opened_by k (sizes_of g.size devices) fronts ≡ Ok o) where
  abbrev sizes : List ℕ
  sizes = sizes_of g.size devices

  abbrev st : Stages k sizes fronts o
  st = stages k sizes fronts o opens

  abbrev was : WasJudged (needs_of k) (plan_of k.conf) (present_of k.conf) sizes fronts st.filled
  was = judged k sizes fronts o st

  -- a column's device was live on it as the labels were judged, and has room for the rows
  live_was : (c d : ℕ) → HasDeviceOn o.columns c d → slice_get was.judged.columns c ≡ Some (column.Live d)
  live_was c d at = (had k sizes fronts o st (plan_is k.conf is) c d at).0

  large : (c d : ℕ) → HasDeviceOn o.columns c d → 64 + o.rows * k.conf.unit ≤ size_of g devices d
  large c d at =
      let enough : sectors_for (plan_of k.conf) st.filled.rows ≤ slice_index sizes d = (had k sizes fronts o st (plan_is k.conf is) c d at).1 in
      let need : sectors_for (plan_of k.conf) st.filled.rows ≡ 64 + o.rows * k.conf.unit = ap (λ (n : ℕ). 64 + n * k.conf.unit) (rows_are k sizes fronts o st) in
      omega (arith, need, enough, size_at g devices d)

  spares : HaveSpares (shape_of k.conf o.rows) (states_of (shape_of k.conf o.rows) o.columns)
  spares c s done e within =
      let here : slice_get was.judged.columns c ≡ Some column.Spread = was_spread k sizes fronts o st c (spread_was (shape_of k.conf o.rows) o.columns c done e) in
      spare_by k.conf.level k.conf.columns k.conf.unit o.rows k.conf.design ((one_spread (needs_of k) (plan_of k.conf) (present_of k.conf) sizes fronts was.judged was.is c c here here).1) is.design s

  -- a device is a column's disk or a spare
  device_numbered : (c d : ℕ) → HasDeviceOn o.columns c d → d < length o.columns + 8
  device_numbered c d at = omega (arith, numbered_devices (needs_of k) (plan_of k.conf) (present_of k.conf) sizes fronts was.judged was.is c d (live_was c d at), present_count k.conf is, opened_count k sizes fronts o is opens, is.spares_most)

  numbered : All (IsNumbered (length o.columns)) o.columns
  numbered c z lt = go (get_or o.columns c z) (slice_get-get_or o.columns c z lt)
    where
      go : (x : Column) → slice_get o.columns c ≡ Some x → IsNumbered (length o.columns) x
      go (column.Live d) at = device_numbered c d (ap device_set at)
      go column.Dead at = tt
      go (column.Filling d m) at = device_numbered c d (ap device_set at)
      go column.Spread at = tt

  newest : (l : Label) → o.newest ≡ Some l → IsLabelFor o.columns l × ((needs_of k).writes ≡ true → l.counter ≤ 4294901760)
  newest l at =
      let follows = newest_may_follow (needs_of k) (plan_of k.conf) (present_of k.conf) sizes fronts was.judged was.is l (newest_are k sizes fronts o st ∙ at) in
      (record { held = follows.0; count = named_columns k sizes fronts o opens l at ∙ (present_count k.conf is ∙ sym (opened_count k sizes fronts o is opens)) }, follows.1)

  pub is_fit : IsFit g k o devices
  is_fit = record {
    entries = opened_count k sizes fronts o is opens;
    filling = opened_filling k sizes fronts o is opens;
    left = opened_left k sizes fronts o is opens;
    spread = opened_spread k sizes fronts o is opens;
    spares = spares;
    apart = λ c e d one two. own_devices (needs_of k) (plan_of k.conf) (present_of k.conf) sizes fronts was.judged was.is c e d (live_was c d one) (live_was e d two);
    sized = λ c d at. let enough = large c d at in omega (arith, enough);
    large = large;
    numbered = numbered;
    rows = opened_rows k sizes fronts o is opens;
    newest = newest;
  }

-- so is what is to be done
pub fit_for : {D : Type 0} (g : Ghosts D) (k : Asked) (devices : List (Option D)) (fronts : List Front) (d : declared_duty.Duty) → IsWithinLimits k
    → IsDutyOver k (sizes_of g.size devices) fronts d → IsFitFor g k devices d
fit_for g k devices fronts (duty.OnArray r) within over =
    let o = opened_seen r.opened in
    let ready : IsReady k (sizes_of g.size devices) fronts o r.start (views_of r.joined.items) = over.1.ready in
    (is_fit g k o devices fronts within.conf ready.opened, may_start g k o devices fronts within ready.opened r.start ready.starts ready.may.alone)
fit_for g k devices fronts (duty.Shows o) within over = is_fit g k (opened_seen o) devices fronts within.conf over.1
fit_for g k devices fronts duty.OneLabel within over = tt
fit_for g k devices fronts duty.PrintConf within over = tt
