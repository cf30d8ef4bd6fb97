-- What a column of an opened array was as the labels were judged.
use Rattle.std.specs.Prelude.{◌≡◌, ◌⊎◌, ◌≤◌, ℕ, false, List, Some, slice_get, slice_index}
use Rattle.std.proofs.Common.{ap, subst, inl, inr, ◌∙◌}
use Rattle.eng_cols.specs.declared.column.Column.{Column}
use Rattle.eng_cols.specs.declared.column.Column.TheVariants as column
use Rattle.eng_cols.specs.Cols.{device_set, HasDeviceOn}
use Rattle.raid_conf.specs.Layouts.{shape_of}
use Rattle.top_bay.specs.Asked.{Asked}
use Rattle.top_open.specs.declared.fronts.Front.{Front}
use Rattle.top_open.specs.Opening.{Opened}
use Rattle.top_open.specs.Plan.{IsPlan, sectors_for}
use Rattle.top_open.specs.Seats.{is_same}
use Rattle.top_open.proofs.Filled.{WasJudged, live, newest-is, rows-are, spread, was}
use Rattle.top_open.proofs.LargeEnough.{large_devices}
use Rattle.top_duty.specs.Opening.{filling_at, needs_of, plan_of}
use Rattle.top_duty.specs.Steps.{present_of}
use Rattle.top_duty.proofs.Deadened.{left_get, left_live, small_get, small_live}
use Rattle.top_duty.proofs.Opens.{Stages}

module _ (k : Asked) (sizes : List ℕ) (fronts : List Front) (o : Opened) (st : Stages k sizes fronts o) where
  -- as the labels were judged, without the column that is filling
  abbrev pub judged : WasJudged (needs_of k) (plan_of k.conf) (present_of k.conf) sizes fronts st.filled
  judged = was (needs_of k) (plan_of k.conf) (present_of k.conf) sizes fronts st.filled st.is_filled

  abbrev needs : ℕ
  needs = sectors_for (plan_of k.conf) st.filled.rows

  pub rows_are : st.filled.rows ≡ o.rows
  rows_are = ap (λ (x : Opened). x.rows) st.is_fronted ∙ ap (λ (x : Opened). x.rows) st.is

  pub newest_are : judged.judged.newest ≡ o.newest
  newest_are =
      newest-is (needs_of k) (plan_of k.conf) (present_of k.conf) sizes fronts st.filled st.is_filled
      ∙ (ap (λ (x : Opened). x.newest) st.is_fronted ∙ ap (λ (x : Opened). x.newest) st.is)

  pub seats_are : judged.judged.seats ≡ o.seats
  seats_are = ap (λ (x : Opened). x.seats) judged.filled ∙ (ap (λ (x : Opened). x.seats) st.is_fronted ∙ ap (λ (x : Opened). x.seats) st.is)

  pub judged_rows : judged.judged.rows ≡ o.rows
  judged_rows = rows-are (needs_of k) (plan_of k.conf) (present_of k.conf) sizes fronts st.filled st.is_filled ∙ rows_are

  -- the devices of the columns that the action doesn't name are large enough
  others_large : IsPlan (plan_of k.conf) → (c d : ℕ) → HasDeviceOn st.filled.columns c d → is_same (needs_of k).excused c ≡ false → needs ≤ slice_index sizes d
  others_large plan c d at other =
      subst (λ (n : ℕ). sectors_for (plan_of k.conf) n ≤ slice_index sizes d)
      (rows-are (needs_of k) (plan_of k.conf) (present_of k.conf) sizes fronts st.filled st.is_filled)
      (large_devices (needs_of k) (plan_of k.conf) (present_of k.conf) sizes fronts judged.judged plan judged.is c d
      (live (needs_of k) (plan_of k.conf) (present_of k.conf) sizes fronts st.filled st.is_filled c d at) other)

  -- a column that has a device was live on it, and that is large enough
  pub had : IsPlan (plan_of k.conf) → (c d : ℕ) → HasDeviceOn o.columns c d → (slice_get judged.judged.columns c ≡ Some (column.Live d)) × (needs ≤ slice_index sizes d)
  had plan c d at =
      let y = shape_of k.conf st.fronted.rows in
      let left : HasDeviceOn st.fronted.columns c d = left_live y st.fronted.columns (filling_at st.fronted.columns) c d (ap (λ (x : Opened). device_set (slice_get x.columns c)) st.is ∙ at) in
      let small = small_live (needs_of k).excused sizes needs st.filled.columns (others_large plan) c d (ap (λ (x : Opened). device_set (slice_get x.columns c)) st.is_fronted ∙ left) in
      (live (needs_of k) (plan_of k.conf) (present_of k.conf) sizes fronts st.filled st.is_filled c d small.0, small.1)

  -- one that isn't dead was so with the column that is filling
  filled_at : (c : ℕ) (x : Column) → slice_get o.columns c ≡ Some x → (x ≡ column.Dead) ⊎ (slice_get st.filled.columns c ≡ Some x)
  filled_at c x at = elim (left_get (shape_of k.conf st.fronted.rows) st.fronted.columns (filling_at st.fronted.columns) c x (ap (λ (z : Opened). slice_get z.columns c) st.is ∙ at)) [
    | inl dead ↦ inl dead
    | inr left ↦ small_get (needs_of k).excused sizes needs st.filled.columns c x (ap (λ (z : Opened). slice_get z.columns c) st.is_fronted ∙ left)
  ]

  -- a spread one was spread
  pub was_spread : (c : ℕ) → slice_get o.columns c ≡ Some column.Spread → slice_get judged.judged.columns c ≡ Some column.Spread
  was_spread c at = elim (filled_at c column.Spread at) [
    | inl other ↦ absurd (let z : ⊥ = cc other in z)
    | inr here ↦ spread (needs_of k) (plan_of k.conf) (present_of k.conf) sizes fronts st.filled st.is_filled c here
  ]
