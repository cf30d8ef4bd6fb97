-- How an array is opened whose columns' disks have no label.
use Rattle.std.specs.Prelude.{◌≡◌, ◌⊎◌, ◌<◌, ◌==◌, ◌&&◌, ◌||◌, ℕ, zero, suc, Bool, true, false, not, List, [], ◌∷◌, length, take, map, Option, Some, None, Result, Ok, Err, if◌then◌else◌, slice_get, slice_index, slice_index_or}
use Rattle.std.specs.List.{list_all}
use Rattle.std.proofs.Common.{arith, refl, sym, ap, subst, inl, inr, ◌∙◌}
use Rattle.std.proofs.lemmas.Bool.{eqb-true}
use Rattle.lay_core.specs.Layout.{Shape}
use Rattle.eng_cols.specs.declared.column.Column.{Column}
use Rattle.eng_cols.specs.declared.column.Column.TheVariants as column
use Rattle.eng_cols.specs.Cols.{is_set_filling, passes}
use Rattle.raid_conf.specs.Layouts.{shape_of}
use Rattle.raid_label.specs.declared.label.Label.{Label}
use Rattle.raid_text.specs.Text.{Text}
use Rattle.top_bay.specs.Asked.{Asked}
use Rattle.top_open.specs.declared.fault.OpenFault.{OpenFault}
use Rattle.top_open.specs.declared.fronts.Front.{Front}
use Rattle.top_open.specs.declared.fronts.Front.TheVariants.{Away, Unread, Held}
use Rattle.top_open.specs.declared.plan.Needs.{Needs}
use Rattle.top_open.specs.declared.plan.Plan.{Plan}
use Rattle.top_open.specs.Labels.{newest_below}
use Rattle.top_open.specs.Opening.{Opened, filled_by, judged_in, small_in, unlabelled_in, unlabelled_refusal}
use Rattle.top_open.specs.Plan.{is_present, sectors_for}
use Rattle.top_open.specs.Seats.{columns_below, is_unread}
use Rattle.top_open.specs.Steps.{is_blank, is_unlabelled, labelled_if, read_disk}
use Rattle.top_open.proofs.Filled.{WasJudged, was}
use Rattle.top_open.proofs.LargeEnough.{columns_below-at}
use Rattle.top_open.proofs.OwnDevices.{columns_below-get, not_refused}
use Rattle.top_duty.specs.Opening.{filling_at, needs_of, opened_by, plan_of}
use Rattle.top_duty.specs.Steps.{is_named, left_at, present_of, without_small}
use Rattle.top_duty.proofs.Opens.{Stages, stages}
use Rattle.raid_top.proofs.Filling.{filling_passes}

and_both : (a b : Bool) → a ≡ true → b ≡ true → (a && b) ≡ true
and_both true b one two = two
and_both false b one two = absurd (let z : ⊥ = cc one in z)

or_right : (a b : Bool) → b ≡ true → (a || b) ≡ true
or_right true b h = refl
or_right false b h = h

-- ## Blank disks

pub all_zero : (bytes : List ℕ) → ((j : ℕ) → j < length bytes → slice_index bytes j ≡ 0) → list_all (λ b. b == 0) bytes ≡ true
all_zero [] h = refl
all_zero (x ∷ bytes) h =
    let first : x ≡ 0 = h 0 (omega arith) in
    and_both (x == 0) (list_all (λ b. b == 0) bytes) (subst (λ n. (n == 0) ≡ true) (sym first) refl) (all_zero bytes (λ j lt. h (suc j) (omega (arith, lt))))

blank_fronts : (n : ℕ) (fronts : List Front) → ((d : ℕ) (f : Front) → d < n → slice_get fronts d ≡ Some f → is_blank f ≡ true) → list_all is_blank (take n fronts) ≡ true
blank_fronts zero fronts h = refl
blank_fronts (suc n) [] h = refl
blank_fronts (suc n) (f ∷ fronts) h =
    and_both (is_blank f) (list_all is_blank (take n fronts)) (h 0 f (omega arith) refl) (blank_fronts n fronts (λ d e lt at. h (suc d) e (omega (arith, lt)) at))

pub unlabelled : (q : Needs) (n : ℕ) (fronts : List Front) → ((d : ℕ) (f : Front) → d < n → slice_get fronts d ≡ Some f → is_blank f ≡ true) → is_unlabelled q n fronts ≡ true
unlabelled q n fronts h = or_right q.plain (list_all is_blank (take n fronts)) (blank_fronts n fronts h)

-- a disk that is absent has no name
pub absent_name : (disks : List Text) (c : ℕ) → c < length disks → is_present (map is_named disks) c ≡ false → slice_get disks c ≡ Some []
absent_name [] c lt h = absurd (omega (arith, lt))
absent_name ([] ∷ disks) zero lt h = refl
absent_name ((b ∷ name) ∷ disks) zero lt h = absurd (go (length (b ∷ name) == 0) refl h)
  where
    go : (v : Bool) → (length (b ∷ name) == 0) ≡ v → not v ≡ false → ⊥
    go true e h = let none : length (b ∷ name) ≡ 0 = eqb-true (length (b ∷ name)) 0 e in omega (arith, none)
    go false e h = let z : true ≡ false = h in let u : ⊥ = cc z in u
absent_name (name ∷ disks) (suc c) lt h = absent_name disks c (omega (arith, lt)) h

-- ## A column's own disk

unread_is : (f : Option Front) → is_unread f ≡ true → f ≡ Some Unread
unread_is None h = absurd (let z : ⊥ = cc h in z)
unread_is (Some Away) h = absurd (let z : ⊥ = cc h in z)
unread_is (Some Unread) h = refl
unread_is (Some (Held bytes)) h = absurd (let z : ⊥ = cc h in z)

abbrev disk_if : (unread there : Bool) → ℕ → Column
disk_if unread there c = if unread then column.Dead else (if there then column.Live c else column.Dead)

unfilled : (unread there : Bool) (c d m : ℕ) → disk_if unread there c ≡ column.Filling d m → ⊥
unfilled true there c d m h = cc h
unfilled false true c d m h = cc h
unfilled false false c d m h = cc h

-- the column has its own disk; or it is dead, as that is absent, or couldn't be read
abbrev pub OwnOr : List Bool → List Front → List Column → ℕ → Type 0
OwnOr present fronts columns c = (slice_get columns c ≡ Some (column.Live c))
    ⊎ ((slice_get columns c ≡ Some column.Dead) × ((is_present present c ≡ false) ⊎ (slice_get fronts c ≡ Some Unread)))

own_or : (present : List Bool) (fronts : List Front) (columns : List Column) (c : ℕ) → slice_get columns c ≡ Some (read_disk present fronts c) → OwnOr present fronts columns c
own_or present fronts columns c at = go (is_unread (slice_get fronts c)) (is_present present c) refl refl at
  where
    go : (unread there : Bool) → is_unread (slice_get fronts c) ≡ unread → is_present present c ≡ there → slice_get columns c ≡ Some (disk_if unread there c)
        → (slice_get columns c ≡ Some (column.Live c)) ⊎ ((slice_get columns c ≡ Some column.Dead) × ((is_present present c ≡ false) ⊎ (slice_get fronts c ≡ Some Unread)))
    go true there one two at = inr (at, inr (unread_is (slice_get fronts c) one))
    go false true one two at = inl at
    go false false one two at = inr (at, inl two)

-- ## The opening

module _ (k : Asked) (sizes : List ℕ) (fronts : List Front) (o : Opened) (opens : opened_by k sizes fronts ≡ Ok o) (unnamed : (needs_of k).excused ≡ None) (blank : is_unlabelled (needs_of k) (length (present_of k.conf)) fronts ≡ true) where
  abbrev st : Stages k sizes fronts o
  st = stages k sizes fronts o opens

  abbrev q : Needs
  q = needs_of k

  abbrev p : Plan
  p = plan_of k.conf

  abbrev present : List Bool
  present = present_of k.conf

  abbrev y : Shape
  y = shape_of k.conf st.fronted.rows

  abbrev was_so : WasJudged q p present sizes fronts st.filled
  was_so = was q p present sizes fronts st.filled st.is_filled

  abbrev own : List Column
  own = columns_below (read_disk present fronts) (length present)

  of_judged : (x : Opened) → judged_in q p present sizes fronts ≡ Ok x → unlabelled_in q p present sizes fronts ≡ Ok x
  unfolding judged_in
  of_judged x h = go (is_unlabelled q (length present) fronts) (newest_below fronts (length fronts)) blank h
    where
      go : (b : Bool) (n : Option Label) → b ≡ true → (if b then unlabelled_in q p present sizes fronts else labelled_if q p present sizes fronts n) ≡ Ok x → unlabelled_in q p present sizes fronts ≡ Ok x
      go true n e h = h
      go false n e h = absurd (let z : ⊥ = cc e in z)

  as_judged : (x : Opened) → unlabelled_in q p present sizes fronts ≡ Ok x → (x.newest ≡ None) × (x.columns ≡ own)
  unfolding unlabelled_in
  as_judged x h =
      let made = not_refused (small_in None false sizes _ _ _) _ x (not_refused (unlabelled_refusal q) _ x h) in
      (sym (ap newest_of made), sym (ap columns_of made))
    where
      columns_of : Result Opened OpenFault → List Column
      columns_of (Ok z) = z.columns
      columns_of (Err f) = []

      newest_of : Result Opened OpenFault → Option Label
      newest_of (Ok z) = z.newest
      newest_of (Err f) = None

  judged : (was_so.judged.newest ≡ None) × (was_so.judged.columns ≡ own)
  judged = as_judged was_so.judged (of_judged was_so.judged was_so.is)

  filled_is : st.filled.columns ≡ own
  filled_is = sym (ap (λ (x : Opened). x.columns) was_so.filled) ∙ (ap (λ (n : Option Label). filled_by n was_so.judged.columns) judged.0 ∙ judged.1)

  fronted_is : st.fronted.columns ≡ own
  fronted_is = sym (ap (λ (x : Opened). x.columns) st.is_fronted) ∙ (ap (λ (e : Option ℕ). without_small e sizes (sectors_for p st.filled.rows) st.filled.columns) unnamed ∙ filled_is)

  own_unfilled : (c : ℕ) → passes is_set_filling (slice_get own c) ≡ true → ⊥
  own_unfilled c h = go (slice_get own c) refl h
    where
      go : (x : Option Column) → slice_get own c ≡ x → passes is_set_filling x ≡ true → ⊥
      go None at h = let z : ⊥ = cc h in z
      go (Some (column.Live d)) at h = let z : ⊥ = cc h in z
      go (Some column.Dead) at h = let z : ⊥ = cc h in z
      go (Some (column.Filling d m)) at h = unfilled (is_unread (slice_get fronts c)) (is_present present c) c d m (columns_below-get (read_disk present fronts) (length present) c (column.Filling d m) at)
      go (Some column.Spread) at h = let z : ⊥ = cc h in z

  none_left : filling_at st.fronted.columns ≡ None
  none_left = go (filling_at st.fronted.columns) refl
    where
      go : (f : Option ℕ) → filling_at st.fronted.columns ≡ f → f ≡ None
      go None e = refl
      go (Some c) e =
          absurd (own_unfilled c (ap (λ (l : List Column). passes is_set_filling (slice_get l c)) (sym fronted_is) ∙ filling_passes st.fronted.columns c e))

  pub columns_are : o.columns ≡ own
  columns_are = sym (ap (λ (x : Opened). x.columns) st.is) ∙ (ap (λ (f : Option ℕ). left_at y st.fronted.columns f) none_left ∙ fronted_is)

  pub newest_is : o.newest ≡ None
  newest_is = sym (ap (λ (x : Opened). x.newest) was_so.filled ∙ (ap (λ (x : Opened). x.newest) st.is_fronted ∙ ap (λ (x : Opened). x.newest) st.is)) ∙ judged.0

  pub columns_own : (c : ℕ) → c < length present → OwnOr present fronts o.columns c
  columns_own c lt = own_or present fronts o.columns c (ap (λ (l : List Column). slice_get l c) columns_are ∙ columns_below-at (read_disk present fronts) (length present) c lt)
