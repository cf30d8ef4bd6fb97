-- An array without labels has no column that is rebuilt, and none that is filling.
use Rattle.std.specs.Prelude.{◌≡◌, ℕ, true, false, List, count_by, Option, Some, None, Ok, slice_get}
use Rattle.std.proofs.Common.{refl, sym, ap, ◌∙◌}
use Rattle.eng_array.specs.declared.start.Start.{Start}
use Rattle.eng_cols.specs.Cols.{is_set_filling, passes}
use Rattle.eng_cols.specs.declared.column.Column.{Column}
use Rattle.eng_cols.specs.declared.column.Column.TheVariants as column
use Rattle.raid_conf.specs.declared.conf.Conf.{Conf}
use Rattle.raid_conf.specs.Layouts.{shape_of}
use Rattle.top_bay.specs.Asked.{Asked}
use Rattle.top_labelled.proofs.Lists.{none-passing}
use Rattle.top_open.proofs.Filled.{filling}
use Rattle.top_open.specs.Opening.{Opened}
use Rattle.top_open.specs.Plan.{sectors_for}
use Rattle.top_open.specs.declared.fronts.Front.{Front}
use Rattle.top_words.specs.Asked.{Action, Io, Sweep, Show, ShowMap, Init, Check, Rewrite, Print, Fail, ShowLabel, Label as Labels, Rebuild, Resume}
use Rattle.top_duty.proofs.Labels.{has_labels}
use Rattle.top_duty.proofs.Opens.{Stages, stages}
use Rattle.top_duty.specs.Opening.{filling_at, needs_for, needs_of, opened_by, plan_of}
use Rattle.top_duty.specs.Steps.{present_of}
use Rattle.top_duty.specs.Start.{start_in}
use Rattle.raid_top.specs.Served.{AreUnfilledIf}
use Rattle.raid_top.proofs.Filling.{large_filling, left_filling}
use Rattle.raid_label.specs.declared.label.Label.{Label}
use Rattle.top_duty.proofs.Words.{start_by}

-- ## A rebuild needs labels

start_needs : (action : Action) (comp : Option ℕ) (conf : Conf) (o : Opened) (sizes : List ℕ) (fronts : List Front) (s : Start) → start_by action comp conf o sizes fronts ≡ Some s → (needs_for action comp).labels ≡ true
start_needs (Rebuild in_place name limit beside workers mapped) comp conf o sizes fronts s e = refl
start_needs (Resume limit beside workers mapped) comp conf o sizes fronts s e = refl
start_needs (Io beside workers mapped) comp conf o sizes fronts s e = cc e
start_needs (Sweep seed clients ops workers mapped) comp conf o sizes fronts s e = cc e
start_needs Show comp conf o sizes fronts s e = cc e
start_needs ShowMap comp conf o sizes fronts s e = cc e
start_needs Init comp conf o sizes fronts s e = cc e
start_needs Check comp conf o sizes fronts s e = cc e
start_needs Rewrite comp conf o sizes fronts s e = cc e
start_needs Print comp conf o sizes fronts s e = cc e
start_needs (Fail name) comp conf o sizes fronts s e = refl
start_needs (ShowLabel name) comp conf o sizes fronts s e = cc e
start_needs (Labels serial) comp conf o sizes fronts s e = cc e

-- no column of an array without labels is rebuilt
pub none_unlabelled : (k : Asked) (sizes : List ℕ) (fronts : List Front) (o : Opened) (start : Option Start) → opened_by k sizes fronts ≡ Ok o → start ≡ start_in k o sizes fronts → o.newest ≡ None → start ≡ None
none_unlabelled k sizes fronts o None opened starts none = refl
none_unlabelled k sizes fronts o (Some s) opened starts none =
    let l = has_labels k sizes fronts o opened (start_needs k.command.action k.comp k.conf o sizes fronts s (sym starts)) in
    absurd (let z : ⊥ = cc (l.1, none) in z)

-- ## A column is filling by the newest label

module _ (k : Asked) (sizes : List ℕ) (fronts : List Front) (o : Opened) (opened : opened_by k sizes fronts ≡ Ok o) where
  abbrev st : Stages k sizes fronts o
  st = stages k sizes fronts o opened

  filling_label : (c d m : ℕ) → slice_get o.columns c ≡ Some (column.Filling d m) → (l : Label) × (o.newest ≡ Some l)
  filling_label c d m at =
      let left : slice_get st.fronted.columns c ≡ Some (column.Filling d m) =
      left_filling (shape_of k.conf st.fronted.rows) st.fronted.columns (filling_at st.fronted.columns) c d m (ap (λ (z : Opened). slice_get z.columns c) st.is ∙ at) in
      let here : slice_get st.filled.columns c ≡ Some (column.Filling d m) =
      large_filling (needs_of k).excused sizes (sectors_for (plan_of k.conf) st.filled.rows) st.filled.columns c d m (ap (λ (z : Opened). slice_get z.columns c) st.is_fronted ∙ left) in
      let f = filling (needs_of k) (plan_of k.conf) (present_of k.conf) sizes fronts st.filled st.is_filled c d m here in
      (f.0, sym (ap (λ (z : Opened). z.newest) st.is_fronted ∙ ap (λ (z : Opened). z.newest) st.is) ∙ f.1)

  none_filling : o.newest ≡ None → count_by is_set_filling o.columns ≡ 0
  none_filling none = none-passing is_set_filling o.columns (λ c. of c (slice_get o.columns c) refl)
    where
      of : (c : ℕ) (x : Option Column) → slice_get o.columns c ≡ x → passes is_set_filling x ≡ false
      of c None e = refl
      of c (Some (column.Live d)) e = refl
      of c (Some column.Dead) e = refl
      of c (Some (column.Filling d m)) e = let l = filling_label c d m e in absurd (let z : ⊥ = cc (l.1, none) in z)
      of c (Some column.Spread) e = refl

  -- no column of an array without labels is filling
  pub unfilled_unlabelled : (newest : Option Label) → o.newest ≡ newest → AreUnfilledIf newest o.columns
  unfilled_unlabelled None is = none_filling is
  unfilled_unlabelled (Some l) is = tt
