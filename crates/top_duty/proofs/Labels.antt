-- The newest label of an array: an action that needs labels has an array with one, and it is one of so many columns.
use Rattle.std.specs.Prelude.{◌≡◌, ℕ, Bool, true, false, List, length, Option, Some, None, Result, Ok, if◌then◌else◌}
use Rattle.std.proofs.Common.{ap, subst, ◌∙◌, sym}
use Rattle.raid_label.specs.declared.label.Label.{Label}
use Rattle.top_bay.specs.Asked.{Asked}
use Rattle.top_open.specs.First.{unless}
use Rattle.top_open.specs.Labels.{newest_below}
use Rattle.top_open.specs.Opening.{Opened, judged_in, labelled_in, small_in, unlabelled_in, unlabelled_refusal}
use Rattle.top_open.specs.Steps.{is_unlabelled, labelled_if}
use Rattle.top_open.specs.declared.fault.OpenFault.{OpenFault}
use Rattle.top_open.specs.declared.fronts.Front.{Front}
use Rattle.top_open.specs.declared.plan.Plan.{Plan}
use Rattle.top_open.specs.declared.plan.Needs.{Needs}
use Rattle.top_open.proofs.OwnDevices.{not_refused}
use Rattle.top_duty.specs.Opening.{needs_of, opened_by, plan_of}
use Rattle.top_duty.specs.Steps.{present_of}
use Rattle.top_duty.proofs.Opens.{stages}
use Rattle.top_duty.proofs.Placing.{made_columns, made_newest, newest_of}
use Rattle.top_duty.proofs.Stages.{judged, newest_are}

unlabelled_not : (q : Needs) (p : Plan) (present : List Bool) (sizes : List ℕ) (fronts : List Front) (o : Opened) → q.labels ≡ true → unlabelled_in q p present sizes fronts ≡ Ok o → ⊥
unfolding unlabelled_in unlabelled_refusal
unlabelled_not q p present sizes fronts o labels e = go q.labels _ _ labels e
  where
    go : (b : Bool) (f : OpenFault) (r : Result Opened OpenFault) → b ≡ true → unless (if b then Some f else None) r ≡ Ok o → ⊥
    go true f r is e = cc e
    go false f r is e = cc is

-- it is judged by its newest label
pub by_label : (q : Needs) (p : Plan) (present : List Bool) (sizes : List ℕ) (fronts : List Front) (o : Opened) → q.labels ≡ true → judged_in q p present sizes fronts ≡ Ok o → (l : Label) × (labelled_in q p present sizes fronts l ≡ Ok o)
unfolding judged_in
by_label q p present sizes fronts o labels e = go (is_unlabelled q (length present) fronts) (newest_below fronts (length fronts)) e
  where
    go : (b : Bool) (l : Option Label) → (if b then unlabelled_in q p present sizes fronts else labelled_if q p present sizes fronts l) ≡ Ok o → (m : Label) × (labelled_in q p present sizes fronts m ≡ Ok o)
    go true l e = absurd (unlabelled_not q p present sizes fronts o labels e)
    go false None e = absurd (let z : ⊥ = cc e in z)
    go false (Some l) e = (l, e)

pub has_labels : (k : Asked) (sizes : List ℕ) (fronts : List Front) (o : Opened) → opened_by k sizes fronts ≡ Ok o → (needs_of k).labels ≡ true → (l : Label) × (o.newest ≡ Some l)
has_labels k sizes fronts o e labels =
    let st = stages k sizes fronts o e in
    let was = judged k sizes fronts o st in
    let by = by_label (needs_of k) (plan_of k.conf) (present_of k.conf) sizes fronts was.judged labels was.is in
    (by.0, sym (newest_are k sizes fronts o st) ∙ made_newest (needs_of k) (plan_of k.conf) (present_of k.conf) sizes fronts by.0 was.judged by.1)

-- ## The columns that the newest label names

unlabelled_newest : (q : Needs) (p : Plan) (present : List Bool) (sizes : List ℕ) (fronts : List Front) (o : Opened) → unlabelled_in q p present sizes fronts ≡ Ok o → o.newest ≡ None
unfolding unlabelled_in newest_of
unlabelled_newest q p present sizes fronts o h = sym (ap newest_of (not_refused (small_in None false sizes _ _ _) _ o (not_refused (unlabelled_refusal q) _ o h)))

newest_columns : (q : Needs) (p : Plan) (present : List Bool) (sizes : List ℕ) (fronts : List Front) (o : Opened) → judged_in q p present sizes fronts ≡ Ok o → (l : Label) → o.newest ≡ Some l → l.columns ≡ length present
unfolding judged_in
newest_columns q p present sizes fronts o h l e = go (is_unlabelled q (length present) fronts) (newest_below fronts (length fronts)) h
  where
    go : (b : Bool) (m : Option Label) → (if b then unlabelled_in q p present sizes fronts else labelled_if q p present sizes fronts m) ≡ Ok o → l.columns ≡ length present
    go true m h = let none : o.newest ≡ None = unlabelled_newest q p present sizes fronts o h in absurd (let z : ⊥ = cc (none, e) in z)
    go false None h = absurd (let z : ⊥ = cc h in z)
    go false (Some m) h =
        let is : o.newest ≡ Some m = made_newest q p present sizes fronts m o h in
        let same : m ≡ l = cc (is, e) in
        subst (λ (x : Label). x.columns ≡ length present) same (made_columns q p present sizes fronts m o h)

-- they are as many as the configuration has
pub named_columns : (k : Asked) (sizes : List ℕ) (fronts : List Front) (o : Opened) → opened_by k sizes fronts ≡ Ok o → (l : Label) → o.newest ≡ Some l → l.columns ≡ length (present_of k.conf)
named_columns k sizes fronts o e l is =
    let st = stages k sizes fronts o e in
    let was = judged k sizes fronts o st in
    newest_columns (needs_of k) (plan_of k.conf) (present_of k.conf) sizes fronts was.judged was.is l (newest_are k sizes fronts o st ∙ is)
