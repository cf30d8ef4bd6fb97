-- What an array is that is opened, by what is asked.
use Rattle.std.specs.Prelude.{◌≡◌, ◌⊎◌, ◌+◌, ◌<◌, ◌≤◌, ℕ, Bool, List, length, count_by, Option, Some, None, Result, Ok, Err, slice_get}
use Rattle.std.specs.Option.{ForSome}
use Rattle.std.proofs.Common.{arith, refl, sym, ap, subst, inl, inr, ◌∙◌}
use Rattle.std.proofs.lemmas.List.{length-append, length-map}
use Rattle.eng_cols.specs.Cols.{is_set_filling, is_set_spread}
use Rattle.eng_cols.specs.declared.column.Column.{Column as AnyColumn}
use Rattle.eng_cols.specs.declared.column.Column.TheVariants as column
use Rattle.raid_conf.specs.declared.conf.Conf.{Conf}
use Rattle.raid_conf.specs.Form.{IsConf}
use Rattle.top_bay.specs.Asked.{Asked, names_by, names_of, names_with}
use Rattle.top_bay.specs.Views.{IsNamed, IsWithinLimits}
use Rattle.top_open.specs.declared.fault.OpenFault.{OpenFault}
use Rattle.top_open.specs.declared.fronts.Front.{Front}
use Rattle.top_open.specs.declared.plan.Needs.{Needs}
use Rattle.top_open.specs.declared.plan.Plan.{Plan}
use Rattle.top_open.specs.Opening.{Opened, opened_in}
use Rattle.lay_core.specs.Layout.{Shape}
use Rattle.raid_conf.specs.Layouts.{shape_of}
use Rattle.top_open.proofs.Filled.{WasJudged, entries, few-spread, one-filling, rows-are, was}
use Rattle.top_open.proofs.WholeTables.{whole_tables}
use Rattle.top_open.specs.Plan.{sectors_for}
use Rattle.top_status.specs.Refusals.{Refused, ◌then◌, only}
use Rattle.top_words.specs.Asked.{Action, Component, Nameless, Column, Device, profile_of}
use Rattle.top_words.specs.declared.profile.Kind.{Kind}
use Rattle.top_words.specs.declared.profile.Kind.TheVariants as kind
use Rattle.top_duty.specs.Opening.{AreTableRows, excused_by, filling_at, fronted_by, kind_of, needs_of, opened_by, plan_of, status_of, stripes_on}
use Rattle.top_duty.specs.Steps.{left_at, present_of, without_small, is_named}
use Rattle.top_duty.proofs.Deadened.{left_few, left_fewer, left_get, left_length, small_fewer, small_length}
use Rattle.top_duty.proofs.Firsts.{filling_found}
use Rattle.top_duty.proofs.Tables.{plan_is, stripes-most}
use Rattle.top_fetch.specs.Fetched.{or_status}

-- an array as its labels are judged, without what is too small; and without a column that is filling and has all of its stripes done
abbrev pub as_opened : Asked → List ℕ → Opened → Opened
as_opened k sizes o = record o { columns = without_small (needs_of k).excused sizes (sectors_for (plan_of k.conf) o.rows) o.columns }

abbrev pub as_left : Asked → Opened → Opened
as_left k o = record o { columns = left_at (shape_of k.conf o.rows) o.columns (filling_at o.columns) }

-- what the fronts say, of which the column that the action fails may be dead
pub was_fronted : (k : Asked) (sizes : List ℕ) (fronts : List Front) (o : Opened) → fronted_by k sizes fronts ≡ Ok o
    → (b : Opened) × (opened_in (needs_of k) (plan_of k.conf) (present_of k.conf) sizes fronts ≡ Ok b) × (as_opened k sizes b ≡ o)
unfolding fronted_by
was_fronted k sizes fronts o h = go (opened_in (needs_of k) (plan_of k.conf) (present_of k.conf) sizes fronts) refl h
  where
    go : (r : Result Opened OpenFault) → opened_in (needs_of k) (plan_of k.conf) (present_of k.conf) sizes fronts ≡ r → (or_status status_of r then λ x. Ok (as_opened k sizes x)) ≡ Ok o
        → (b : Opened) × (opened_in (needs_of k) (plan_of k.conf) (present_of k.conf) sizes fronts ≡ Ok b) × (as_opened k sizes b ≡ o)
    go (Ok b) e h = (b, e, cc h)
    go (Err f) e h = cc h

-- and what the opening answers, of which a filling column may be dead
pub was_opened : (k : Asked) (sizes : List ℕ) (fronts : List Front) (o : Opened) → opened_by k sizes fronts ≡ Ok o
    → (f : Opened) × (fronted_by k sizes fronts ≡ Ok f) × (as_left k f ≡ o)
unfolding opened_by
was_opened k sizes fronts o h = go (fronted_by k sizes fronts) refl h
  where
    go : (r : Result Opened Refused) → fronted_by k sizes fronts ≡ r → (r then λ x. Ok (as_left k x)) ≡ Ok o → (f : Opened) × (fronted_by k sizes fronts ≡ Ok f) × (as_left k f ≡ o)
    go (Ok f) e h = (f, e, cc h)
    go (Err r) e h = cc h

-- What an array was before: as the labels are judged and name the column that is filling; and without what is too small.
pub record Stages (k : Asked) (sizes : List ℕ) (fronts : List Front) (o : Opened) : Type 0 where
  pub filled : Opened
  pub fronted : Opened
  pub is_filled : opened_in (needs_of k) (plan_of k.conf) (present_of k.conf) sizes fronts ≡ Ok filled
  pub is_fronted : as_opened k sizes filled ≡ fronted
  pub is : as_left k fronted ≡ o

pub stages : (k : Asked) (sizes : List ℕ) (fronts : List Front) (o : Opened) → opened_by k sizes fronts ≡ Ok o → Stages k sizes fronts o
stages k sizes fronts o h =
    let left = was_opened k sizes fronts o h in
    let was = was_fronted k sizes fronts left.0 left.1 in
    record { filled = was.0; fronted = left.0; is_filled = was.1; is_fronted = was.2; is = left.2 }

-- so it is by needs, plan and disks that are those
pub opened_args : (q : Needs) (p : Plan) (present : List Bool) (k : Asked) (sizes : List ℕ) (fronts : List Front) (r : Result Opened OpenFault) → q ≡ needs_of k → p ≡ plan_of k.conf → present ≡ present_of k.conf
    → opened_in q p present sizes fronts ≡ r → opened_in (needs_of k) (plan_of k.conf) (present_of k.conf) sizes fronts ≡ r
opened_args q p present k sizes fronts r one two three h =
    sym (ap (λ (x : Needs). opened_in x p present sizes fronts) one ∙ (ap (λ (x : Plan). opened_in (needs_of k) x present sizes fronts) two ∙ ap (λ (l : List Bool). opened_in (needs_of k) (plan_of k.conf) l sizes fronts) three)) ∙ h

pub fronted_is : (k : Asked) (sizes : List ℕ) (fronts : List Front) (b : Opened) → opened_in (needs_of k) (plan_of k.conf) (present_of k.conf) sizes fronts ≡ Ok b → fronted_by k sizes fronts ≡ Ok (as_opened k sizes b)
unfolding fronted_by
fronted_is k sizes fronts b e = rw e refl

pub fronted_not : (k : Asked) (sizes : List ℕ) (fronts : List Front) (f : OpenFault) → opened_in (needs_of k) (plan_of k.conf) (present_of k.conf) sizes fronts ≡ Err f → fronted_by k sizes fronts ≡ Err (only (status_of f))
unfolding fronted_by
fronted_not k sizes fronts f e = rw e refl

pub opened_is : (k : Asked) (sizes : List ℕ) (fronts : List Front) (f : Opened) → fronted_by k sizes fronts ≡ Ok f → opened_by k sizes fronts ≡ Ok (as_left k f)
unfolding opened_by
opened_is k sizes fronts f e = rw e refl

pub opened_not : (k : Asked) (sizes : List ℕ) (fronts : List Front) (r : Refused) → fronted_by k sizes fronts ≡ Err r → opened_by k sizes fronts ≡ Err r
unfolding opened_by
opened_not k sizes fronts r e = rw e refl

pub present_count : (conf : Conf) → IsConf conf → length (present_of conf) ≡ conf.columns
present_count conf is = length-map conf.disks is_named ∙ is.disk_count

-- so is each of its parts
module _ (k : Asked) (sizes : List ℕ) (fronts : List Front) (b : Opened) (is : IsConf k.conf) (opens : opened_in (needs_of k) (plan_of k.conf) (present_of k.conf) sizes fronts ≡ Ok b) where
  abbrev needs : ℕ
  needs = sectors_for (plan_of k.conf) b.rows

  abbrev judged : WasJudged (needs_of k) (plan_of k.conf) (present_of k.conf) sizes fronts b
  judged = was (needs_of k) (plan_of k.conf) (present_of k.conf) sizes fronts b opens

  pub before_count : length b.columns ≡ k.conf.columns
  before_count = entries (needs_of k) (plan_of k.conf) (present_of k.conf) sizes fronts b opens ∙ present_count k.conf is

  pub as_rows : AreTableRows k.conf b.rows
  as_rows = subst (λ (r : ℕ). AreTableRows k.conf r) (rows-are (needs_of k) (plan_of k.conf) (present_of k.conf) sizes fronts b opens)
      (whole_tables (needs_of k) (plan_of k.conf) (present_of k.conf) sizes fronts judged.judged (plan_is k.conf is) (stripes-most k.conf is) judged.is)

  pub as_count : length (as_opened k sizes b).columns ≡ k.conf.columns
  as_count = small_length (needs_of k).excused sizes needs b.columns ∙ before_count

  pub as_filling : count_by is_set_filling (as_opened k sizes b).columns ≤ 1
  as_filling = omega (arith, small_fewer (needs_of k).excused sizes needs b.columns is_set_filling refl, one-filling (needs_of k) (plan_of k.conf) (present_of k.conf) sizes fronts b opens)

  pub as_spread : count_by is_set_spread (as_opened k sizes b).columns ≤ 1
  as_spread = omega (arith, small_fewer (needs_of k).excused sizes needs b.columns is_set_spread refl, few-spread (needs_of k) (plan_of k.conf) (present_of k.conf) sizes fronts b opens)

module _ (k : Asked) (sizes : List ℕ) (fronts : List Front) (o : Opened) (is : IsConf k.conf) (opens : opened_by k sizes fronts ≡ Ok o) where
  abbrev st : Stages k sizes fronts o
  st = stages k sizes fronts o opens

  abbrev y : Shape
  y = shape_of k.conf st.fronted.rows

  fronted_count : length st.fronted.columns ≡ k.conf.columns
  fronted_count = subst (λ (x : Opened). length x.columns ≡ k.conf.columns) st.is_fronted (as_count k sizes fronts st.filled is st.is_filled)

  fronted_filling : count_by is_set_filling st.fronted.columns ≤ 1
  fronted_filling = subst (λ (x : Opened). count_by is_set_filling x.columns ≤ 1) st.is_fronted (as_filling k sizes fronts st.filled is st.is_filled)

  fronted_spread : count_by is_set_spread st.fronted.columns ≤ 1
  fronted_spread = subst (λ (x : Opened). count_by is_set_spread x.columns ≤ 1) st.is_fronted (as_spread k sizes fronts st.filled is st.is_filled)

  pub opened_rows : AreTableRows k.conf o.rows
  opened_rows = subst (λ (x : Opened). AreTableRows k.conf x.rows) st.is (subst (λ (x : Opened). AreTableRows k.conf x.rows) st.is_fronted (as_rows k sizes fronts st.filled is st.is_filled))

  pub opened_count : length o.columns ≡ k.conf.columns
  opened_count = subst (λ (x : Opened). length x.columns ≡ k.conf.columns) st.is (left_length y st.fronted.columns (filling_at st.fronted.columns) ∙ fronted_count)

  pub opened_filling : count_by is_set_filling o.columns ≤ 1
  opened_filling = subst (λ (x : Opened). count_by is_set_filling x.columns ≤ 1) st.is (omega (arith, left_fewer y st.fronted.columns (filling_at st.fronted.columns) is_set_filling refl, fronted_filling))

  pub opened_spread : count_by is_set_spread o.columns ≤ 1
  opened_spread = subst (λ (x : Opened). count_by is_set_spread x.columns ≤ 1) st.is (omega (arith, left_fewer y st.fronted.columns (filling_at st.fronted.columns) is_set_spread refl, fronted_spread))

  -- a column that is filling has stripes left
  pub opened_left : (c d m : ℕ) → slice_get o.columns c ≡ Some (column.Filling d m) → m < stripes_on (shape_of k.conf o.rows) o.columns c
  opened_left c d m at = subst (λ (x : Opened). m < stripes_on (shape_of k.conf x.rows) x.columns c) st.is (go (left_get y st.fronted.columns (filling_at st.fronted.columns) c (column.Filling d m) now))
    where
      now : slice_get (left_at y st.fronted.columns (filling_at st.fronted.columns)) c ≡ Some (column.Filling d m)
      now = ap (λ (x : Opened). slice_get x.columns c) st.is ∙ at

      go : (column.Filling d m ≡ column.Dead) ⊎ (slice_get st.fronted.columns c ≡ Some (column.Filling d m)) → m < stripes_on y (left_at y st.fronted.columns (filling_at st.fronted.columns)) c
      go (inl other) = absurd (let z : ⊥ = cc other in z)
      go (inr was) =
          let found : filling_at st.fronted.columns ≡ Some c = filling_found st.fronted.columns c d m fronted_filling was in
          let few = left_few y st.fronted.columns c d m was (ap (λ (i : Option ℕ). slice_get (left_at y st.fronted.columns i) c) (sym found) ∙ now) in
          subst (λ (i : Option ℕ). m < stripes_on y (left_at y st.fronted.columns i) c) (sym found) (subst (λ (l : List AnyColumn). m < stripes_on y l c) (sym few.1) few.0)

-- the column that is excused is one of them
pub dead_within : (k : Asked) → IsWithinLimits k → ForSome (needs_of k).excused (λ c. c < k.conf.columns)
dead_within k within = go (profile_of k.command.action).component within.known
  where
    nothing : (c : ℕ) → None ≡ Some c → c < k.conf.columns
    nothing c e = cc e

    go : (component : Component) → IsNamed k.conf component k.comp → ForSome (excused_by component k.comp) (λ c. c < k.conf.columns)
    go Nameless h = nothing
    go (Column name) h = λ c e. let same : h.at ≡ c = cc (h.is, e) in omega (arith, same, h.within)
    go (Device name) h = nothing

-- where an array is opened all devices are taken
names_count : (conf : Conf) → IsConf conf → length (names_of conf) ≡ conf.columns + conf.spares
names_count conf is = length-append conf.disks conf.spare_names ∙ omega (arith, is.disk_count, is.spare_count)

pub array_names : (conf : Conf) (action : Action) → IsConf conf → kind_of action ≡ kind.Array → length (names_by conf action) ≡ conf.columns + conf.spares
array_names conf action is e = ap (λ (k : Kind). length (names_with conf k (profile_of action).component)) e ∙ names_count conf is
