-- How each column of an array ends that was begun, served and closed.
use Rattle.std.proofs.Common.{◌≡◌, ◌⊎◌, inl, inr, ℕ, ◌<◌, List, true, length, Option, Some, None, refl, sym, ◌∙◌, ap, subst}
use Rattle.std.specs.Prelude.{slice_get}
use Rattle.blk_disk.specs.declared.disk.Disk.{Ghosts}
use Rattle.blk_disk.specs.Devices.{RisesOn}
use Rattle.lay_core.specs.Layout.{Shape}
use Rattle.eng_array.specs.Starts.{column_of}
use Rattle.eng_array.specs.declared.start.Start.{Start}
use Rattle.eng_array.specs.declared.start.Start.TheVariants as start
use Rattle.eng_cols.specs.declared.column.Column.{Column}
use Rattle.eng_cols.specs.declared.column.Column.TheVariants as column
use Rattle.eng_cols.specs.declared.spot.Loss.{Loss}
use Rattle.eng_cols.specs.Cols.{device_set, is_set_filling, passes, HasDeviceOn}
use Rattle.eng_cols.specs.Deaths.{Dies, LosesDevice}
use Rattle.eng_world.specs.World.{World}
use Rattle.raid_label.specs.declared.label.Label.{Label}
use Rattle.top_acts.proofs.Having.{has_live}
use Rattle.top_acts.proofs.Named.{live_of}
use Rattle.top_close.specs.Stage.{IsGivenUp}
use Rattle.top_close.proofs.SettledLaws.{set_here}
use Rattle.top_close.proofs.StageLaws.{live_before}
use Rattle.top_serve.specs.Served as served
use Rattle.top_serve.specs.Served.{IsKeptAs, WasFailed}
use Rattle.top_serve.specs.Setups.{with_start}
use Rattle.top_run.specs.Work.{Service, Work}
use Rattle.top_run.specs.Ran.{RisesAt, Ran}
use Rattle.top_run.specs.Steps.{IsDeadBy}
use Rattle.top_run.specs.declared.service.Line.{Line}
use Rattle.top_run.specs.declared.service.Told.TheVariants as told
use Rattle.top_labelled.specs.Begun.{IsAnew, IsColumnWithin, opened_as, without}
use Rattle.top_run.specs.Told.{IsToldUnbuilt}
use Rattle.top_labelled.specs.Ran.{told_of}
use Rattle.top_labelled.specs.Words.{told_at_end, told_on, line_of}
use Rattle.top_labelled.proofs.Kept.{kept-dead, started-other}
use Rattle.top_labelled.proofs.Without.{anew-column, anew-or-not, never, not-some, some-same, without-dead, without-dies, without-other}

-- ## The line

-- it tells at once how far the rebuild came, and that the array is lost
pub told-once : (y : Shape) (kept : List Column) (lost : Option Loss) (c : ℕ) (o : Option Column) → told_at_end lost (told_on y kept c o) ≡ told_of y kept lost c o
told-once y kept None c None = refl
told-once y kept None c (Some (column.Live d)) = refl
told-once y kept None c (Some column.Dead) = refl
told-once y kept None c (Some (column.Filling d m)) = refl
told-once y kept None c (Some column.Spread) = refl
told-once y kept (Some loss) c None = refl
told-once y kept (Some loss) c (Some (column.Live d)) = refl
told-once y kept (Some loss) c (Some column.Dead) = refl
told-once y kept (Some loss) c (Some (column.Filling d m)) = refl
told-once y kept (Some loss) c (Some column.Spread) = refl

-- of a rebuild that is stopped in the end
line-stopped : (y : Shape) (asked : Option Start) (device : Option ℕ) (t : Start) (kept : List Column) (lost : Option Loss) → asked ≡ Some t → told_at_end lost (told_on y kept (column_of t) (slice_get kept (column_of t))) ≡ told.Stopped
    → (line : Line) × (line_of y asked device kept lost ≡ Some line) × (line.column ≡ column_of t) × (line.told ≡ told.Stopped)
line-stopped y None device t kept lost is stopped = not-some t is
line-stopped y (Some u) device t kept lost is stopped =
    let same : u ≡ t = some-same u t is in (
      record { column = column_of u; device = device; told = told_of y kept lost (column_of u) (slice_get kept (column_of u)) },
      refl,
      ap column_of same,
      sym (told-once y kept lost (column_of u) (slice_get kept (column_of u)))
          ∙ subst (λ (w : Start). told_at_end lost (told_on y kept (column_of w) (slice_get kept (column_of w))) ≡ told.Stopped) (sym same) stopped,
    )

still-stopped : (lost : Option Loss) → told_at_end lost told.Stopped ≡ told.Stopped
still-stopped None = refl
still-stopped (Some loss) = refl

-- one whose column is dead is
dead-stopped : (y : Shape) (kept : List Column) (c : ℕ) (lost : Option Loss) → slice_get kept c ≡ Some column.Dead → told_at_end lost (told_on y kept c (slice_get kept c)) ≡ told.Stopped
dead-stopped y kept c lost dead = ap (λ (o : Option Column). told_at_end lost (told_on y kept c o)) dead ∙ still-stopped lost

-- so is one whose column is filling as the array is lost
given-stopped : (y : Shape) (kept : List Column) (c : ℕ) (lost : Option Loss) → IsGivenUp lost kept c → told_at_end lost (told_on y kept c (slice_get kept c)) ≡ told.Stopped
given-stopped y kept c None gave = absurd gave
given-stopped y kept c (Some loss) gave = by (slice_get kept c) gave
  where
    by : (o : Option Column) → passes is_set_filling o ≡ true → told_at_end (Some loss) (told_on y kept c o) ≡ told.Stopped
    by None h = refl
    by (Some (column.Live d)) h = never (sym h)
    by (Some column.Dead) h = refl
    by (Some (column.Filling d m)) h = refl
    by (Some column.Spread) h = never (sym h)

-- ## Where a rebuild starts

-- its column is what the start makes of it, whatever it was
started-slot : (t : Start) (xs ys : List Column) → IsAnew (Some t) (column_of t) → column_of t < length xs → column_of t < length ys → slice_get (with_start (Some t) xs) (column_of t) ≡ slice_get (with_start (Some t) ys) (column_of t)
started-slot (start.Fill c d most) xs ys of one two = set_here xs c (column.Filling d 0) one ∙ sym (set_here ys c (column.Filling d 0) two)
started-slot (start.Resume c most) xs ys of one two = absurd of
started-slot (start.Spread c) xs ys of one two = set_here xs c column.Spread one ∙ sym (set_here ys c column.Spread two)

unbuilt-anew : (y : Shape) (began : Option Start) (now : World) (c : ℕ) → served.IsUnbuilt y began now c → IsAnew began c
unbuilt-anew y began now c left = subst (λ (o : Option Start). IsAnew o c) (sym left.0) refl

dead-or-not : (o : Option Column) → (o ≡ Some column.Dead) ⊎ (o ≡ Some column.Dead → ⊥)
dead-or-not None = inr (λ h. let z : None ≡ Some column.Dead = h in let u : ⊥ = cc in u)
dead-or-not (Some (column.Live d)) = inr (λ h. let z : Some (column.Live d) ≡ Some column.Dead = h in let u : ⊥ = cc in u)
dead-or-not (Some column.Dead) = inl refl
dead-or-not (Some (column.Filling d m)) = inr (λ h. let z : Some (column.Filling d m) ≡ Some column.Dead = h in let u : ⊥ = cc in u)
dead-or-not (Some column.Spread) = inr (λ h. let z : Some column.Spread ≡ Some column.Dead = h in let u : ⊥ = cc in u)

-- ## Each column

module _ {D : Type 0} (g : Ghosts D) (a : Work) (newest : Label) (taken opened back : List (Option D)) (begun : List Column) (began : Option Start) (v : Service) (device : Option ℕ)
    (loses : Dies (LosesDevice g a.columns taken opened) a.columns begun) (before : (d : ℕ) → RisesOn g taken opened d → RisesOn g taken back d) (behind : (d : ℕ) → RisesOn g opened back d → RisesOn g taken back d)
    (within : IsColumnWithin a.start (length a.columns)) (asked : (t : Start) → began ≡ Some t → a.start ≡ Some t)
    (run : Ran g (opened_as a (without a.start begun) began) opened v back) (line : v.line ≡ line_of a.layout a.start device run.ends.kept v.ending.lost) where
  abbrev y : Shape
  y = a.layout

  -- the columns as the core was opened
  abbrev mid : List Column
  mid = without a.start begun

  abbrev Late : Work
  Late = opened_as a mid began

  abbrev Why : ℕ → Type 0
  Why c = WasFailed run.now c ⊎ (RisesAt g a taken v back c ⊎ ((IsAnew a.start c × IsToldUnbuilt v c) ⊎ IsGivenUp v.ending.lost a.columns c))

  abbrev Ends : ℕ → Type 0
  Ends c = IsKeptAs (slice_get (with_start a.start a.columns) c) (slice_get v.ending.columns c) ⊎ ((slice_get v.ending.columns c ≡ Some column.Dead) × Why c)

  -- what began anew was asked so
  anew-asked : (o : Option Start) (c : ℕ) → began ≡ o → IsAnew o c → IsAnew a.start c
  anew-asked None c is of = absurd of
  anew-asked (Some t) c is of = subst (λ (o : Option Start). IsAnew o c) (sym (asked t is)) of

  -- ### A column that isn't rebuilt anew

  module _ (c : ℕ) (not : IsAnew a.start c → ⊥) where
    not-begun : IsAnew began c → ⊥
    not-begun of = not (anew-asked began c refl of)

    here : slice_get (with_start began mid) c ≡ slice_get begun c
    here = started-other began mid c not-begun ∙ without-other a.start begun c not

    there : slice_get (with_start a.start a.columns) c ≡ slice_get a.columns c
    there = started-other a.start a.columns c not

    -- its device is that which it had, whose count rose
    rises-with : (d : ℕ) → HasDeviceOn a.columns c d → RisesOn g taken back d → Why c
    rises-with d had rose = inr (inl (d, has_live y (with_start a.start a.columns) c d (ap device_set there ∙ had), rose))

    rises-late : RisesAt g Late opened v back c → Why c
    rises-late rose =
        let had : HasDeviceOn begun c rose.0 = ap device_set (sym here) ∙ live_of y (with_start began mid) c rose.0 rose.1 in
        rises-with rose.0 (live_before (LosesDevice g a.columns taken opened) a.columns begun c rose.0 loses had) (behind rose.0 rose.2)

    dead-by : IsDeadBy g Late opened v back run.now c → Why c
    dead-by (inl failed) = inl failed
    dead-by (inr (inl rose)) = rises-late rose
    dead-by (inr (inr left)) = absurd (not-begun (unbuilt-anew y began run.now c left))

    -- one that was filling as the core was opened was so before
    given : (lost : Option Loss) → IsGivenUp lost (with_start began mid) c → IsGivenUp lost a.columns c
    given None gave = absurd gave
    given (Some loss) gave = elim (loses.each c) [
      | inl same ↦ ap (passes is_set_filling) (sym same) ∙ (ap (passes is_set_filling) (sym here) ∙ gave)
      | inr dead ↦ never (sym (ap (passes is_set_filling) (sym here) ∙ gave) ∙ ap (passes is_set_filling) dead.0)
    ]

    -- it is kept as it was as the array was begun
    begun-kept : IsKeptAs (slice_get begun c) (slice_get v.ending.columns c) → Ends c
    begun-kept kept = elim (loses.each c) [
      | inl same ↦ inl (subst (λ (o : Option Column). IsKeptAs o (slice_get v.ending.columns c)) (same ∙ sym there) kept)
      | inr dead ↦ inr (kept-dead (slice_get begun c) (slice_get v.ending.columns c) dead.0 kept, rises-with dead.1.device dead.1.had (before dead.1.device dead.1.rose))
    ]

    other : Ends c
    other = elim (run.causes.ends c) [
      | inl ends ↦ elim ends [
        | inl kept ↦ begun-kept (subst (λ (o : Option Column). IsKeptAs o (slice_get v.ending.columns c)) here kept)
        | inr dead ↦ inr (dead.0, dead-by dead.1)
      ]
      | inr gave ↦ inr (gave.0, inr (inr (inr (given v.ending.lost gave.1))))
    ]

  -- ### One that is

  module _ (t : Start) (is : a.start ≡ Some t) (of : IsAnew (Some t) (column_of t)) where
    abbrev k : ℕ
    k = column_of t

    abbrev kept : List Column
    kept = run.ends.kept

    of-asked : IsAnew a.start k
    of-asked = subst (λ (o : Option Start). IsAnew o k) (sym is) of

    old-has : k < length a.columns
    old-has = subst (λ (o : Option Start). IsColumnWithin o (length a.columns)) is within

    begun-has : k < length begun
    begun-has = subst (λ n. k < n) (sym loses.count) old-has

    mid-has : k < length mid
    mid-has = subst (λ n. k < n) (sym (without-dies a.start begun).count) begun-has

    mid-dead : slice_get mid k ≡ Some column.Dead
    mid-dead = without-dead a.start begun k (subst (λ (o : Option Start). IsColumnWithin o (length begun)) (sym is) begun-has) of-asked

    unbuilt : told_at_end v.ending.lost (told_on y kept k (slice_get kept k)) ≡ told.Stopped → IsAnew a.start k × IsToldUnbuilt v k
    unbuilt stopped = let l = line-stopped y a.start device t kept v.ending.lost is stopped in (of-asked, (l.0, line ∙ l.1, l.2, l.3))

    ends-dead : slice_get kept k ≡ Some column.Dead → slice_get v.ending.columns k ≡ Some column.Dead
    ends-dead dead = elim (run.ends.dies.each k) [ inl same ↦ same ∙ dead | inr gone ↦ gone.0 ]

    -- where it isn't dead its rebuild had begun
    has-begun : (o : Option Start) → began ≡ o → (slice_get kept k ≡ Some column.Dead → ⊥) → began ≡ Some t
    has-begun (Some u) so alive = so ∙ (sym (asked u so) ∙ is)
    has-begun None so alive = absurd (alive (elim (run.ends.came k) [
      | inr dead ↦ dead.0
      | inl same ↦ kept-dead (slice_get (with_start began mid) k) (slice_get kept k) (ap (λ (o : Option Start). slice_get (with_start o mid) k) so ∙ mid-dead) same
    ]))

    module _ (alive : slice_get kept k ≡ Some column.Dead → ⊥) where
      begins : began ≡ Some t
      begins = has-begun began refl alive

      -- as its start makes it
      slot : slice_get (with_start began mid) k ≡ slice_get (with_start a.start a.columns) k
      slot =
          ap (λ (o : Option Start). slice_get (with_start o mid) k) begins
          ∙ (started-slot t mid a.columns of mid-has old-has ∙ ap (λ (o : Option Start). slice_get (with_start o a.columns) k) (sym is))

      stays : IsKeptAs (slice_get (with_start began mid) k) (slice_get kept k)
      stays = elim (run.ends.came k) [ inl same ↦ same | inr dead ↦ absurd (alive dead.0) ]

      dies-at-end : RisesAt g Late opened v back k ⊎ IsGivenUp v.ending.lost kept k → Why k
      dies-at-end (inl rose) =
          let had : HasDeviceOn (with_start a.start a.columns) k rose.0 = ap device_set (sym slot) ∙ live_of y (with_start began mid) k rose.0 rose.1 in
          inr (inl (rose.0, has_live y (with_start a.start a.columns) k rose.0 had, behind rose.0 rose.2))
      dies-at-end (inr gave) = inr (inr (inl (unbuilt (given-stopped y kept k v.ending.lost gave))))

      rebuilt-alive : Ends k
      rebuilt-alive = elim (run.ends.dies.each k) [
        | inl same ↦ inl (subst (λ (o : Option Column). IsKeptAs (slice_get (with_start a.start a.columns) k) o) (sym same) (subst (λ (o : Option Column). IsKeptAs o (slice_get kept k)) slot stays))
        | inr gone ↦ inr (gone.0, dies-at-end gone.1)
      ]

    rebuilt : Ends k
    rebuilt = elim (dead-or-not (slice_get kept k)) [
      | inl dead ↦ inr (ends-dead dead, inr (inr (inl (unbuilt (dead-stopped y kept k v.ending.lost dead)))))
      | inr alive ↦ rebuilt-alive alive
    ]

  -- ### All of them

  anew : (o : Option Start) (c : ℕ) → a.start ≡ o → IsAnew o c → Ends c
  anew None c is of = absurd of
  anew (Some t) c is of = let at = anew-column t c of in subst Ends at (rebuilt t is (subst (λ n. IsAnew (Some t) n) (sym at) of))

  pub ends : (c : ℕ) → Ends c
  ends c = elim (anew-or-not a.start c) [ inl of ↦ anew a.start c refl of | inr not ↦ other c not ]

  pub count : length v.ending.columns ≡ length a.columns
  count = run.causes.count ∙ ((without-dies a.start begun).count ∙ loses.count)
