-- Each death has its cause, and each loss its dead columns.
use Rattle.std.specs.Prelude.{◌≡◌, ◌≢◌, ◌⊎◌, ℕ, Bool, List, length, count_by, Option, Some, None, slice_get}
use Rattle.std.proofs.Common.{refl, sym, ap, subst, inl, inr, ◌∙◌}
use Rattle.std.proofs.lemmas.List.{length-set}
use Rattle.blk_disk.specs.declared.disk.Disk.{Ghosts}
use Rattle.blk_disk.specs.Devices.{RisesOn}
use Rattle.eng_cols.specs.declared.column.Column.{Column}
use Rattle.eng_cols.specs.declared.column.Column.TheVariants as column
use Rattle.eng_cols.specs.declared.spot.Loss.{Loss}
use Rattle.eng_cols.specs.Cols.{HasDevice, is_set_filling}
use Rattle.eng_cols.specs.Deaths.{Dies, LosesDevice}
use Rattle.eng_cols.proofs.DeathLaws.{dies-more}
use Rattle.eng_array.specs.declared.start.Start.{Start}
use Rattle.eng_array.specs.declared.start.Start.TheVariants as start
use Rattle.eng_world.specs.World.{World}
use Rattle.eng_world.specs.declared.item.Item.{Item}
use Rattle.eng_world.specs.declared.item.Reply.{Reply}
use Rattle.raid_label.specs.declared.label.Label.{Label}
use Rattle.top_acts.specs.declared.done.Done.{Done}
use Rattle.top_acts.specs.declared.sweeping.Renewal.{Renewal}
use Rattle.top_acts.specs.declared.sweeping.Renewal.TheVariants as renewal
use Rattle.top_acts.specs.Checked.{IsChecked}
use Rattle.top_acts.specs.Labelled.{IsFirstLabelled}
use Rattle.top_acts.proofs.Having.{has_live}
use Rattle.top_acts.proofs.Kills.{alive_died, alive_given}
use Rattle.top_labelled.specs.Begun.{IsAnew}
use Rattle.top_labelled.specs.Ran.{IsLostBefore, RanLabelled}
use Rattle.top_open.specs.declared.fronts.Front.{Front}
use Rattle.top_close.specs.Stage.{DiesIn, IsGivenUp, IsGivenUpIn}
use Rattle.top_rounds.specs.Rounds.{HaveRounds, in_end}
use Rattle.top_rounds.proofs.RoundLaws.{given_after, none_given_in}
use Rattle.top_run.specs.Ran.{Ran as Run, RanPlain, RisesAt}
use Rattle.top_run.specs.Steps.{IsDeadBy, columns_in}
use Rattle.top_run.specs.Told.{IsToldFailed, IsToldUnbuilt}
use Rattle.top_run.specs.Work.{Ending, Service, Work}
use Rattle.top_run.proofs.Starting.{rebuilds-none}
use Rattle.top_serve.specs.Served.{IsKeptAs, IsUnbuilt, WasFailed}
use Rattle.top_serve.specs.Setups.{with_start}
use Rattle.top_words.specs.Asked.{Action, Io, Sweep, Show, ShowMap, Init, Check, Rewrite, Print, Fail, ShowLabel, Label as Labels, Rebuild, Resume, profile_of}
use Rattle.top_words.specs.declared.profile.Deed.TheVariants as deed
use Rattle.top_duty.specs.Duty.{Admitted, Duty, OnArray, Shows, OneLabel, PrintConf, layout_of}
use Rattle.top_duty.specs.Steps.{columns_of, states_in}
use Rattle.top_duty.specs.Opening.{needs_for, needs_of}
use Rattle.top_duty.specs.Start.{has_failed}
use Rattle.raid_top.specs.Arrays.{Renews}
use Rattle.raid_top.specs.Does.{Does, DoesDeed, DoesRun}
use Rattle.raid_top.specs.Losses.{AreCaused, DeathsHaveCauses, IsCauseOfDeath, columns_due, columns_in_end, loss_of}
use Rattle.raid_top.specs.Ordered.{AreOrdered}
use Rattle.raid_top.specs.Outcome.{Outcome, Ran, Did, Looked}
use Rattle.raid_top.specs.Served.{AreUnfilledIf}
use Rattle.raid_top.specs.Works.{work_of}
use Rattle.raid_top.proofs.Deaths.{checked_dies, killed_ends, kept_or_dead, labelled_dies, renewed_dies}
use Rattle.raid_top.proofs.Gone.{lost_by_dead}
use Rattle.raid_top.proofs.Losing.{array_gone}
use Rattle.raid_top.proofs.Ordered.{IsArrayInOrder, IsInOrder, ended_ordered}

-- ## Items

-- an item by which a column failed, as it is told
item_told : {D : Type 0} (g : Ghosts D) (a : Work) (taken back : List (Option D)) (s : Service) (ran : Run g a taken s back) (c : ℕ) → WasFailed ran.now c → IsToldFailed s c
item_told g a taken back s ran c w = record {
  id = w.id;
  asked = ap (λ (l : List Item). slice_get l w.id.index) (ran.tells.items w.id.client other) ∙ w.asked;
  replied = ap (λ (l : List Reply). slice_get l w.id.index) (ran.tells.replies w.id.client other) ∙ w.replied;
}
  where
    other : w.id.client ≢ 16
    other is = rebuilds-none a.layout (columns_in a) a.start (ran.now.clients 16).items w.id.index c ran.rests.rebuilds (ap (λ k. slice_get (ran.now.clients k).items w.id.index) (sym is) ∙ w.asked)

module _ {D : Type 0} (g : Ghosts D) (a : Admitted) (old back : List (Option D)) where
  abbrev pub Each : Outcome → Type 0
  Each o = (c : ℕ) → IsKeptAs (slice_get (columns_due a o) c) (slice_get (columns_in_end o) c) ⊎ ((slice_get (columns_in_end o) c ≡ Some column.Dead) × IsCauseOfDeath g a old back o c)

  -- and there are as many columns as there were, of which none is filling where the array is lost
  abbrev Ends : Outcome → Type 0
  Ends o = (length (columns_in_end o) ≡ length (columns_of a)) × Each o × IsGivenUpIn (loss_of o) (columns_in_end o)

  -- ## Runs

  -- nothing is rebuilt, so nothing is left unbuilt
  none_unbuilt : {A : Type 0} (how : Option Start) → how ≡ None → (now : World) (c : ℕ) → IsUnbuilt (layout_of a) how now c → A
  none_unbuilt how e now c h = absurd (let z : ⊥ = cc (sym e ∙ h.0) in z)

  module _ (action : Action) (s : Service) where
    abbrev Why : ℕ → Type 0
    Why c = IsCauseOfDeath g a old back (Ran action s) c

    pub plain_each : RanPlain g (work_of a) old s back → Each (Ran action s)
    plain_each r c = elim (r.run.causes.ends c) [
      | inl ends ↦ elim ends [
        | inl kept ↦ inl kept
        | inr dead ↦ inr (dead.0, why dead.1)
      ]
      | inr gave ↦ inr (gave.0, inr (inr (given s.ending.lost gave.1)))
    ]
      where
        why : IsDeadBy g (work_of a) old s back r.run.now c → Why c
        why (inl w) = inl (inr (item_told g (work_of a) old back s r.run c w))
        why (inr (inl rose)) = inr (inl rose)
        why (inr (inr unbuilt)) = none_unbuilt a.start r.none.0 r.run.now c unbuilt

        given : (lost : Option Loss) → IsGivenUp lost (with_start a.start (columns_of a)) c → IsGivenUp lost (columns_of a) c
        given lost gave = subst (λ (how : Option Start). IsGivenUp lost (with_start how (columns_of a)) c) r.none.0 gave

    plain_ends : RanPlain g (work_of a) old s back → Ends (Ran action s)
    plain_ends r = (r.run.causes.count, plain_each r, r.run.ends.given_up)

    pub labelled_each : (newest : Label) (failed map : Bool) → RanLabelled g (work_of a) newest old s back failed map → Each (Ran action s)
    labelled_each newest failed map r c = elim (r.ends c) [
      | inl kept ↦ inl kept
      | inr dead ↦ inr (dead.0, why dead.1)
    ]
      where
        why : WasFailed r.run.now c ⊎ (RisesAt g (work_of a) old s back c ⊎ ((IsAnew a.start c × IsToldUnbuilt s c) ⊎ IsGivenUp s.ending.lost (columns_of a) c)) → Why c
        why (inl w) = inl (inr (item_told g _ r.opened back s r.run c w))
        why (inr (inl rose)) = inr (inl rose)
        why (inr (inr (inl told))) = inl (inl told)
        why (inr (inr (inr gave))) = inr (inr gave)

    labelled_run_ends : (newest : Label) (failed map : Bool) → RanLabelled g (work_of a) newest old s back failed map → Ends (Ran action s)
    labelled_run_ends newest failed map r = (r.count, labelled_each newest failed map r, r.run.ends.given_up)

  -- ## Without a core

  module _ (named : (c : ℕ) → IsAnew a.start c → (needs_of a.asked).excused ≡ Some c) (act : Done) (e : Ending) where
    abbrev may : ℕ → Type 0
    may = IsCauseOfDeath g a old back (Did act e)

    rises : (c d : ℕ) → HasDevice (states_in a) c d → RisesOn g old back d → may c
    rises c d had rose = inr (inl (d, had, rose))

    gives : (c : ℕ) → IsGivenUp e.lost (columns_of a) c → may c
    gives c gave = inr (inr gave)

    dead_ends : Dies may (columns_of a) e.columns → IsGivenUpIn e.lost e.columns → Ends (Did act e)
    dead_ends dies gave = (dies.count, kept_or_dead may (columns_of a) e.columns dies, gave)

    before_dies : (newest : Label) (map : Bool) → IsLostBefore g (work_of a) newest old map e back → Dies may (columns_of a) e.columns
    before_dies newest map h = dies-more _ may (columns_of a) e.columns why h.dies
      where
        why : (c : ℕ) → IsAnew a.start c ⊎ DiesIn g (Some h.loss) (columns_of a) old back c → may c
        why c (inl anew) = inl (named c anew)
        why c (inr (inl lost)) = rises c lost.device (has_live (layout_of a) (columns_of a) c lost.device lost.had) lost.rose
        why c (inr (inr gave)) = gives c (subst (λ (l : Option Loss). IsGivenUp l (columns_of a) c) (sym h.lost) gave)

    checked_given : IsChecked g (layout_of a) (columns_of a) e.columns old back e.lost act → IsGivenUpIn e.lost e.columns
    checked_given h = subst (λ (l : List Column). IsGivenUpIn e.lost l) (sym h.after_is) (of e.lost)
      where
        of : (lost : Option Loss) → IsGivenUpIn lost (in_end lost h.mid)
        of None = tt
        of (Some loss) = none_given_in (Some loss) h.mid

    unfilled_given : (lost : Option Loss) → count_by is_set_filling (columns_of a) ≡ 0 → IsGivenUpIn lost (columns_of a)
    unfilled_given None none = tt
    unfilled_given (Some loss) none = none

    renewed_given : (kind : Renewal) (newest : Option Label) → AreUnfilledIf newest (columns_of a) → Renews g (layout_of a) (columns_of a) old back act e kind newest → IsGivenUpIn e.lost e.columns
    renewed_given kind None none h = given_after (LosesDevice g (columns_of a) old back) e.lost (columns_of a) e.columns h.dies (unfilled_given e.lost none)
    renewed_given kind (Some l) none h = h.2.given_up

    labelled_given : (l next : Label) → IsFirstLabelled g (layout_of a) l next (columns_of a) e.columns old back e.lost act → IsGivenUpIn e.lost e.columns
    labelled_given l next h = by e.lost h.rounds
      where
        by : (lost : Option Loss) → HaveRounds g lost (record l { counter = 0; clean = 0 }) next (columns_of a) e.columns old back → IsGivenUpIn lost e.columns
        by None r = tt
        by (Some loss) r = r.1.given_up

    kill_ends : (failed : Bool) → (needs_of a.asked).excused ≡ a.asked.comp → DoesDeed g a failed old back deed.Kills (Did act e) → Ends (Did act e)
    kill_ends failed is h =
        let k = h.5 in (
          (alive_died g (layout_of a) h.1 h.2 k.left e.columns old back e.lost (record { mid = k.mid; dev = k.dev; before = k.before; settles = k.settles; lost_is = k.before_is; ends = k.ends })).count ∙ k.entries,
          killed_ends g (layout_of a) (columns_of a) old back may rises act e gives h.0 h.1 h.2 (inl (is ∙ h.3)) k,
          alive_given g (layout_of a) h.1 h.2 k.left e.columns old back e.lost (record { mid = k.mid; dev = k.dev; before = k.before; settles = k.settles; lost_is = k.before_is; ends = k.ends }),
        )

    renew_dies : (kind : Renewal) (newest : Option Label) → Renews g (layout_of a) (columns_of a) old back act e kind newest → Dies may (columns_of a) e.columns
    renew_dies kind newest h = renewed_dies g (layout_of a) (columns_of a) old back may rises act e gives kind newest h

  -- ## Both

  module _ (failed : Bool) (named : (c : ℕ) → IsAnew a.start c → (needs_of a.asked).excused ≡ Some c) (none : AreUnfilledIf a.opened.newest (columns_of a)) where
    run_ends : (newest : Option Label) (o : Outcome) → DoesRun g a failed old back newest o → Ends o
    run_ends None (Ran action s) h = plain_ends action s h.1
    run_ends None (Did act e) h = absurd h
    run_ends (Some l) (Ran action s) h = labelled_run_ends action s l failed (profile_of a.asked.command.action).map h.1
    run_ends (Some l) (Did act e) h = dead_ends named act e (before_dies named act e l (profile_of a.asked.command.action).map h.1) h.1.given_up
    run_ends newest (Looked text) h = absurd h

    kills : (o : Outcome) → (needs_of a.asked).excused ≡ a.asked.comp → DoesDeed g a failed old back deed.Kills o → Ends o
    kills (Did act e) is h = kill_ends named act e failed is h
    kills (Ran action s) is h = absurd h
    kills (Looked text) is h = absurd h

    array_ends : (action : Action) (o : Outcome) → a.asked.command.action ≡ action → DoesDeed g a failed old back (profile_of action).deed o → Ends o
    array_ends (Io beside workers mapped) o same h = run_ends a.opened.newest o h
    array_ends (Sweep seed clients ops workers mapped) o same h = run_ends a.opened.newest o h
    array_ends Init (Did act e) same h = dead_ends named act e (renew_dies named act e renewal.Init a.opened.newest h) (renewed_given named act e renewal.Init a.opened.newest none h)
    array_ends Init (Ran action s) same h = absurd h
    array_ends Init (Looked text) same h = absurd h
    array_ends Check (Did act e) same h = dead_ends named act e (checked_dies g (layout_of a) (columns_of a) old back (may named act e) (rises named act e) act e (gives named act e) h) (checked_given named act e h)
    array_ends Check (Ran action s) same h = absurd h
    array_ends Check (Looked text) same h = absurd h
    array_ends Rewrite (Did act e) same h = dead_ends named act e (renew_dies named act e renewal.Rewrite a.opened.newest h) (renewed_given named act e renewal.Rewrite a.opened.newest none h)
    array_ends Rewrite (Ran action s) same h = absurd h
    array_ends Rewrite (Looked text) same h = absurd h
    array_ends (Fail comp) o same h = kills o (ap (λ (act : Action). (needs_for act a.asked.comp).excused) same) h
    array_ends (Labels serial) (Did act e) same h = dead_ends named act e (labelled_dies g (layout_of a) (columns_of a) old back (may named act e) (rises named act e) act e (gives named act e) _ h.0 h.1) (labelled_given named act e _ h.0 h.1)
    array_ends (Labels serial) (Ran action s) same h = absurd h
    array_ends (Labels serial) (Looked text) same h = absurd h
    array_ends Show o same h = absurd h
    array_ends ShowMap o same h = absurd h
    array_ends Print o same h = absurd h
    array_ends (ShowLabel comp) o same h = absurd h
    array_ends (Rebuild in_place comp limit beside workers mapped) o same h = run_ends a.opened.newest o h
    array_ends (Resume limit beside workers mapped) o same h = run_ends a.opened.newest o h

-- ## All

module _ {D : Type 0} (g : Ghosts D) where
  due_ordered : (a : Admitted) (o : Outcome) → IsArrayInOrder a → AreOrdered (layout_of a) (columns_due a o)
  due_ordered a (Ran action s) order = order.ordered.started
  due_ordered a (Did act e) order = order.ordered.opened
  due_ordered a (Looked text) order = order.ordered.opened

  -- as many are due as were opened
  due_count : (a : Admitted) (o : Outcome) → length (columns_due a o) ≡ length (columns_of a)
  due_count a (Ran action s) = by a.start
    where
      by : (how : Option Start) → length (with_start how (columns_of a)) ≡ length (columns_of a)
      by None = refl
      by (Some (start.Fill c d most)) = length-set (columns_of a) c (column.Filling d 0)
      by (Some (start.Resume c most)) = refl
      by (Some (start.Spread c)) = length-set (columns_of a) c column.Spread
  due_count a (Did act e) = refl
  due_count a (Looked text) = refl

  array_caused : (a : Admitted) (fronts : List Front) (old back : List (Option D)) (o : Outcome) → IsArrayInOrder a → Does g (OnArray a) fronts old back o → DeathsHaveCauses g a old back o
  array_caused a fronts old back o order h =
      let ends = array_ends g a old back (has_failed a.start fronts) order.named order.unfilled a.asked.command.action o refl h in
      record {
        count = ends.0;
        each = ends.1;
        given_up = ends.2;
        lost = λ loss is. lost_by_dead (layout_of a) (columns_in_end o) loss order.ordered.law
            (ended_ordered (layout_of a) (IsCauseOfDeath g a old back o) (columns_due a o) (columns_in_end o) (ends.0 ∙ sym (due_count a o)) ends.1 (due_ordered a o order))
            (subst (λ (l : Option Loss). IsGivenUpIn l (columns_in_end o)) is ends.2)
            (array_gone g a fronts old back o h loss is);
      }

  pub are_caused : (duty : Duty) (fronts : List Front) (old back : List (Option D)) (o : Outcome) → IsInOrder duty → Does g duty fronts old back o → AreCaused g duty old back o
  are_caused (OnArray a) fronts old back o order h = array_caused a fronts old back o order h
  are_caused (Shows k opened) fronts old back o order h = tt
  are_caused (OneLabel k) fronts old back o order h = tt
  are_caused (PrintConf k) fronts old back o order h = tt
