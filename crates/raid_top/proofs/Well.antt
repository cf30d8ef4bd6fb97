-- What was done ends well where the array outlives it.
use Rattle.std.specs.Prelude.{◌≡◌, ℕ, Bool, true, List, [], ◌∷◌, Option, Some, None, slice_get}
use Rattle.std.proofs.Common.{refl, sym, ap, subst, inl, inr, ◌∙◌}
use Rattle.blk_disk.specs.declared.disk.Disk.{Ghosts}
use Rattle.blk_disk.specs.Devices.{Changes}
use Rattle.eng_array.specs.Starts.{column_of}
use Rattle.eng_array.specs.declared.start.Start.{Start}
use Rattle.eng_array.specs.declared.start.Start.TheVariants as start
use Rattle.eng_cols.specs.Cols.{is_set_filling, passes}
use Rattle.eng_cols.specs.declared.spot.Loss.{Loss}
use Rattle.eng_cols.proofs.DeathLaws.{dies-more}
use Rattle.raid_label.specs.declared.label.Label.{Label}
use Rattle.top_acts.specs.declared.done.Done.{Done}
use Rattle.top_acts.specs.declared.done.Done.TheVariants as done
use Rattle.top_acts.specs.declared.sweeping.Renewal.{Renewal}
use Rattle.top_acts.specs.declared.sweeping.Renewal.TheVariants as renewal
use Rattle.top_acts.specs.Counting.{alive}
use Rattle.top_labelled.proofs.Outlived as labelled_laws
use Rattle.top_open.specs.declared.fronts.Front.{Front}
use Rattle.top_open.specs.Opening.{Opened}
use Rattle.top_bay.specs.Asked.{Asked}
use Rattle.top_run.specs.Outliving.{MayDie as MayDieOf, OutlivesCall}
use Rattle.top_run.proofs.Outlived.{outlived}
use Rattle.top_status.specs.Status.{status_of_loss}
use Rattle.top_words.specs.Asked.{Action, Io, Sweep, Show, ShowMap, Init, Check, Rewrite, Print, Fail, ShowLabel, Label as Labels, Rebuild, Resume, Command, profile_of}
use Rattle.top_words.specs.declared.profile.Deed.TheVariants as deed
use Rattle.top_duty.specs.Duty.{Admitted, Duty, OnArray, Shows, OneLabel, PrintConf, asked_of, layout_of}
use Rattle.top_duty.specs.Steps.{columns_of}
use Rattle.top_duty.specs.Opening.{needs_for, needs_of}
use Rattle.top_duty.specs.Start.{has_failed}
use Rattle.top_run.specs.Work.{Ending}
use Rattle.raid_top.specs.Arrays.{Renews}
use Rattle.raid_top.specs.Does.{Does, DoesDeed, DoesRun, Says, ShowsArray}
use Rattle.raid_top.specs.Acted.{CommandEndsWell, MayEndDead, SurvivesCall}
use Rattle.raid_top.specs.Outcome.{Outcome, Ran, Did, Looked, status_of}
use Rattle.raid_top.specs.Words.{status_of_done}
use Rattle.raid_top.specs.Works.{work_of}
use Rattle.raid_top.proofs.Filling.{filling_passes}
use Rattle.raid_top.proofs.Reading.{NoSector, rises_late}
use Rattle.raid_top.proofs.Wanted.{IsNamed, IsNamedFor}
use Rattle.raid_top.proofs.Surviving.{check_well, checked, done_well, killed, labelled, renewed}

module _ {D : Type 0} (g : Ghosts D) (command : Command) where
  run_well : (lost : Option Loss) → lost ≡ None → CommandEndsWell command (status_of_loss lost)
  run_well lost none = subst (λ (l : Option Loss). CommandEndsWell command (status_of_loss l)) (sym none) tt

  module _ (a : Admitted) (failed : Bool) (taken old back : List (Option D)) (read : Changes g NoSector taken old) (survives : SurvivesCall g (OnArray a) taken back) (command_is : a.asked.command ≡ command) (named : IsNamed (OnArray a)) where
    rebuilt_so : (c : ℕ) (s : Start) → IsNamedFor (needs_of a.asked).excused (columns_of a) s → column_of s ≡ c → MayEndDead g a taken back c
    rebuilt_so c (start.Fill e d most) is same = inl (is ∙ ap (λ (n : ℕ). Some n) same)
    rebuilt_so c (start.Resume e most) is same =
        inr (inl (subst (λ (n : ℕ). passes is_set_filling (slice_get (columns_of a) n) ≡ true) same (filling_passes (columns_of a) e is)))
    rebuilt_so c (start.Spread e) is same = inl (is ∙ ap (λ (n : ℕ). Some n) same)

    may_so : (c : ℕ) → MayDieOf g (work_of a) old back c → MayEndDead g a taken back c
    may_so c (inl fail) = inr (inr (inl fail))
    may_so c (inr (inl rebuilt)) = rebuilt_so c rebuilt.0 (named rebuilt.0 rebuilt.1) rebuilt.2
    may_so c (inr (inr (inl fills))) = inr (inl fills)
    may_so c (inr (inr (inr device))) = inr (inr (inr (device.0, device.1, rises_late g taken old back [] device.0 read device.2)))

    -- whatever may die of the devices as they were read may die of those that were taken
    outlives : OutlivesCall g (work_of a) old back
    outlives = λ cols dies. survives cols (dies-more _ (MayEndDead g a taken back) (columns_of a) cols may_so dies)

    ran_well : (newest : Option Label) (o : Outcome) → DoesRun g a failed old back newest o → CommandEndsWell command (status_of o)
    ran_well None (Ran action s) h = run_well s.ending.lost (outlived g (work_of a) old back s h.1 outlives)
    ran_well None (Did act e) h = absurd h
    ran_well (Some l) (Ran action s) h = run_well s.ending.lost (labelled_laws.outlived g (work_of a) l old s back failed (profile_of a.asked.command.action).map h.1 outlives)
    ran_well (Some l) (Did act e) h = absurd (labelled_laws.not-begun-lost g (work_of a) l old (profile_of a.asked.command.action).map e back h.1 outlives)
    ran_well newest (Looked text) h = absurd h

    kill_well : (o : Outcome) → (needs_of a.asked).excused ≡ a.asked.comp → DoesDeed g a failed old back deed.Kills o → CommandEndsWell command (status_of o)
    kill_well (Did act e) named h = done_well command e.lost act (done.Killed h.0) refl (killed g a taken old back read survives h.0 h.1 h.2 e act (named ∙ h.3) h.5) h.5.told
    kill_well (Ran action s) named h = absurd h
    kill_well (Looked text) named h = absurd h

    renewed_well : (newest : Option Label) (kind : Renewal) (e : Ending) (act : Done) → Renews g (layout_of a) (columns_of a) old back act e kind newest → CommandEndsWell command (status_of_done act e.lost)
    renewed_well None renewal.Init e act h = done_well command e.lost act (done.Init h.found) refl (renewed g a taken old back read survives renewal.Init None e act h) h.told
    renewed_well None renewal.Rewrite e act h = done_well command e.lost act (done.Rewrite h.found) refl (renewed g a taken old back read survives renewal.Rewrite None e act h) h.told
    renewed_well (Some l) renewal.Init e act h = done_well command e.lost act (done.Init h.2.found) refl (renewed g a taken old back read survives renewal.Init (Some l) e act h) h.2.told
    renewed_well (Some l) renewal.Rewrite e act h = done_well command e.lost act (done.Rewrite h.2.found) refl (renewed g a taken old back read survives renewal.Rewrite (Some l) e act h) h.2.told

    array_well : (action : Action) (o : Outcome) → a.asked.command.action ≡ action → DoesDeed g a failed old back (profile_of action).deed o → CommandEndsWell command (status_of o)
    array_well (Io beside workers mapped) o same h = ran_well a.opened.newest o h
    array_well (Sweep seed clients ops workers mapped) o same h = ran_well a.opened.newest o h
    array_well Init (Did act e) same h = renewed_well a.opened.newest renewal.Init e act h
    array_well Init (Ran action s) same h = absurd h
    array_well Init (Looked text) same h = absurd h
    array_well Check (Did act e) same h = check_well command e.lost act h.found (sym (ap (λ (c : Command). c.action) command_is) ∙ same) (checked g a taken old back read survives e act h) h.told
    array_well Check (Ran action s) same h = absurd h
    array_well Check (Looked text) same h = absurd h
    array_well Rewrite (Did act e) same h = renewed_well a.opened.newest renewal.Rewrite e act h
    array_well Rewrite (Ran action s) same h = absurd h
    array_well Rewrite (Looked text) same h = absurd h
    array_well (Fail comp) o same h = kill_well o (ap (λ (act : Action). (needs_for act a.asked.comp).excused) same) h
    array_well (Labels serial) (Did act e) same h = done_well command e.lost act (done.Labelled (alive e.columns)) refl (labelled g a taken old back read survives _ h.0 e act h.1) h.1.told
    array_well (Labels serial) (Ran action s) same h = absurd h
    array_well (Labels serial) (Looked text) same h = absurd h
    array_well Show o same h = absurd h
    array_well ShowMap o same h = absurd h
    array_well Print o same h = absurd h
    array_well (ShowLabel comp) o same h = absurd h
    array_well (Rebuild in_place comp limit beside workers mapped) o same h = ran_well a.opened.newest o h
    array_well (Resume limit beside workers mapped) o same h = ran_well a.opened.newest o h

  said_well : (old back : List (Option D)) (said : List ℕ) (o : Outcome) → Says g old back said o → CommandEndsWell command (status_of o)
  said_well old back said (Looked text) h = tt
  said_well old back said (Ran action s) h = absurd h
  said_well old back said (Did act e) h = absurd h

  label_well : (k : Asked) (old back : List (Option D)) (fronts : List Front) (o : Outcome) → Does g (OneLabel k) fronts old back o → CommandEndsWell command (status_of o)
  label_well k old back [] o h = absurd h
  label_well k old back (front ∷ []) o h = said_well old back _ o h
  label_well k old back (front ∷ (other ∷ fronts)) o h = absurd h

  shown_well : (k : Asked) (opened : Opened) (fronts : List Front) (old back : List (Option D)) (o : Outcome) → ShowsArray g k opened fronts old back o → CommandEndsWell command (status_of o)
  shown_well k opened fronts old back o h = subst (λ (x : Outcome). CommandEndsWell command (status_of x)) (sym h.said) tt

  pub due_well : (duty : Duty) (fronts : List Front) (taken old back : List (Option D)) (o : Outcome) → Changes g NoSector taken old → SurvivesCall g duty taken back → (asked_of duty).command ≡ command → IsNamed duty
      → Does g duty fronts old back o → CommandEndsWell command (status_of o)
  due_well (OnArray a) fronts taken old back o read survives command_is named h = array_well a (has_failed a.start fronts) taken old back read survives command_is named a.asked.command.action o refl h
  due_well (Shows k opened) fronts taken old back o read survives command_is named h = shown_well k opened fronts old back o h
  due_well (OneLabel k) fronts taken old back o read survives command_is named h = label_well k old back fronts o h
  due_well (PrintConf k) fronts taken old back o read survives command_is named h = said_well old back _ o h
