-- Both columns of a loss are gone in the end, whatever was done.
use Rattle.std.specs.Prelude.{◌≡◌, ◌⊎◌, ℕ, Bool, List, Option, Some, None, slice_get}
use Rattle.std.proofs.Common.{inl, inr, refl, sym, subst, ◌∙◌}
use Rattle.blk_disk.specs.declared.disk.Disk.{Ghosts}
use Rattle.lay_core.specs.Layout.{Shape}
use Rattle.eng_cols.specs.declared.column.Column.{Column}
use Rattle.eng_cols.specs.declared.column.Column.TheVariants as column
use Rattle.eng_cols.specs.declared.spot.Loss.{Loss}
use Rattle.eng_cols.specs.Deaths.{Dies}
use Rattle.eng_world.specs.declared.item.Traced.{Traced}
use Rattle.eng_world.specs.World.{World}
use Rattle.eng_world.specs.Causes.{IsLossOf}
use Rattle.eng_world.specs.Planning.{Graphs}
use Rattle.raid_label.specs.declared.label.Label.{Label}
use Rattle.top_acts.specs.declared.done.Done.{Done}
use Rattle.top_acts.specs.declared.sweeping.Renewal.{Renewal}
use Rattle.top_acts.specs.declared.sweeping.Renewal.TheVariants as renewal
use Rattle.top_close.specs.Closes.{ClosesAs}
use Rattle.eng_cols.specs.Stripes.{states_of}
use Rattle.top_close.specs.Ended.{IsLossBy}
use Rattle.top_duty.specs.Duty.{Admitted, OnArray, layout_of}
use Rattle.top_duty.specs.Steps.{columns_of}
use Rattle.top_duty.specs.Start.{has_failed}
use Rattle.top_open.specs.declared.fronts.Front.{Front}
use Rattle.top_run.proofs.Caused.{loss-caused}
use Rattle.top_run.specs.Work.{Ending}
use Rattle.top_words.specs.Asked.{profile_of}
use Rattle.top_words.specs.declared.profile.Deed.{Deed}
use Rattle.top_words.specs.declared.profile.Deed.TheVariants as deed
use Rattle.raid_top.specs.Arrays.{Renews}
use Rattle.raid_top.specs.Does.{Does, DoesDeed, DoesRun}
use Rattle.raid_top.specs.Losses.{columns_in_end, loss_of}
use Rattle.raid_top.specs.Outcome.{Outcome, Ran, Did, Looked}
use Rattle.raid_top.proofs.Gone.{AreGone, run_are_gone, set_are_gone}

abbrev pub LossIsOfGone : Shape → Outcome → Type 0
LossIsOfGone y o = (loss : Loss) → loss_of o ≡ Some loss → AreGone y (columns_in_end o) loss

-- what died for a cause is what it was, or dead
only_dies : (cause : ℕ → Type 0) (old new : List Column) → Dies cause old new → (c : ℕ) → (slice_get new c ≡ slice_get old c) ⊎ (slice_get new c ≡ Some column.Dead)
only_dies cause old new dies c = elim (dies.each c) [ inl same ↦ inl same | inr dead ↦ inr dead.0 ]

-- the loss is that of the columns in the end
end_loss : (y : Shape) (last : List Column) (lost : Option Loss) (loss : Loss) → lost ≡ Some loss → IsLossBy y None (states_of y last) lost → AreGone y last loss
end_loss y last None loss e is = absurd (let z : ⊥ = cc e in z)
end_loss y last (Some other) loss e is =
    let same : other ≡ loss = cc e in
    subst (λ (l : Loss). AreGone y last l) same (set_are_gone y last other is)

-- ## Runs

module _ (y : Shape) (graphs : Graphs) (start : World) (events : List Traced) (now : World) (kept last : List Column) (closes : ClosesAs y now.columns kept) (cause : ℕ → Type 0) (dies : Dies cause kept last)
    (why : (loss : Loss) → now.lost ≡ Some loss → IsLossOf y graphs start events now loss) where
  run_loss : (lost : Option Loss) (loss : Loss) → lost ≡ Some loss → IsLossBy y now.lost (states_of y last) lost → AreGone y last loss
  run_loss lost loss e is = go now.lost refl is
    where
      go : (was : Option Loss) → now.lost ≡ was → IsLossBy y was (states_of y last) lost → AreGone y last loss
      go None none is = end_loss y last lost loss e is
      go (Some other) in_run is =
          let z : Some other ≡ Some loss = sym is ∙ e in
          let same : other ≡ loss = cc in
          let was = why other in_run in
          subst (λ (l : Loss). AreGone y last l) same (run_are_gone y was.after.columns now.columns kept last other was.is_lost closes was.each (only_dies cause kept last dies))

-- ## Without a core

module _ {D : Type 0} (g : Ghosts D) where
  module _ (y : Shape) (columns : List Column) (old back : List (Option D)) (act : Done) (e : Ending) where
    renewed_loss : (kind : Renewal) (newest : Option Label) → Renews g y columns old back act e kind newest → LossIsOfGone y (Did act e)
    renewed_loss kind None h loss is = end_loss y e.columns e.lost loss is h.lost_is
    renewed_loss kind (Some l) h loss is = end_loss y e.columns e.lost loss is h.2.lost_is

  module _ (a : Admitted) (failed : Bool) (old back : List (Option D)) where
    run_gone : (newest : Option Label) (o : Outcome) → DoesRun g a failed old back newest o → LossIsOfGone (layout_of a) o
    run_gone None (Ran action s) h loss is =
        let r = h.1.run in
        run_loss (layout_of a) r.graphs r.start r.events r.now r.ends.kept s.ending.columns r.ends.closes _ r.ends.dies (loss-caused g _ _ back s r) s.ending.lost loss is r.ends.lost
    run_gone None (Did act e) h loss is = absurd h
    run_gone (Some newest) (Ran action s) h loss is =
        let r = h.1.run in
        run_loss (layout_of a) r.graphs r.start r.events r.now r.ends.kept s.ending.columns r.ends.closes _ r.ends.dies (loss-caused g _ _ back s r) s.ending.lost loss is r.ends.lost
    run_gone (Some newest) (Did act e) h loss is =
        let b = h.1 in
        let same : b.loss ≡ loss = (let z : Some b.loss ≡ Some loss = sym b.lost ∙ is in cc z) in
        subst (λ (l : Loss). AreGone (layout_of a) e.columns l) same (set_are_gone (layout_of a) e.columns b.loss b.lost_is)
    run_gone newest (Looked text) h loss is = absurd h

    deed_gone : (d : Deed) (o : Outcome) → DoesDeed g a failed old back d o → LossIsOfGone (layout_of a) o
    deed_gone deed.Serves o h = run_gone a.opened.newest o h
    deed_gone deed.Looks o h = absurd h
    deed_gone deed.Checks (Did act e) h = λ loss is. end_loss (layout_of a) e.columns e.lost loss is h.lost_is
    deed_gone deed.Checks (Ran action s) h = absurd h
    deed_gone deed.Checks (Looked text) h = absurd h
    deed_gone deed.Inits (Did act e) h = renewed_loss (layout_of a) (columns_of a) old back act e renewal.Init a.opened.newest h
    deed_gone deed.Inits (Ran action s) h = absurd h
    deed_gone deed.Inits (Looked text) h = absurd h
    deed_gone deed.Rewrites (Did act e) h = renewed_loss (layout_of a) (columns_of a) old back act e renewal.Rewrite a.opened.newest h
    deed_gone deed.Rewrites (Ran action s) h = absurd h
    deed_gone deed.Rewrites (Looked text) h = absurd h
    deed_gone deed.Kills (Did act e) h = λ loss is. end_loss (layout_of a) e.columns e.lost loss is h.5.lost_is
    deed_gone deed.Kills (Ran action s) h = absurd h
    deed_gone deed.Kills (Looked text) h = absurd h
    deed_gone (deed.Labels serial) (Did act e) h = λ loss is. end_loss (layout_of a) e.columns e.lost loss is h.1.lost_is
    deed_gone (deed.Labels serial) (Ran action s) h = absurd h
    deed_gone (deed.Labels serial) (Looked text) h = absurd h

  pub array_gone : (a : Admitted) (fronts : List Front) (old back : List (Option D)) (o : Outcome) → Does g (OnArray a) fronts old back o → LossIsOfGone (layout_of a) o
  array_gone a fronts old back o h =
      deed_gone a (has_failed a.start fronts) old back (profile_of a.asked.command.action).deed o h
