-- An array that outlives the call isn't lost in the end.
use Rattle.std.specs.Prelude.{◌≡◌, ℕ, zero, suc, List, [], Option, Some, None, slice_get}
use Rattle.std.proofs.Common.{refl, sym, ap, subst, inl, inr, ◌∙◌}
use Rattle.blk_disk.specs.declared.disk.Disk.{Ghosts}
use Rattle.blk_disk.specs.Devices.{Changes, RisesOn}
use Rattle.lay_core.specs.Layout.{Shape}
use Rattle.eng_cols.specs.declared.column.Column.{Column}
use Rattle.eng_cols.specs.declared.spot.Loss.{Loss}
use Rattle.eng_cols.specs.Cols.{ColumnState, HasDevice}
use Rattle.eng_cols.specs.Deaths.{Dies}
use Rattle.eng_cols.specs.Lost.{NotLost}
use Rattle.eng_cols.specs.Stripes.{states_of}
use Rattle.eng_cols.proofs.Losing.{lost-excludes}
use Rattle.raid_label.specs.declared.label.Label.{Label}
use Rattle.top_close.specs.Ended.{IsLossBy}
use Rattle.top_acts.specs.declared.done.Done.{Done}
use Rattle.top_acts.specs.declared.done.Done.TheVariants as done
use Rattle.top_acts.specs.declared.sweeping.Renewal.{Renewal}
use Rattle.top_acts.specs.Checked.{IsChecked}
use Rattle.top_acts.specs.Done.{unless_lost}
use Rattle.top_acts.specs.Killed.{IsKilled}
use Rattle.top_acts.specs.Alive.{EndsAlive}
use Rattle.top_acts.specs.Labelled.{IsFirstLabelled}
use Rattle.top_acts.proofs.Kills.{alive_died, alive_given}
use Rattle.top_close.specs.Stage.{DiesIn, IsGivenUp}
use Rattle.top_status.specs.declared.status.Status.{Status}
use Rattle.top_status.specs.declared.status.Status.TheVariants as status
use Rattle.top_words.specs.Asked.{Command, Check}
use Rattle.top_duty.specs.Duty.{Admitted, layout_of}
use Rattle.top_duty.specs.Steps.{columns_of, states_in}
use Rattle.top_duty.specs.Opening.{needs_of}
use Rattle.top_run.specs.Work.{Ending}
use Rattle.top_serve.specs.Served.{IsKeptAs}
use Rattle.raid_top.specs.Arrays.{Renews}
use Rattle.raid_top.specs.Acted.{CommandEndsWell, MayEndDead}
use Rattle.raid_top.specs.Outcome.{status_of_act}
use Rattle.raid_top.specs.Words.{status_of_done}
use Rattle.raid_top.proofs.Deaths.{checked_dies, died_as, labelled_dies, renewed_dies}
use Rattle.raid_top.proofs.Failing.{kept_same, outlives_failing}
use Rattle.raid_top.proofs.Reading.{NoSector, rises_late}

-- an array that isn't lost by its columns isn't said to be
pub not_lost : (y : Shape) (cols : List ColumnState) (lost : Option Loss) → IsLossBy y None cols lost → NotLost y cols → lost ≡ None
not_lost y cols None is kept = refl
not_lost y cols (Some loss) is kept = absurd (lost-excludes y cols loss is kept)

-- ## What was done

module _ {D : Type 0} (g : Ghosts D) (a : Admitted) (taken old back : List (Option D)) (read : Changes g NoSector taken old) where
  abbrev may : ℕ → Type 0
  may = MayEndDead g a taken back

  rises : (c d : ℕ) → HasDevice (states_in a) c d → RisesOn g old back d → may c
  rises c d had rose = inr (inr (inr (d, had, rises_late g taken old back [] d read rose)))

  gives : (lost : Option Loss) (c : ℕ) → IsGivenUp lost (columns_of a) c → may c
  gives None c gave = absurd gave
  gives (Some loss) c gave = inr (inl gave)

  module _ (survives : (cols : List Column) → Dies may (columns_of a) cols → NotLost (layout_of a) (states_of (layout_of a) cols)) where
    kept : (after : List Column) (lost : Option Loss) → Dies may (columns_of a) after → IsLossBy (layout_of a) None (states_of (layout_of a) after) lost → lost ≡ None
    kept after lost dies is = not_lost (layout_of a) (states_of (layout_of a) after) lost is (survives after dies)

    pub checked : (e : Ending) (act : Done) → IsChecked g (layout_of a) (columns_of a) e.columns old back e.lost act → e.lost ≡ None
    checked e act h = kept e.columns e.lost (checked_dies g (layout_of a) (columns_of a) old back may rises act e (gives e.lost) h) h.lost_is

    pub renewed : (kind : Renewal) (newest : Option Label) (e : Ending) (act : Done) → Renews g (layout_of a) (columns_of a) old back act e kind newest → e.lost ≡ None
    renewed kind None e act h = kept e.columns e.lost (renewed_dies g (layout_of a) (columns_of a) old back may rises act e (gives e.lost) kind None h) h.lost_is
    renewed kind (Some l) e act h = kept e.columns e.lost (renewed_dies g (layout_of a) (columns_of a) old back may rises act e (gives e.lost) kind (Some l) h) h.2.lost_is

    -- of those that a death has left one may be filling with fewer stripes
    module _ (c : ℕ) (l next : Label) (e : Ending) (act : Done) (named : (needs_of a.asked).excused ≡ Some c) (h : IsKilled g (layout_of a) c l next (columns_of a) e.columns old back e.lost act) where
      of_left : (lost : Option Loss) (k : ℕ) → slice_get h.left k ≡ slice_get (columns_of a) k → DiesIn g lost h.left old back k → may k
      of_left lost k same why =
          died_as g (layout_of a) (columns_of a) old back may rises lost (gives lost) h.left k
          (subst (λ (o : Option Column). IsKeptAs (slice_get (columns_of a) k) o) (sym same) (kept_same (slice_get (columns_of a) k))) why

      by_loss : (lost : Option Loss) → EndsAlive g (layout_of a) l next h.left e.columns old back lost → IsLossBy (layout_of a) None (states_of (layout_of a) e.columns) lost → lost ≡ None
      by_loss None ends is = refl
      by_loss (Some loss) ends is =
          not_lost (layout_of a) (states_of (layout_of a) e.columns) (Some loss) is
          (outlives_failing (layout_of a) (columns_of a) h.left e.columns c (record { entries = h.entries; kept = h.kept }) (DiesIn g (Some loss) h.left old back) may
          (alive_died g (layout_of a) l next h.left e.columns old back (Some loss) ends) (inl named) (λ k fills. inr (inl fills)) (of_left (Some loss))
          (alive_given g (layout_of a) l next h.left e.columns old back (Some loss) ends) survives)

      pub killed : e.lost ≡ None
      killed = by_loss e.lost (record { mid = h.mid; dev = h.dev; before = h.before; settles = h.settles; lost_is = h.before_is; ends = h.ends }) h.lost_is

    pub labelled : (l next : Label) (e : Ending) (act : Done) → IsFirstLabelled g (layout_of a) l next (columns_of a) e.columns old back e.lost act → e.lost ≡ None
    labelled l next e act h = kept e.columns e.lost (labelled_dies g (layout_of a) (columns_of a) old back may rises act e (gives e.lost) l next h) h.lost_is

-- ## How it ends

module _ (command : Command) where
  -- stripes were tested
  pub check_well : (lost : Option Loss) (act : Done) (n : ℕ) → command.action ≡ Check → lost ≡ None → act ≡ unless_lost lost (done.Check n) → CommandEndsWell command (status_of_done act lost)
  check_well lost act n check none told =
      subst (λ (l : Option Loss). CommandEndsWell command (status_of_done act l)) (sym none)
      (subst (λ (x : Done). CommandEndsWell command (status_of_act x)) (sym (told ∙ ap (λ (l : Option Loss). unless_lost l (done.Check n)) none)) (of n))
    where
      of : (k : ℕ) → CommandEndsWell command (status_of_act (done.Check k))
      of zero = tt
      of (suc k) = check

  -- or something else was done, of which the status is ok
  pub done_well : (lost : Option Loss) (act is : Done) → status_of_act is ≡ status.Ok → lost ≡ None → act ≡ unless_lost lost is → CommandEndsWell command (status_of_done act lost)
  done_well lost act is ok none told =
      subst (λ (l : Option Loss). CommandEndsWell command (status_of_done act l)) (sym none)
      (subst (λ (x : Done). CommandEndsWell command (status_of_act x)) (sym (told ∙ ap (λ (l : Option Loss). unless_lost l is) none))
      (subst (λ (s : Status). CommandEndsWell command s) (sym ok) tt))
