-- What is so of each run is so of a call, where it served clients.
use Rattle.std.specs.Prelude.{◌≡◌, Bool, List, Option}
use Rattle.std.proofs.Common.{refl}
use Rattle.blk_disk.specs.declared.disk.Disk.{Ghosts}
use Rattle.raid_label.specs.declared.label.Label.{Label}
use Rattle.top_open.specs.declared.fronts.Front.{Front}
use Rattle.top_words.specs.Asked.{profile_of}
use Rattle.top_words.specs.declared.profile.Deed.{Deed}
use Rattle.top_words.specs.declared.profile.Deed.TheVariants as deed
use Rattle.top_duty.specs.Duty.{Admitted, Duty, OnArray, Shows, OneLabel, PrintConf}
use Rattle.top_duty.specs.Start.{has_failed}
use Rattle.raid_top.specs.Does.{Does, DoesDeed, DoesRun}
use Rattle.raid_top.specs.Outcome.{Outcome}
use Rattle.raid_top.specs.Runs.{IfRan, IfServed}

module _ {D : Type 0} (g : Ghosts D) (P : (a : Admitted) (failed : Bool) (old back : List (Option D)) (newest : Option Label) (o : Outcome) → DoesRun g a failed old back newest o → Type 0) where
  served : (a : Admitted) (failed : Bool) (old back : List (Option D)) (o : Outcome) → ((newest : Option Label) (h : DoesRun g a failed old back newest o) → P a failed old back newest o h)
      → (d : Deed) (h : DoesDeed g a failed old back d o) → IfServed g P a failed old back d o h
  served a failed old back o each deed.Serves h = each a.opened.newest h
  served a failed old back o each deed.Looks h = tt
  served a failed old back o each deed.Checks h = tt
  served a failed old back o each deed.Inits h = tt
  served a failed old back o each deed.Rewrites h = tt
  served a failed old back o each deed.Kills h = tt
  served a failed old back o each (deed.Labels serial) h = tt

  pub if_ran : (duty : Duty) (fronts : List Front) (old back : List (Option D)) (o : Outcome) (h : Does g duty fronts old back o)
      → ((a : Admitted) → duty ≡ OnArray a → (newest : Option Label) (y : DoesRun g a (has_failed a.start fronts) old back newest o) → P a (has_failed a.start fronts) old back newest o y)
      → IfRan g P duty fronts old back o h
  if_ran (OnArray a) fronts old back o h each = served a (has_failed a.start fronts) old back o (each a refl) (profile_of a.asked.command.action).deed h
  if_ran (Shows k opened) fronts old back o h each = tt
  if_ran (OneLabel k) fronts old back o h each = tt
  if_ran (PrintConf k) fronts old back o h each = tt
