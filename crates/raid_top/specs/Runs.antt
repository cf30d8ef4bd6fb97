-- What is so of each run in which clients were served, and of a call where it served them.
use Rattle.std.specs.Prelude.{◌≡◌, Bool, List, Option, Some, None}
use Rattle.blk_disk.specs.Devices.{contents_of}
use Rattle.blk_disk.specs.declared.disk.Disk.{Ghosts}
use Rattle.eng_array.specs.declared.start.Start.{Start}
use Rattle.eng_cols.specs.Contents.{decode}
use Rattle.raid_label.specs.declared.label.Label.{Label}
use Rattle.top_open.specs.declared.fronts.Front.{Front}
use Rattle.top_words.specs.Asked.{profile_of}
use Rattle.top_words.specs.declared.profile.Deed.{Deed}
use Rattle.top_words.specs.declared.profile.Deed.TheVariants as deed
use Rattle.top_duty.specs.Duty.{Admitted, Duty, OnArray, layout_of}
use Rattle.top_duty.specs.Steps.{states_in}
use Rattle.top_duty.specs.Start.{has_failed}
use Rattle.top_run.specs.InTurn.{SweptInTurn}
use Rattle.top_run.specs.Outliving.{AllAnswered}
use Rattle.top_run.specs.Rebuilding.{IsWorth, RebuildIsDone}
use Rattle.top_labelled.specs.Begun.{opened_as, without}
use Rattle.raid_top.specs.Does.{Does, DoesDeed, DoesRun}
use Rattle.raid_top.specs.Outcome.{Outcome, Ran}
use Rattle.raid_top.specs.Works.{work_of}

module _ {D : Type 0} (g : Ghosts D) where
  module _ (a : Admitted) (failed : Bool) (old back : List (Option D)) where
    -- each item of its clients has the reply that it ought to have
    abbrev pub IsRunAnswered : (newest : Option Label) (o : Outcome) → DoesRun g a failed old back newest o → Type 0
    IsRunAnswered None (Ran action s) h = AllAnswered g (work_of a) old back s h.1.run
    IsRunAnswered (Some newest) (Ran action s) h = AllAnswered g (opened_as (work_of a) (without a.start h.1.begun) h.1.began) h.1.opened back s h.1.run
    IsRunAnswered newest o h = Unit {0}

    -- unless the array is lost, its clients leave, and are replied, what they would one after another
    abbrev pub IsRunInTurn : (newest : Option Label) (o : Outcome) → DoesRun g a failed old back newest o → Type 0
    IsRunInTurn None (Ran action s) h = s.ending.lost ≡ None → SweptInTurn g (work_of a) old s back (decode (layout_of a) (contents_of g old) (states_in a))
    IsRunInTurn (Some newest) (Ran action s) h = s.ending.lost ≡ None
        → SweptInTurn g (opened_as (work_of a) (without a.start h.1.begun) h.1.began) h.1.opened s back h.1.run.start.blocks
    IsRunInTurn newest o h = Unit {0}

    -- where a rebuild is done its column's units are there again
    abbrev pub IsRunWorth : (newest : Option Label) (o : Outcome) → DoesRun g a failed old back newest o → Type 0
    IsRunWorth (Some newest) (Ran action s) h = (how : Start)
        → RebuildIsDone g (opened_as (work_of a) (without a.start h.1.begun) h.1.began) h.1.opened back s h.1.run how
        → IsWorth g (opened_as (work_of a) (without a.start h.1.begun) h.1.began) h.1.opened back s h.1.run how
    IsRunWorth newest o h = Unit {0}

  -- This is so of the run, where there was one.
  module _ (P : (a : Admitted) (failed : Bool) (old back : List (Option D)) (newest : Option Label) (o : Outcome) → DoesRun g a failed old back newest o → Type 0) where
    abbrev pub IfServed : (a : Admitted) (failed : Bool) (old back : List (Option D)) (d : Deed) (o : Outcome) → DoesDeed g a failed old back d o → Type 0
    IfServed a failed old back deed.Serves o h = P a failed old back a.opened.newest o h
    IfServed a failed old back d o h = Unit {0}

    abbrev pub IfRan : (duty : Duty) (fronts : List Front) (old back : List (Option D)) (o : Outcome) → Does g duty fronts old back o → Type 0
    IfRan (OnArray a) fronts old back o h = IfServed a (has_failed a.start fronts) old back (profile_of a.asked.command.action).deed o h
    IfRan duty fronts old back o h = Unit {0}
