-- Where a call ended well, each item of its clients has the reply that it ought to have.
use Rattle.std.specs.Prelude.{◌≡◌, Bool, List, Option, Some, None}
use Rattle.std.proofs.Common.{refl}
use Rattle.blk_disk.specs.declared.disk.Disk.{Ghosts}
use Rattle.eng_cols.specs.declared.spot.Loss.{Loss}
use Rattle.raid_label.specs.declared.label.Label.{Label}
use Rattle.raid_text.specs.Text.{Text}
use Rattle.top_duty.specs.Duty.{Admitted}
use Rattle.top_duty.specs.Start.{has_failed}
use Rattle.top_fetch.specs.Told.{Told}
use Rattle.top_labelled.specs.Begun.{opened_as, without}
use Rattle.top_run.proofs.Outlived.{answered, runs-answered}
use Rattle.top_status.specs.Status.{status_of_loss}
use Rattle.top_words.specs.Judged.{Invocation, Tell, OnArray as OfCommand, OnConf, Scan, Simulate}
use Rattle.raid_top.specs.Calls.{CallOutcome, OfArray, OfConf, OfScan, OfSimulation, OfTopic, Refuses, call_status}
use Rattle.raid_top.specs.Does.{DoesRun}
use Rattle.raid_top.specs.Ends.{EndsWell, Follows, IsAnswered}
use Rattle.raid_top.specs.Outcome.{Outcome, Ran, Did, Looked, status_of}
use Rattle.raid_top.specs.Runs.{IsRunAnswered}
use Rattle.raid_top.specs.Works.{work_of}
use Rattle.raid_top.proofs.Lifted.{if_ran}

module _ {D : Type 0} (g : Ghosts D) (b : Told D) (words : List Text) where
  -- what ended well wasn't lost
  not_lost : (lost : Option Loss) → EndsWell words (status_of_loss lost) → lost ≡ None
  not_lost None well = refl
  not_lost (Some loss) well = absurd well

  module _ (a : Admitted) (failed : Bool) (old back : List (Option D)) where
    run_answered : (newest : Option Label) (o : Outcome) (h : DoesRun g a failed old back newest o) → EndsWell words (status_of o) → IsRunAnswered g a failed old back newest o h
    run_answered None (Ran action s) h well = answered g (work_of a) old back s h.1 (not_lost s.ending.lost well)
    run_answered None (Did act e) h well = absurd h
    run_answered None (Looked text) h well = absurd h
    run_answered (Some newest) (Ran action s) h well =
        runs-answered g (opened_as (work_of a) (without a.start h.1.begun) h.1.began) h.1.opened back s h.1.run (not_lost s.ending.lost well)
    run_answered (Some newest) (Did act e) h well = tt
    run_answered (Some newest) (Looked text) h well = absurd h

  pub is_answered : (i : Invocation) (o : CallOutcome) (h : Follows g b i o) → EndsWell words (call_status o) → IsAnswered g b i o h
  is_answered (OfCommand command) (OfArray o) h well =
      if_ran g (IsRunAnswered g) h.duty h.fronts h.old h.back o h.does (λ a is newest y. run_answered a (has_failed a.start h.fronts) h.old h.back newest o y well)
  is_answered (OfCommand command) (OfScan text) h well = absurd h
  is_answered (OfCommand command) (OfSimulation text) h well = absurd h
  is_answered (OfCommand command) (OfConf text) h well = absurd h
  is_answered (OfCommand command) (OfTopic text) h well = absurd h
  is_answered (OfCommand command) (Refuses r) h well = absurd h
  is_answered (Tell topic) o h well = tt
  is_answered (Scan list) o h well = tt
  is_answered (Simulate name order) o h well = tt
  is_answered (OnConf name asked) o h well = tt
