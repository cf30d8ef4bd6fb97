-- What comes of a list of components, of requests to a simulated disk, or of a configuration alone, is what the words ask for, or is refused so.
use Rattle.std.specs.Prelude.{◌≡◌, Result, Ok}
use Rattle.std.proofs.Common.{refl, inl, inr}
use Rattle.blk_disk.specs.Devices.{StaysIf}
use Rattle.blk_disk.specs.declared.disk.Disk.{Ghosts}
use Rattle.raid_text.specs.Text.{Text}
use Rattle.sim_queue.specs.declared.request.Queue.{Queue}
use Rattle.top_fetch.specs.Answers.{IsEarly, RefusedAs}
use Rattle.top_fetch.specs.Told.{Told}
use Rattle.top_scan.specs.Looks.{AreLookedAt}
use Rattle.top_scan.specs.Scanned.{IsComplete, IsScannedInPart, names_in}
use Rattle.top_scan.specs.declared.scanning.Scanned.{Scanned}
use Rattle.top_sim.specs.Asked.{workload_by}
use Rattle.top_sim.specs.Simulated.{IsSimulated, workload_in}
use Rattle.top_sim.specs.declared.simulating.Simulated.{Simulated}
use Rattle.top_status.specs.declared.status.Status.{Status}
use Rattle.top_status.specs.declared.status.Status.TheVariants as status
use Rattle.top_status.specs.Refusals.{Refused, only}
use Rattle.top_duty.specs.Taken.{AreUntouched}
use Rattle.top_duty.specs.Views.{IsRefusal}
use Rattle.top_duty.proofs.Returning.{same_stays}
use Rattle.top_study.specs.Studied.{study_in}
use Rattle.top_words.specs.Judged.{OnConf, Scan, Simulate}
use Rattle.top_words.specs.declared.study.Study.{Study}
use Rattle.raid_top.specs.Ends.{Follows}
use Rattle.raid_top.specs.Finished.{told_of_scan, told_of_simulation}
use Rattle.raid_top.specs.Refused.{IsRefusedAs, IsRefusedOf}

module _ (rose : Type 0) where
  -- what is refused before an array is opened is a refusal
  pub early_is : (s : Status) → IsEarly s → (s ≡ status.BayFault → rose) → IsRefusal rose s
  early_is (status.Usage i) early cause = tt
  early_is (status.Conf l c) early cause = tt
  early_is (status.Script l c) early cause = tt
  early_is (status.GraphText l c) early cause = tt
  early_is status.BayFault early cause = cause refl
  early_is (status.NoFile n) early cause = tt
  early_is (status.LongText n) early cause = tt
  early_is status.Memory early cause = tt
  early_is status.Ok early cause = absurd early
  early_is status.SinkFault early cause = absurd early
  early_is (status.Lost f s t) early cause = absurd early
  early_is (status.Label f s t u) early cause = absurd early
  early_is (status.Small f s t) early cause = absurd early
  early_is (status.NotInSync n) early cause = absurd early
  early_is status.NoSpare early cause = absurd early
  early_is status.NoRebuild early cause = absurd early
  early_is (status.Rebuilding column) early cause = absurd early

  -- and has the cause that is wanted
  pub refused_as : {A : Type 0} (s : Status) (wanted : Result A Refused) → IsEarly s → (s ≡ status.BayFault → rose) → RefusedAs s wanted → IsRefusedAs rose wanted (only s)
  refused_as status.BayFault wanted early cause h = inr (inl (refl, cause refl))
  refused_as status.Memory wanted early cause h = inr (inr refl)
  refused_as (status.Usage i) wanted early cause h = inl h
  refused_as (status.Conf l c) wanted early cause h = inl h
  refused_as (status.Script l c) wanted early cause h = inl h
  refused_as (status.GraphText l c) wanted early cause h = inl h
  refused_as (status.NoFile n) wanted early cause h = inl h
  refused_as (status.LongText n) wanted early cause h = inl h
  refused_as status.Ok wanted early cause h = absurd early
  refused_as status.SinkFault wanted early cause h = absurd early
  refused_as (status.Lost f s t) wanted early cause h = absurd early
  refused_as (status.Label f s t u) wanted early cause h = absurd early
  refused_as (status.Small f s t) wanted early cause h = absurd early
  refused_as (status.NotInSync n) wanted early cause h = absurd early
  refused_as status.NoSpare wanted early cause h = absurd early
  refused_as status.NoRebuild wanted early cause h = absurd early
  refused_as (status.Rebuilding column) wanted early cause h = absurd early

module _ {D : Type 0} (g : Ghosts D) (b : Told D) where
  -- ## A list of components

  pub scan_follows : (list : Text) (s : Scanned) → (b.tells → names_in b.texts b.home list ≡ Ok s.names.items) → AreLookedAt g b.tells b.home b.after s.names.items s.fronts.items
      → IsComplete s.names.items s.fronts.items s.sets.sets s.sets.places → Follows g b (Scan list) (told_of_scan s)
  scan_follows list s listed looked complete = record {
    names = s.names.items;
    fronts = s.fronts.items;
    sets = s.sets.sets;
    places = s.sets.places;
    listed = listed;
    looked = looked;
    complete = complete;
    told = refl;
  }

  pub scan_refused : (list : Text) (s : Status) → IsEarly s → (s ≡ status.BayFault → b.rose) → (b.tells → RefusedAs s (names_in b.texts b.home list))
      → (b.tells → IsScannedInPart g b.tells b.texts b.home b.after list) → (b.tells → (n : Text) → StaysIf g (λ _. ⊥) (b.home n) (b.after n)) → IsRefusedOf g b (Scan list) (only s)
  scan_refused list s early cause wanted part same = record {
    kind = early_is b.rose s early cause;
    told = λ topic. topic;
    cause = λ told. (refused_as b.rose s (names_in b.texts b.home list) early cause (wanted told), part told);
    same = same;
  }

  -- ## Requests to a simulated disk

  pub simulation_follows : (name : Text) (order : Queue) (s : Simulated) → (b.tells → workload_in b.texts name ≡ Ok (workload_by s.sectors s.requests.items))
      → IsSimulated order s.sectors s.requests.items s.services.items s.replies → (b.tells → (n : Text) → b.after n ≡ b.home n) → Follows g b (Simulate name order) (told_of_simulation s)
  simulation_follows name order s asked simulated same = record {
    sectors = s.sectors;
    requests = s.requests.items;
    services = s.services.items;
    replies = s.replies;
    asked = asked;
    simulated = simulated;
    told = refl;
    same = same;
  }

  pub simulation_refused : (name : Text) (order : Queue) (s : Status) → IsEarly s → (s ≡ status.BayFault → b.rose) → (b.tells → RefusedAs s (workload_in b.texts name))
      → (b.tells → AreUntouched g b) → IsRefusedOf g b (Simulate name order) (only s)
  simulation_refused name order s early cause wanted same = record {
    kind = early_is b.rose s early cause;
    told = λ topic. topic;
    cause = λ told. (refused_as b.rose s (workload_in b.texts name) early cause (wanted told), same told);
    same = λ told n. same_stays g (b.home n) (b.after n) (same told n);
  }

  -- ## A configuration alone

  pub study_refused : (name : Text) (asked : Study) (s : Status) → IsEarly s → (s ≡ status.BayFault → b.rose) → (b.tells → RefusedAs s (study_in b.texts name asked))
      → (b.tells → AreUntouched g b) → IsRefusedOf g b (OnConf name asked) (only s)
  study_refused name asked s early cause wanted same = record {
    kind = early_is b.rose s early cause;
    told = λ topic. topic;
    cause = λ told. (refused_as b.rose s (study_in b.texts name asked) early cause (wanted told), same told);
    same = λ told n. same_stays g (b.home n) (b.after n) (same told n);
  }
