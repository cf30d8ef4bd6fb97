-- What may be served, and what came of it.
use Rattle.std.specs.Prelude.{◌≡◌, ◌⊎◌, ◌≤◌, ◌<◌, ◌↔◌, ℕ, Bool, List, [], length, Option, Some, None, IsSome, count_by, slice_get}
use Rattle.blk_disk.specs.Devices.{device_at}
use Rattle.blk_disk.specs.declared.disk.Disk.{Ghosts}
use Rattle.lay_core.specs.Layout.{Shape}
use Rattle.lay_core.specs.declared.layout.Layout.{Ghosts as LayoutGhosts}
use Rattle.eng_array.specs.Fitting.{FitsTrace}
use Rattle.eng_array.specs.declared.start.Start.{Start}
use Rattle.eng_cols.specs.declared.column.Column.{Column}
use Rattle.eng_cols.specs.Cols.{is_set_filling}
use Rattle.eng_events.specs.Opened.{IsSetup}
use Rattle.eng_parts.specs.declared.setup.Setup.{Setup}
use Rattle.raid_label.specs.declared.label.Label.{Label}
use Rattle.top_acts.specs.declared.done.Done.TheVariants as done
use Rattle.top_labelled.specs.Given.{RebuildsIf}
use Rattle.top_labelled.specs.Ran.{IsLostBefore, RanLabelled}
use Rattle.top_rounds.specs.Labels.{IsLabelFor}
use Rattle.top_rounds.specs.Passes.{CanBeLabelled}
use Rattle.top_run.specs.Ran as run
use Rattle.top_run.specs.Work.{Work}
use Rattle.top_run.specs.Works.{service_seen}
use Rattle.top_serve.specs.Setups.{IsFew, IsNotLost}
use Rattle.raid_text.specs.Text.{Text}
use Rattle.top_bay.specs.Lent.{AreBack}
use Rattle.top_duty.specs.Duty.{Admitted, Duty, OnArray, beside_dead}
use Rattle.top_open.specs.declared.fronts.Front.{Front}
use Rattle.top_status.specs.Refusals.{Refused, only}
use Rattle.top_status.specs.declared.status.Status.TheVariants as status
use Rattle.top_words.specs.Asked.{Action, profile_of}
use Rattle.top_words.specs.declared.profile.Deed.{Deed}
use Rattle.top_words.specs.declared.profile.Deed.TheVariants as deed
use Rattle.raid_top.specs.Arrays.{DoesOrder, ending_seen}
use Rattle.raid_top.specs.Does.{Does}
use Rattle.raid_top.specs.Outcome.{Outcome}
use Rattle.raid_top.specs.declared.array.Order.{Order}
use Rattle.raid_top.specs.declared.came.Came.{Came}
use Rattle.raid_top.specs.declared.came.Came.TheVariants as came

-- It is one that a core is opened over: its array isn't lost, it is within the limits, and a trace that is kept has room.
pub record MayServe {L D : Type 0} (lay : LayoutGhosts L) (disk : Ghosts D) (setup : Setup L D) : Type 0 where
  pub opens : IsSetup lay disk setup
  pub few : IsFew setup
  pub trace : FitsTrace lay setup
  pub kept : IsNotLost lay setup

-- Its devices can be labelled, the newest label leaves room for rounds, and a column may be rebuilt so, if one is.
pub record MayLabel {L D : Type 0} (lay : LayoutGhosts L) (disk : Ghosts D) (setup : Setup L D) (start : Option Start) (newest : Label) : Type 0 where
  pub array : CanBeLabelled disk setup.columns.items setup.devices.items
  pub held : IsLabelFor setup.columns.items newest
  pub counter : newest.counter ≤ 4294901760
  pub rebuilds : RebuildsIf lay disk setup start

-- no column of an array without labels is rebuilt
abbrev pub MayLabelIf : {L D : Type 0} → LayoutGhosts L → Ghosts D → Setup L D → Option Start → Option Label → Type 0
MayLabelIf lay disk setup start None = start ≡ None
MayLabelIf lay disk setup start (Some newest) = MayLabel lay disk setup start newest

-- and none is filling
abbrev pub AreUnfilledIf : Option Label → List Column → Type 0
AreUnfilledIf None columns = count_by is_set_filling columns ≡ 0
AreUnfilledIf (Some newest) columns = Unit {0}

-- What came of it, over the devices as they were and as they are in the end: it was served.
abbrev pub ComesPlain : {D : Type 0} → Ghosts D → Work → (old back : List (Option D)) → Came → Type 0
ComesPlain g work old back (came.Ran service) = run.RanPlain g work old (service_seen service) back
ComesPlain g work old back _ = ⊥

-- The same of an array with labels: it was served, or was lost before that. Whether the device onto which a column is rebuilt has failed before, and whether a map is asked for.
abbrev pub ComesLabelled : {D : Type 0} → Ghosts D → Work → Label → (failed map : Bool) → (old back : List (Option D)) → Came → Type 0
ComesLabelled g work newest failed map old back (came.Ran service) = RanLabelled g work newest old (service_seen service) back failed map
ComesLabelled g work newest failed map old back (came.Did act ending) = (act ≡ done.Nothing) × IsLostBefore g work newest old map (ending_seen ending) back
ComesLabelled g work newest failed map old back _ = ⊥

abbrev pub CameOf : {D : Type 0} → Ghosts D → Work → Option Label → (failed map : Bool) → (old back : List (Option D)) → Came → Type 0
CameOf g work None failed map old back c = ComesPlain g work old back c
CameOf g work (Some newest) failed map old back c = ComesLabelled g work newest failed map old back c

-- it was this that was done without a core
abbrev pub ComesOfOrder : {D : Type 0} → Ghosts D → Shape → List Column → (old back : List (Option D)) → Order → Came → Type 0
ComesOfOrder g y columns old back order (came.Did act ending) = DoesOrder g y columns old back act (ending_seen ending) order
ComesOfOrder g y columns old back order _ = ⊥

-- What was due is done, and the devices, as they are then, are put back under the names; one is there exactly where a name isn't empty.
pub record IsPerformed {D : Type 0} (g : Ghosts D) (tells : Type 0) (home after : Text → Option D) (names : List Text) (duty : Duty) (fronts : List Front) (old : List (Option D)) (o : Outcome) : Type 0 where
  pub back : List (Option D)
  pub count : length back ≡ length old
  pub there : (d : ℕ) (n : Text) → d < length back → slice_get names d ≡ Some n → (IsSome (device_at back d)) ↔ (n ≡ [] → ⊥)
  pub does : Does g duty fronts old back o
  pub put : tells → AreBack home after names back

-- memory was wanted: no column is printed dead, or those of the array as it was opened
abbrev pub IsMemory : Duty → Refused → Type 0
IsMemory duty r = (r ≡ only status.Memory) ⊎ ((a : Admitted) × (duty ≡ OnArray a) × (r ≡ beside_dead a status.Memory))

-- clients are served
abbrev pub IsService : Deed → Type 0
IsService deed.Serves = Unit {0}
IsService _ = ⊥

abbrev pub IsRun : Action → Type 0
IsRun action = IsService (profile_of action).deed
