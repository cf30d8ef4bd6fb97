-- Why columns are dead in the end, and by which of them the array is lost.
use Rattle.std.specs.Prelude.{◌≡◌, ◌⊎◌, ℕ, List, [], length, Option, Some, None, slice_get}
use Rattle.blk_disk.specs.Devices.{RisesOn}
use Rattle.blk_disk.specs.declared.disk.Disk.{Ghosts}
use Rattle.lay_core.specs.declared.place.Place.{Place}
use Rattle.lay_core.specs.Layout.{Shape}
use Rattle.eng_cols.specs.declared.column.Column.{Column}
use Rattle.eng_cols.specs.declared.column.Column.TheVariants as column
use Rattle.eng_cols.specs.declared.spot.Loss.{Loss}
use Rattle.eng_cols.specs.Cols.{ColumnState, HasDevice}
use Rattle.top_duty.specs.Duty.{Admitted, Duty, OnArray, Shows, OneLabel, PrintConf, layout_of}
use Rattle.top_duty.specs.Steps.{columns_of, states_in}
use Rattle.top_duty.specs.Opening.{needs_of}
use Rattle.top_labelled.specs.Begun.{IsAnew}
use Rattle.top_close.specs.Stage.{IsGivenUp, IsGivenUpIn}
use Rattle.top_run.specs.Ran.{begun_in}
use Rattle.top_run.specs.Told.{IsToldFailed, IsToldUnbuilt}
use Rattle.top_serve.specs.Served.{IsKeptAs}
use Rattle.top_serve.specs.Setups.{with_start}
use Rattle.raid_top.specs.Outcome.{Outcome, Ran, Did, Looked}
use Rattle.raid_top.specs.Works.{work_of}

-- ## In the end

-- the columns in the end
abbrev pub columns_in_end : Outcome → List Column
columns_in_end (Ran action s) = s.ending.columns
columns_in_end (Did act e) = e.columns
columns_in_end (Looked text) = []

-- by what the array was lost, if it was
abbrev pub loss_of : Outcome → Option Loss
loss_of (Ran action s) = s.ending.lost
loss_of (Did act e) = e.lost
loss_of (Looked text) = None

-- ## Causes

-- The action names the column, to fail it; or to rebuild it anew, and it is told neither to be done nor to be paused; or an item by which it fails was replied ok. Only a run has items.
abbrev pub WasAsked : Admitted → Outcome → ℕ → Type 0
WasAsked a (Ran action s) c = (IsAnew a.start c × IsToldUnbuilt s c) ⊎ IsToldFailed s c
WasAsked a (Did act e) c = (needs_of a.asked).excused ≡ Some c
WasAsked a (Looked text) c = ⊥

-- the columns as they are kept if none dies: as the array was opened, and one that a run rebuilds as its rebuild begins
abbrev pub columns_due : Admitted → Outcome → List Column
columns_due a (Ran action s) = with_start a.start (columns_of a)
columns_due a (Did act e) = columns_of a
columns_due a (Looked text) = columns_of a

-- which of them has which device
abbrev pub states_due : Admitted → Outcome → List ColumnState
states_due a (Ran action s) = begun_in (work_of a)
states_due a (Did act e) = states_in a
states_due a (Looked text) = states_in a

module _ {D : Type 0} (g : Ghosts D) (a : Admitted) (old back : List (Option D)) (o : Outcome) where
  -- It was asked for; its device's count of faults rose; or it was filling as the array was opened, and the array is lost in the end.
  abbrev pub IsCauseOfDeath : ℕ → Type 0
  IsCauseOfDeath c = WasAsked a o c ⊎ (((d : ℕ) × HasDevice (states_due a o) c d × RisesOn g old back d) ⊎ IsGivenUp (loss_of o) (columns_of a) c)

-- ## A loss

-- The column is dead; or it is spread, and that of the stripe's spare place is dead.
abbrev pub IsLostOn : Shape → List Column → ℕ → ℕ → Type 0
IsLostOn y cols s c = (slice_get cols c ≡ Some column.Dead)
    ⊎ ((slice_get cols c ≡ Some column.Spread) × ((p : Place) × (y.spare s ≡ Some p) × (slice_get cols p.column ≡ Some column.Dead)))

-- so it is with both columns of a loss
pub record IsLostByDead (y : Shape) (cols : List Column) (loss : Loss) : Type 0 where
  pub first : IsLostOn y cols loss.stripe loss.first
  pub second : IsLostOn y cols loss.stripe loss.second

-- Whatever was done and however it came to a loss: in the end each column is kept as what it is if none dies, or is dead for a cause; of a lost array no column is filling any more; and both columns of a loss are dead, or spread over a dead one.
pub record DeathsHaveCauses {D : Type 0} (g : Ghosts D) (a : Admitted) (old back : List (Option D)) (o : Outcome) : Type 0 where
  pub count : length (columns_in_end o) ≡ length (columns_of a)
  pub each : (c : ℕ) → IsKeptAs (slice_get (columns_due a o) c) (slice_get (columns_in_end o) c)
      ⊎ ((slice_get (columns_in_end o) c ≡ Some column.Dead) × IsCauseOfDeath g a old back o c)
  pub given_up : IsGivenUpIn (loss_of o) (columns_in_end o)
  pub lost : (loss : Loss) → loss_of o ≡ Some loss → IsLostByDead (layout_of a) (columns_in_end o) loss

-- of an array that something was due with
abbrev pub AreCaused : {D : Type 0} → Ghosts D → Duty → (old back : List (Option D)) → Outcome → Type 0
AreCaused g (OnArray a) old back o = DeathsHaveCauses g a old back o
AreCaused g (Shows k opened) old back o = Unit {0}
AreCaused g (OneLabel k) old back o = Unit {0}
AreCaused g (PrintConf k) old back o = Unit {0}
