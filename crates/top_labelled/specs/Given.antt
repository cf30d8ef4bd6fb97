-- What is handed in, and what came of it.
use Rattle.std.specs.Prelude.{◌≤◌, ◌<◌, ◌*◌, ℕ, List, length, Option, Some, None}
use Rattle.std.specs.Vec.{with_item}
use Rattle.blk_disk.specs.declared.disk.Disk.{Ghosts as DiskGhosts}
use Rattle.lay_core.specs.declared.layout.Layout.{Ghosts as LayoutGhosts}
use Rattle.eng_array.specs.Fitting.{FitsTrace}
use Rattle.eng_array.specs.Starts.{column_of}
use Rattle.eng_array.specs.declared.start.Start.{Start}
use Rattle.eng_array.specs.declared.start.Start.TheVariants as start
use Rattle.eng_cols.specs.declared.column.Column.TheVariants as column
use Rattle.eng_cols.specs.Cols.{IsFor}
use Rattle.eng_events.specs.Opened.{IsSetup}
use Rattle.eng_parts.specs.declared.setup.Setup.{Setup}
use Rattle.raid_script.specs.Replies.{StandFor}
use Rattle.top_rounds.specs.Labels.{IsLabelFor}
use Rattle.top_rounds.specs.Passes.{CanBeLabelled}
use Rattle.top_run.specs.Work.{Ending as End}
use Rattle.top_run.specs.Works.{service_seen, work_of}
use Rattle.top_serve.specs.Setups.{IsFew, IsNotLost, MayStart, shape_in}
use Rattle.top_labelled.specs.declared.labelled.Labelled.{Labelled}
use Rattle.top_labelled.specs.declared.labelled.Outcome.{Outcome}
use Rattle.top_labelled.specs.declared.labelled.Outcome.TheVariants as outcome
use Rattle.top_close.specs.declared.ending.Ending.{Ending}
use Rattle.top_labelled.specs.Begun.{IsAlone, IsSeated}
use Rattle.top_labelled.specs.Ran.{RanLabelled, IsLostBefore}

-- the end of an array, as it is spoken of
abbrev pub end_seen : Ending → End
end_seen e = record { columns = e.columns.items; lost = e.lost }

-- the setup with this column dead
abbrev pub with_dead : {L D : Type 0} → Setup L D → ℕ → Setup L D
with_dead setup c = record setup { columns = with_item setup.columns c column.Dead }

-- the setup with that column dead which is to be rebuilt anew
abbrev pub before_start : {L D : Type 0} → Setup L D → Start → Setup L D
before_start setup (start.Fill c d most) = with_dead setup c
before_start setup (start.Resume c most) = setup
before_start setup (start.Spread c) = with_dead setup c

module _ {L D : Type 0} (lay : LayoutGhosts L) (disk : DiskGhosts D) where
  -- The column is there, and no other is filling. Were it dead, where it is to be rebuilt anew, the array wasn't lost, and it could be rebuilt so; and the device has a seat onto which that goes.
  pub record IsRebuildable (setup : Setup L D) (s : Start) : Type 0 where
    pub within : column_of s < length setup.columns.items
    pub alone : IsAlone (Some s) setup.columns.items
    pub kept : IsNotLost lay (before_start setup s)
    pub may : MayStart lay disk (before_start setup s) (Some s)
    pub seated : IsSeated (length setup.columns.items) s

  -- what is to be rebuilt may be, if anything is
  abbrev pub RebuildsIf : Setup L D → Option Start → Type 0
  RebuildsIf setup None = Unit {0}
  RebuildsIf setup (Some s) = IsRebuildable setup s

  -- The setup may be served, and isn't lost by its columns; the device of each column has a sector and a seat; the newest label leaves room for its counter; there is room for the sweep and the judge; and what is to be rebuilt may be.
  pub record CanRunLabelled (l : Labelled L D) : Type 0 where
    pub setup : IsSetup lay disk l.setup
    pub few : IsFew l.setup
    pub trace : FitsTrace lay l.setup
    pub kept : IsNotLost lay l.setup
    pub array : CanBeLabelled disk l.setup.columns.items l.setup.devices.items
    pub held : IsLabelFor l.setup.columns.items l.label
    pub counter : l.label.counter ≤ 4294901760
    pub judge : IsFor (shape_in lay l.setup) l.judge
    pub room : 1024 * (shape_in lay l.setup).unit_sectors ≤ l.room
    pub rebuilds : RebuildsIf l.setup l.start

  -- a run, or a loss before it
  abbrev pub CameTo : Labelled L D → Outcome → List (Option D) → Type 0
  CameTo l (outcome.Ran service) back = RanLabelled disk (work_of lay l.setup l.start) l.label l.setup.devices.items (service_seen service) back l.failed l.map
  CameTo l (outcome.Lost ending) back = IsLostBefore disk (work_of lay l.setup l.start) l.label l.setup.devices.items l.map (end_seen ending) back

-- what a run tells can be printed
abbrev pub OutcomeCanBePrinted : Outcome → Type 0
OutcomeCanBePrinted (outcome.Ran service) = StandFor service.clients.items service.replies.items service.sectors
OutcomeCanBePrinted (outcome.Lost ending) = Unit {0}
