-- What is done to an array without a core.
use Rattle.std.specs.Prelude.{◌≤◌, ◌<◌, ◌+◌, ◌*◌, ◌^◌, ◌≡◌, List, length, Option, Some, None}
use Rattle.blk_disk.specs.declared.disk.Disk.{Ghosts}
use Rattle.lay_core.specs.Layout.{Shape}
use Rattle.lay_core.specs.declared.layout.Layout.{Ghosts as LayoutGhosts}
use Rattle.eng_cols.specs.declared.column.Column.{Column}
use Rattle.eng_cols.specs.Cols.{IsFor}
use Rattle.raid_label.specs.declared.label.Label.{Label}
use Rattle.raid_recon.specs.Array.{IsArray}
use Rattle.top_rounds.specs.Labels.{IsLabelFor}
use Rattle.top_rounds.specs.Passes.{CanBeLabelled}
use Rattle.eng_cols.specs.Settable.{IsSettable}
use Rattle.top_acts.specs.Checked.{IsChecked}
use Rattle.top_acts.specs.Killed.{IsKilled}
use Rattle.raid_map.specs.Regions.{Marks}
use Rattle.top_acts.specs.Labelled.{IsFirstLabelled}
use Rattle.top_acts.specs.Mapped.{AreUnmarked, unmarked}
use Rattle.top_acts.specs.declared.maps.Maps.{Maps}
use Rattle.top_acts.specs.Renewed.{IsRenewed, IsRenewedPlain}
use Rattle.top_acts.specs.declared.done.Done.{Done}
use Rattle.top_acts.specs.declared.sweeping.Renewal.{Renewal}
use Rattle.top_run.specs.Work.{Ending}
use Rattle.top_close.specs.declared.ending.Ending as declared_ending
use Rattle.raid_top.specs.declared.array.Array.{Array}
use Rattle.raid_top.specs.declared.array.Order.{Order}
use Rattle.raid_top.specs.declared.array.Order.TheVariants as order

-- how it is in the end
abbrev pub ending_seen : declared_ending.Ending → Ending
ending_seen e = record { columns = e.columns.items; lost = e.lost }

-- A label of an array of these columns, as a device holds it, whose counter has room for all rounds of a call.
pub record HasRounds (columns : List Column) (l : Label) : Type 0 where
  pub held : IsLabelFor columns l
  pub counter : l.counter + 200 < 2 ^ 32

abbrev pub IsNewest : List Column → Option Label → Type 0
IsNewest columns None = Unit {0}
IsNewest columns (Some l) = HasRounds columns l

-- Its columns have devices of their own, on which a label has place; at most one is filling, and at most one is spread; and what is held beside them is as large as it has to be.
pub record IsSoundArray {L D P : Type 0} (lay : LayoutGhosts L) (g : Ghosts D) (a : Array L P) (devices : List (Option D)) : Type 0 where
  pub columns : IsSettable (lay.shape a.layout) a.hand.ending.columns.items
  pub labels : CanBeLabelled g a.hand.ending.columns.items devices
  pub judge : IsFor (lay.shape a.layout) a.hand.judge
  pub room : 1024 * (lay.shape a.layout).unit_sectors ≤ a.room

-- an array with labels has maps of its layout, without marks
abbrev pub HaveMaps : Shape → Option Label → Option Maps → Type 0
HaveMaps y None maps = Unit {0}
HaveMaps y (Some l) maps = (m : Maps) × (maps ≡ Some m) × AreUnmarked y l.serial m

-- where its check units are renewed
abbrev pub HaveMapsFor : Shape → Order → Option Maps → Type 0
HaveMapsFor y order.Check maps = Unit {0}
HaveMapsFor y (order.Renew kind newest) maps = HaveMaps y newest maps
HaveMapsFor y (order.Kill c l) maps = Unit {0}
HaveMapsFor y (order.Label l) maps = Unit {0}

module _ {D : Type 0} (g : Ghosts D) (y : Shape) (columns : List Column) where
  -- this may be done: for what goes over the stripes the devices are large enough, and labels have room for their rounds
  abbrev pub MayDo : Order → List (Option D) → Type 0
  MayDo order.Check devices = IsArray g y columns devices
  MayDo (order.Renew kind newest) devices = IsArray g y columns devices × IsNewest columns newest
  MayDo (order.Kill c l) devices = (c < length columns) × HasRounds columns l
  MayDo (order.Label l) devices = IsLabelFor columns l

  module _ (old back : List (Option D)) (act : Done) (e : Ending) where
    abbrev pub Renews : Renewal → Option Label → Type 0
    Renews kind None = IsRenewedPlain g kind y columns e.columns old back e.lost act
    Renews kind (Some l) = (next : Label) × (union : Marks) × IsRenewed g kind y l next columns e.columns old back e.lost act (unmarked y.stripes l.serial) union

    -- it was done, and this is how it was done; `next` is the label that was written last
    abbrev pub DoesOrder : Order → Type 0
    DoesOrder order.Check = IsChecked g y columns e.columns old back e.lost act
    DoesOrder (order.Renew kind newest) = Renews kind newest
    DoesOrder (order.Kill c l) = (next : Label) × IsKilled g y c l next columns e.columns old back e.lost act
    DoesOrder (order.Label l) = (next : Label) × IsFirstLabelled g y l next columns e.columns old back e.lost act
