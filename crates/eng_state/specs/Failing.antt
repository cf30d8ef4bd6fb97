-- What the failure of a column makes of desks, devices and the core.
use Rattle.std.specs.Prelude.{◌≡◌, ℕ, List, length, Bool, true, Option, Some, None, MatchOption, slice_get, slice_set}
use Rattle.lay_core.specs.Layout.{Shape}
use Rattle.lay_core.specs.declared.layout.Layout.{Ghosts as LayoutGhosts}
use Rattle.graph_mean.specs.Steps.{Units, is_still_read, phase_lost}
use Rattle.eng_one.specs.Control.{mark_of}
use Rattle.eng_cols.specs.declared.spot.Loss.{Loss}
use Rattle.eng_cols.specs.Cols.{ColumnState, Live, Dead, Filling, Spread}
use Rattle.eng_cols.specs.Changes.{killed}
use Rattle.eng_cols.specs.Lost.{IsLost, NotLost}
use Rattle.eng_world.specs.Failing.{newly_missing, by_after, device_on}
use Rattle.eng_clients.specs.declared.stage.Stage.{Stage}
use Rattle.eng_clients.specs.declared.stage.Stage.TheVariants.{Nothing, Waits, Runs}
use Rattle.eng_state.specs.declared.array.Array.{Array}
use Rattle.eng_clients.specs.Desk.{Desk, desk_at, plan_of}

-- ## A desk

-- the units of a desk's stripes that the death of column k makes missing
abbrev pub dying : Shape → List ColumnState → ℕ → Desk → Units
dying y cols k d = newly_missing y cols (killed cols k) (plan_of d)

-- a node of its graph still reads one of them
abbrev pub reads_dying : Shape → List ColumnState → ℕ → Desk → Bool
reads_dying y cols k d = is_still_read d.run.graph (mark_of d.run) (dying y cols k d)

-- what the death of column k makes of a desk: what runs goes on, or is rolled back
abbrev pub suffered_in : Stage → Shape → List ColumnState → ℕ → Desk → Desk
suffered_in Nothing y cols k d = d
suffered_in Waits y cols k d = d
suffered_in Runs y cols k d = record d {
  run = record d.run { phase = phase_lost d.run.graph (mark_of d.run) (dying y cols k d) d.run.phase };
  by = by_after d.run.phase (reads_dying y cols k d) (device_on (slice_get cols k) k) d.by;
}

abbrev pub suffered : Shape → List ColumnState → ℕ → Desk → Desk
suffered y cols k d = suffered_in d.stage y cols k d

-- ## The devices

-- the column's device has failed, if it has one
abbrev pub failed_after : Option ColumnState → List Bool → List Bool
failed_after (Some (Live device)) failed = slice_set failed device true
failed_after (Some (Filling device done)) failed = slice_set failed device true
failed_after (Some (Spread done)) failed = failed
failed_after (Some Dead) failed = failed
failed_after None failed = failed

-- ## The core

-- a core whose column k is dead and whose device has failed, with these desks, and lost by this
abbrev pub after_failure : {L D : Type 0} → Array L D → ℕ → List Desk → Option Loss → Array L D
after_failure core k desks lost = record core {
  clients = desks;
  cols = record core.cols { states = killed core.cols.states k };
  devices = record core.devices { failed = failed_after (slice_get core.cols.states k) core.devices.failed };
  lost = lost;
}

-- each desk has suffered the death of column k
pub record HaveSuffered (y : Shape) (cols : List ColumnState) (k : ℕ) (old new : List Desk) : Type 0 where
  pub count : length new ≡ length old
  pub each : (c : ℕ) → desk_at new c ≡ suffered y cols k (desk_at old c)

module _ {L D : Type 0} (lay : LayoutGhosts L) where
  -- column k failed: each desk has suffered it, and the array is lost or it isn't
  pub record FailedBy (old : Array L D) (k : ℕ) (new : Array L D) : Type 0 where
    pub desks : HaveSuffered (lay.shape old.layout) old.cols.states k old.clients new.clients
    pub lost : MatchOption new.lost (NotLost (lay.shape old.layout) (killed old.cols.states k)) (IsLost (lay.shape old.layout) (killed old.cols.states k))
    pub is : new ≡ after_failure old k new.clients new.lost
