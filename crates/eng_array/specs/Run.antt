-- That a core shows a world which a run of events has reached.
use Rattle.std.specs.Prelude.{◌≡◌, List, true, reverse}
use Rattle.blk_disk.specs.declared.disk.Disk.{Ghosts as DiskGhosts}
use Rattle.lay_core.specs.declared.layout.Layout.{Ghosts as LayoutGhosts}
use Rattle.eng_world.specs.declared.item.Traced.{Traced}
use Rattle.eng_world.specs.World.{World}
use Rattle.eng_world.specs.Step.{IsOpening, EventsLead}
use Rattle.eng_state.specs.declared.array.Array.{Array}
use Rattle.eng_log.specs.Log.{Logged, noted}
use Rattle.eng_state.specs.Shows.{Shows}
use Rattle.eng_state.specs.Steps.{graphs_of}

-- the event was traced, where events are; the history may have grown, and there is as much room in all, and the same regions for what reads hand out
pub record Notes (old : Logged) (event : Traced) (new : Logged) : Type 0 where
  pub keeps : new.keeps ≡ old.keeps
  pub trace : new.trace ≡ (noted old event).trace
  pub history_room : new.history_room ≡ old.history_room
  pub trace_room : new.trace_room ≡ old.trace_room
  pub regions : new.handed.regions ≡ old.handed.regions

module _ {L D : Type 0} (lay : LayoutGhosts L) (disk : DiskGhosts D) where
  -- These events, the newest first, led from an opening in which all buffers were free to a world that the core shows. Where events are traced, they are the trace.
  pub record HasRun (core : Array L D) : Type 0 where
    pub opening : World
    pub events : List Traced
    pub now : World
    pub is_opening : IsOpening (lay.shape core.layout) opening
    pub all_free : opening.free ≡ 2048
    pub run : EventsLead (lay.shape core.layout) (graphs_of core.graphs.items) opening events now
    pub shows : Shows disk core now
    pub traced : core.log.keeps ≡ true → core.log.trace ≡ reverse events
