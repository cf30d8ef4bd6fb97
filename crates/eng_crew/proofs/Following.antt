-- What a chain of cores says of the worlds that its last core shows.
use Rattle.std.proofs.Common.{subst}
use Rattle.blk_disk.specs.declared.disk.Disk.{Ghosts as DiskGhosts}
use Rattle.lay_core.specs.Layout.{Shape, IsLayout}
use Rattle.lay_core.specs.declared.layout.Layout.{Ghosts as LayoutGhosts}
use Rattle.eng_cols.specs.Contents.{InSync}
use Rattle.eng_world.specs.World.{World}
use Rattle.eng_world.specs.Step.{IsOpening, EventsLead}
use Rattle.eng_world.specs.Invariant.{Reached}
use Rattle.eng_world.specs.Continuing.{Continues}
use Rattle.eng_world.proofs.Continuing.{run-continues}
use Rattle.eng_world.proofs.Reaching.{reaches}
use Rattle.eng_state.specs.declared.array.Array.{Array}
use Rattle.eng_state.specs.Shows.{Shows}
use Rattle.eng_array.specs.Steady.{IsSteady}
use Rattle.eng_array.specs.Tickets.{After, shape_of, graphs_of}
use Rattle.eng_array.proofs.Chains.{goes-same, goes-leads}
use Rattle.eng_array.proofs.Promised.{library-promises}

module _ {L D : Type 0} (lay : LayoutGhosts L) (disk : DiskGhosts D) (old new : Array L D) (after : After lay disk old new) (w : World) (shows : Shows disk old w) where
  abbrev y : Shape
  y = shape_of lay disk old

  pub after-continues : (x : World) × Shows disk new x × EventsLead y (graphs_of old) w after.events x × Continues w x
  after-continues =
      let h = goes-leads lay disk old new after.events after.goes w shows in
      (h.0, h.1, h.2, run-continues y (graphs_of old) w after.events h.0 h.2)

  pub after-reached : IsSteady lay disk new → IsOpening y w → (x : World) × Shows disk new x × EventsLead y (graphs_of old) w after.events x × Reached y (InSync y w.contents w.columns) w.blocks x
  after-reached steady opening =
      let h = goes-leads lay disk old new after.events after.goes w shows in
      let layout = subst (λ (s : Shape). IsLayout s) (goes-same lay disk old new after.events after.goes).shape steady.sound.layout in
      (h.0, h.1, h.2, reaches y layout (graphs_of old) (library-promises old.graphs.items) w after.events h.0 opening h.2)
