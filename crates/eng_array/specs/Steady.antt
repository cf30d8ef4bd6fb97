-- All that a core keeps between events.
use Rattle.std.specs.Prelude.{◌≡◌, ◌≤◌, ◌+◌, ℕ, min, length, true, Option, Some, slice_get}
use Rattle.blk_plain.specs.declared.op.Op.{Op}
use Rattle.blk_disk.specs.declared.disk.Disk.{Ghosts as DiskGhosts}
use Rattle.lay_core.specs.declared.layout.Layout.{Ghosts as LayoutGhosts}
use Rattle.eng_world.specs.declared.item.Item.{Item}
use Rattle.eng_world.specs.declared.item.Item.TheVariants as item
use Rattle.eng_world.specs.World.{World}
use Rattle.eng_rest.specs.Left.{below, alive, all_left}
use Rattle.eng_plan.specs.Pooled.{row_leases, own_leases, LeasesAtMost}
use Rattle.eng_state.specs.declared.array.Array.{Array}
use Rattle.eng_ends.specs.Copied.{AreLaid}
use Rattle.eng_clients.specs.Desk.{desk_at}
use Rattle.eng_array.specs.Run.{HasRun}
use Rattle.eng_array.specs.Serving.{AreServing, most_for}
use Rattle.eng_events.specs.Opened.{FitThePool}
use Rattle.eng_state.specs.Sound.{IsSound}
use Rattle.eng_state.specs.Steps.{graphs_of}

-- how many events may still come, where no graph of client c's item i has more than most c i nodes: those of all items, and the failure of each column
abbrev pub events_left : (ℕ → ℕ → ℕ) → World → ℕ
events_left most w = all_left most w 17 + alive w.columns

module _ {L D : Type 0} (lay : LayoutGhosts L) (disk : DiskGhosts D) where
  -- the trace, where it is kept, has room for each event that may still come, and the history for each item
  pub record HasPlaces (core : Array L D) (now : World) : Type 0 where
    pub most : ℕ → ℕ → ℕ
    pub bound : (c n : ℕ) (op : Op) (file : Option ℕ) → slice_get (desk_at core.clients c).items n ≡ Some (item.Run op file) → most_for (lay.shape core.layout) core.graphs.items op file ≤ most c n
    pub trace : core.log.keeps ≡ true → length core.log.trace + events_left most now ≤ core.log.trace_room
    pub history : below (λ c. length (desk_at core.clients c).items) 17 ≤ core.log.history_room

  -- the buffers that are there are as many as the clients' items and the array's own can lease at once, each client for one item at a time, or as many as a pool has
  pub record HasStock (core : Array L D) : Type 0 where
    pub own : (n : ℕ) (i : Item) → slice_get (desk_at core.clients 16).items n ≡ Some i → LeasesAtMost (lay.shape core.layout) core.graphs.items (own_leases (lay.shape core.layout)) i
    pub there : min (below (λ c. row_leases (lay.shape core.layout) core.graphs.items (desk_at core.clients c).items) 16 + own_leases (lay.shape core.layout)) 2048 ≤ length core.pool.seats

  -- the core is sound, a run has led to what it shows, its clients are served as planned, there is room for what may still come, a region for what each item hands out, and each graph of the file fits the pool, of which enough is there
  pub record IsSteady (core : Array L D) : Type 0 where
    pub sound : IsSound lay disk core
    pub reached : HasRun lay disk core
    pub serving : AreServing lay core
    pub places : HasPlaces core reached.now
    pub laid : AreLaid core.log.handed core.clients
    pub fit : FitThePool (graphs_of core.graphs.items)
    pub stock : HasStock core
