-- Words by which proofs go, of what the statement of a run says in its place.
use Rattle.std.specs.Prelude.{◌≡◌, ◌⊎◌, ◌≤◌, ◌<◌, ℕ, true, List, [], ◌∷◌, ◌++◌, Option, Some, slice_get}
use Rattle.blk_disk.specs.declared.disk.Call.{Call}
use Rattle.blk_disk.specs.declared.disk.Disk.{Ghosts}
use Rattle.blk_disk.specs.Disk.{call_of}
use Rattle.blk_disk.specs.Devices.{Changes, calls_of, contents_of, size_of}
use Rattle.graph_lib.specs.Library.{library}
use Rattle.graph_mean.specs.Task.{Aim, Missing}
use Rattle.graph_mean.specs.Graph.{View}
use Rattle.eng_cols.specs.declared.column.Column.TheVariants as column
use Rattle.eng_cols.specs.declared.spot.Loss.{Loss}
use Rattle.eng_cols.specs.declared.column.Column.{Column}
use Rattle.eng_cols.specs.Cols.{Columns, ColumnState, HasDevice, HasDeviceOn, has_device}
use Rattle.eng_cols.specs.Stripes.{states_of}
use Rattle.eng_world.specs.Planning.{Graphs}
use Rattle.eng_world.specs.World.{World}
use Rattle.eng_world.specs.Rows.{IsInRows}
use Rattle.eng_array.specs.declared.start.Start.{Start}
use Rattle.top_serve.specs.Caused.{RestsOn}
use Rattle.top_serve.specs.Served.{IsUnbuilt, WasFailed}
use Rattle.top_serve.specs.Setups.{with_start}
use Rattle.top_close.specs.Calls.{EndsSettled}
use Rattle.top_run.specs.Work.{Work, Service}
use Rattle.top_run.specs.Ran.{RisesAt, begun_in}

-- the graphs that operations may have: those of the file, by number, and the library's, in which a rebuild without target has its unit counted as there
pub record AreGraphsOf (views : List View) (graphs : Graphs) : Type 0 where
  pub file : (n : ℕ) (graph : View) → slice_get views n ≡ Some graph → graphs.file n ≡ graph
  pub drawn : (t : Aim) (missing : Missing) → graphs.library t missing ≡ library t missing true

-- the columns as the array is opened: each stripe of a spread one is done
abbrev pub states_in : Work → List ColumnState
states_in a = states_of a.layout a.columns

-- the same, as a core has them
abbrev pub columns_in : Work → Columns
columns_in a = record { states = states_of a.layout a.columns; stripes = a.layout.stripes }

module _ {D : Type 0} (g : Ghosts D) (a : Work) (taken : List (Option D)) (s : Service) (back : List (Option D)) where
  -- the sector may have changed: it is one of the array's rows, on a device that was in a column or that a column was rebuilt onto; or the device has no such sector
  abbrev pub MayChange : ℕ → ℕ → Type 0
  MayChange d n = (((c : ℕ) × HasDevice (begun_in a) c d) × IsInRows a.layout n) ⊎ (size_of g taken d ≤ n)

  -- The array was lost in the run; or a column that the rebuild rests on was dead as it started, or an item was replied ok by which it failed, or its device's count of faults rose.
  abbrev pub IsStoppedBy : World → Start → Type 0
  IsStoppedBy now how = ((loss : Loss) × (now.lost ≡ Some loss))
      ⊎ ((c : ℕ) × RestsOn a.layout how c × ((slice_get (with_start a.start a.columns) c ≡ Some column.Dead) ⊎ (WasFailed now c ⊎ RisesAt g a taken s back c)))

  -- an item was replied ok by which the column failed, or its device's count of faults rose, or it was to be spread and not all of its stripes were rebuilt
  abbrev pub IsDeadBy : World → ℕ → Type 0
  IsDeadBy now c = WasFailed now c ⊎ (RisesAt g a taken s back c ⊎ IsUnbuilt a.layout a.start now c)

  -- Devices hold what they do at the run's end, and have changed nowhere else: only the array's rows, on a device that was in a column or that a column was rebuilt onto, or sectors that a device hasn't. Behind the run the device of each column that had one has one call more, a settle, which went well exactly where the column has it in the end; no other device was called; so each device of a column in the end has been settled last.
  pub record LeavesSettled (kept : List Column) (now : World) : Type 0 where
    pub contents : g.tells → (d n k : ℕ) → k < 512 → contents_of g back d n k ≡ now.contents d n k
    pub once : (c d : ℕ) (told : List Call) → HasDeviceOn kept c d → calls_of g back d ≡ Some told → told ≡ now.calls d ++ call_of 2 0 0 (has_device (slice_get s.ending.columns c)) ∷ []
    pub others : (d : ℕ) (told : List Call) → ((c : ℕ) → HasDeviceOn kept c d → ⊥) → calls_of g back d ≡ Some told → told ≡ now.calls d
    pub settled : (c d : ℕ) → HasDevice (states_of a.layout s.ending.columns) c d → EndsSettled (calls_of g back d)
    pub frame : Changes g (λ d n. (((c : ℕ) × HasDevice (begun_in a) c d) × IsInRows a.layout n) ⊎ (size_of g taken d ≤ n)) taken back
