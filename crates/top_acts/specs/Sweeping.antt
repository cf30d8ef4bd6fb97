-- A sweep of a whole array, as what it did is said by the columns and contents just before it.
use Rattle.std.specs.Prelude.{◌≡◌, ℕ, Bool, List, Option, None, is_some, All, ◌++◌}
use Rattle.blk_disk.specs.declared.disk.Disk.{Ghosts}
use Rattle.blk_disk.specs.Devices.{Changes, calls_of, contents_of}
use Rattle.lay_core.specs.Layout.{Shape}
use Rattle.eng_cols.specs.declared.column.Column.{Column}
use Rattle.eng_cols.specs.declared.spot.Loss.{Loss}
use Rattle.eng_cols.specs.Contents.{InSync}
use Rattle.eng_cols.specs.Deaths.{Dies}
use Rattle.raid_label.specs.declared.label.Label.{Label}
use Rattle.raid_recon.specs.declared.kind.Sweep.{Sweep}
use Rattle.eng_cols.specs.Stripes.{states_of}
use Rattle.raid_recon.specs.Array.{Failed}
use Rattle.raid_recon.specs.Ends.{MayRewrite, ChecksHold, IsCounted, IsRowsCall, AreGoodButLast}
use Rattle.raid_map.specs.Sweeping.{IsSweptTo, IsCountedTo, UnsoundAreMarked, IsMarkedCall}
use Rattle.top_close.specs.Ended.{IsLossBy}
use Rattle.top_acts.specs.Failed.{EndsFailed}
use Rattle.top_acts.specs.Sweeps.{Sweeps, Nothing, Over, Marked}
use Rattle.blk_disk.specs.Disk.{ToldOn}
use Rattle.blk_disk.specs.declared.disk.Call.{Call}

module _ {D : Type 0} (g : Ghosts D) (y : Shape) (marks : ℕ → Bool) where
  -- One sweep over the stripes that are marked: which sectors may have changed, whose columns died, what it left, counted and called.
  pub record SweepsMarked (columns after : List Column) (old new : List (Option D)) (n : ℕ) : Type 0 where
    pub swept : y.checks ≡ 1 → IsSweptTo g y marks columns old y.stripes after new
    pub counted : y.checks ≡ 1 → IsCountedTo g y marks columns old y.stripes after n
    pub checks : y.checks ≡ 1 → g.tells → ChecksHold g y columns after old new
    pub in_sync : g.tells → UnsoundAreMarked g y marks columns old → InSync y (contents_of g new) (states_of y after)
    pub none : y.checks ≡ 0 → (n ≡ 0) × ((after ≡ columns) × (new ≡ old))
    pub calls : (d : ℕ)
        → ToldOn (λ (was : List Call) (is : List Call). (more : List Call) × (is ≡ was ++ more) × AreGoodButLast more × All (IsMarkedCall y (states_of y columns) marks d) more) (calls_of g old d) (calls_of g new d)

module _ {D : Type 0} (g : Ghosts D) (kind : Sweep) (y : Shape) where
  -- One sweep over all stripes: the same of it.
  pub record DoesSweep (columns after : List Column) (old new : List (Option D)) (n : ℕ) : Type 0 where
    pub frame : Changes g (MayRewrite g kind y columns old) old new
    pub dies : Dies (Failed g (states_of y columns) old new) columns after
    pub in_sync : g.tells → InSync y (contents_of g new) (states_of y after)
    pub checks : y.checks ≡ 1 → g.tells → ChecksHold g y columns after old new
    pub counted : y.checks ≡ 1 → IsCounted g kind y columns after old n
    pub none : y.checks ≡ 0 → (n ≡ 0) × ((after ≡ columns) × (new ≡ old))
    pub calls : (d : ℕ)
        → ToldOn (λ (was : List Call) (is : List Call). (more : List Call) × (is ≡ was ++ more) × AreGoodButLast more × All (IsRowsCall y (states_of y columns) d) more) (calls_of g old d) (calls_of g new d)

module _ {D : Type 0} (g : Ghosts D) where
  -- one of the two, or none
  abbrev pub DoesSweeps : Sweeps → Shape → List Column → List Column → List (Option D) → List (Option D) → ℕ → Type 0
  DoesSweeps Nothing y columns after old new n = (n ≡ 0) × ((after ≡ columns) × (new ≡ old))
  DoesSweeps (Over kind) y columns after old new n = DoesSweep g kind y columns after old new n
  DoesSweeps (Marked marks) y columns after old new n = SweepsMarked g y marks columns after old new n

  -- The array was swept, which left the columns `mid` and the devices `dev`; where it is lost by those, its one round was written, and else nothing else was called.
  pub record SweepsBehind (sweep : Sweeps) (y : Shape) (label next : Label) (columns after : List Column) (old new : List (Option D)) (lost : Option Loss) (n : ℕ) : Type 0 where
    pub mid : List Column
    pub dev : List (Option D)
    pub behind : Option Loss
    pub does : DoesSweeps sweep y columns mid old dev n
    pub behind_is : IsLossBy y None (states_of y mid) behind
    pub lost_is : is_some lost ≡ is_some behind
    pub ends : EndsFailed g None lost label next mid after dev new
