-- What a rebuild that is done is worth.
use Rattle.std.specs.Prelude.{◌≡◌, ℕ, List, Option, Some, None, slice_get}
use Rattle.blk_disk.specs.declared.disk.Disk.{Ghosts}
use Rattle.eng_cols.specs.declared.column.Column.{Column}
use Rattle.eng_cols.specs.declared.column.Column.TheVariants as column
use Rattle.eng_cols.specs.Cols.{ColumnState}
use Rattle.eng_cols.specs.Changes.{killed}
use Rattle.eng_cols.specs.Laws.{AllAvailable, OthersAvailable}
use Rattle.eng_cols.specs.Lost.{NotLost}
use Rattle.eng_cols.specs.Seats.{IsWhole}
use Rattle.eng_cols.specs.Stripes.{states_of}
use Rattle.eng_array.specs.Starts.{column_of}
use Rattle.eng_array.specs.declared.start.Start.{Start}
use Rattle.top_serve.specs.Setups.{with_start}
use Rattle.top_serve.specs.Served.{IsKeptAs}
use Rattle.top_run.specs.Work.{Work, Service}
use Rattle.top_run.specs.Ran.{Ran}

-- the column is live, or spread
abbrev pub IsRebuilt : Option Column → Type 0
IsRebuilt None = ⊥
IsRebuilt (Some (column.Live device)) = Unit {0}
IsRebuilt (Some column.Dead) = ⊥
IsRebuilt (Some (column.Filling device done)) = ⊥
IsRebuilt (Some column.Spread) = Unit {0}

module _ {D : Type 0} (g : Ghosts D) (a : Work) (taken back : List (Option D)) (s : Service) (ran : Ran g a taken s back) where
  -- the columns as they are kept at the run's end, before devices are settled
  abbrev pub kept_in : List ColumnState
  kept_in = states_of a.layout ran.ends.kept

  -- a rebuild began so, or went on, and is done: so its column is as the columns are kept
  abbrev pub RebuildIsDone : Start → Type 0
  RebuildIsDone how = (a.start ≡ Some how) × IsRebuilt (slice_get ran.ends.kept (column_of how))

  -- Each of the column's stripes was rebuilt, in this run or before, and the column is kept as what it was as that began: live on its device, or spread. Where all units that lie on other columns are available, every unit is available; and then, with a check unit, the array isn't lost whichever one column more dies.
  pub record IsWorth (how : Start) : Type 0 where
    pub whole : IsWhole a.layout ran.now.columns (column_of how)
    pub kept : IsKeptAs (slice_get (with_start a.start a.columns) (column_of how)) (slice_get ran.ends.kept (column_of how))
    pub all : OthersAvailable a.layout kept_in (column_of how) → AllAvailable a.layout kept_in
    pub one_more : a.layout.checks ≡ 1 → OthersAvailable a.layout kept_in (column_of how) → (k : ℕ) → NotLost a.layout (killed kept_in k)
