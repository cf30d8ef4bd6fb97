-- What a sweep over the marked stripes does.
use Rattle.std.specs.Prelude.{◌≡◌, ◌<◌, ◌≤◌, ◌++◌, ℕ, List, All, Bool, true, Option}
use Rattle.blk_disk.specs.declared.disk.Call.{Call}
use Rattle.blk_disk.specs.declared.disk.Disk.{Ghosts}
use Rattle.blk_disk.specs.Devices.{Changes, contents_of}
use Rattle.lay_core.specs.Layout.{Shape}
use Rattle.eng_cols.specs.declared.column.Column.{Column}
use Rattle.eng_cols.specs.Cols.{ColumnState}
use Rattle.eng_cols.specs.Deaths.{Dies}
use Rattle.eng_cols.specs.Stripes.{states_of}
use Rattle.raid_recon.specs.Array.{IsComplete, IsCheckSector, Failed}
use Rattle.raid_recon.specs.Ends.{AreGoodButLast, IsUnitCall}
use Rattle.raid_recon.specs.Sums.{IsZero, IsNotZero}
use Rattle.raid_map.specs.Regions.{Marks, region_of, is_marked}
use Rattle.lay_core.specs.Touched.{count_below}
use Rattle.blk_disk.specs.Disk.{ToldOn}

-- the stripe lies in a region that the map marks
abbrev pub marks_stripe : Marks → ℕ → Bool
marks_stripe m s = is_marked m.marks (region_of m.stripes s)

module _ {D : Type 0} (g : Ghosts D) (y : Shape) (marks : ℕ → Bool) (columns : List Column) (old : List (Option D)) where
  -- Sector n of device d is one of the check unit of a marked stripe, one of the first so many, that lacked no unit and didn't sum to zero.
  pub record MayRewrite (stripes d n : ℕ) : Type 0 where
    pub stripe : ℕ
    pub below : stripe < stripes
    pub marked : marks stripe ≡ true
    pub complete : IsComplete y (states_of y columns) stripe
    pub not_zero : g.tells → IsNotZero y (contents_of g old) (states_of y columns) stripe
    pub sector : IsCheckSector y (states_of y columns) stripe d n

  -- every stripe that lacks no unit and doesn't sum to zero is marked
  abbrev pub UnsoundAreMarked : Type 0
  UnsoundAreMarked = (s : ℕ) → s < y.stripes → IsComplete y (states_of y columns) s → IsNotZero y (contents_of g old) (states_of y columns) s → marks s ≡ true

  -- The first stripes, so many, were swept as far as they are marked: no sector has changed but such; a column has died where its device failed, and no other died; and each marked stripe of them that lacks no unit sums to zero.
  pub record IsSweptTo (stripes : ℕ) (after : List Column) (new : List (Option D)) : Type 0 where
    pub frame : Changes g (MayRewrite stripes) old new
    pub dies : Dies (Failed g (states_of y columns) old new) columns after
    pub sound : g.tells → (s : ℕ) → s < stripes → marks s ≡ true → IsComplete y (states_of y after) s → IsZero y (contents_of g new) (states_of y after) s

  -- Counted were at most the marked stripes of the first so many that lacked no unit and didn't sum to zero, and at least those of them that still lack none.
  pub record IsCountedTo (stripes : ℕ) (after : List Column) (n : ℕ) : Type 0 where
    pub most : (p : ℕ → Bool) → ((s : ℕ) → s < stripes → marks s ≡ true → IsComplete y (states_of y columns) s → (g.tells → IsNotZero y (contents_of g old) (states_of y columns) s) → p s ≡ true) → n ≤ count_below p stripes
    pub least : (p : ℕ → Bool) → ((s : ℕ) → s < stripes → p s ≡ true → (marks s ≡ true) × IsComplete y (states_of y after) s × (g.tells × IsNotZero y (contents_of g old) (states_of y columns) s)) → count_below p stripes ≤ n

-- ## Calls

-- a call on device d of a whole unit of a marked stripe
pub record IsMarkedCall (y : Shape) (cols : List ColumnState) (marks : ℕ → Bool) (d : ℕ) (call : Call) : Type 0 where
  pub unit : IsUnitCall y cols d call
  pub marked : marks unit.stripe ≡ true

-- Where the calls are told, those that came are of whole units of marked stripes, and none is behind one that failed.
abbrev pub CallsMarked : Shape → List ColumnState → (ℕ → Bool) → ℕ → Option (List Call) → Option (List Call) → Type 0
CallsMarked y cols marks d before now = ToldOn (λ (was : List Call) (is : List Call). (more : List Call) × (is ≡ was ++ more) × AreGoodButLast more × All (IsMarkedCall y cols marks d) more) before now
