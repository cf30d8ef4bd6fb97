-- What a sweep has done.
use Rattle.std.specs.Prelude.{◌≡◌, ℕ, List, length, Option, Some, ◌++◌}
use Rattle.blk_disk.specs.declared.disk.Disk.{Ghosts}
use Rattle.blk_disk.specs.Devices.{Changes, contents_of, calls_of}
use Rattle.lay_core.specs.Layout.{Shape}
use Rattle.eng_cols.specs.declared.column.Column.{Column}
use Rattle.eng_cols.specs.Deaths.{Dies}
use Rattle.raid_recon.specs.declared.kind.Sweep.{Sweep}
use Rattle.eng_cols.specs.Stripes.{states_of}
use Rattle.raid_recon.specs.Array.{Failed}
use Rattle.raid_recon.specs.Sums.{HoldsSum}
use Rattle.raid_recon.specs.Turns.{Turn, Written}
use Rattle.raid_recon.specs.Ahead.{ahead_in}
use Rattle.raid_recon.specs.Log.{columns_in, count_in, turn_at, AreTurns, IsRewritten}
use Rattle.blk_disk.specs.declared.disk.Call.{Call}
use Rattle.blk_disk.specs.Disk.{ToldOn}

-- So many stripes had their turns. These are judged by what the devices held before the sweep; a column is dead where its device failed a call, and no other died; no sector changed but those of check units that were rewritten, and such a unit holds the sum of its stripe's data units where its write succeeded; each device had the calls of the turns, in their order, with so many rows read ahead.
pub record IsSwept {D : Type 0} (g : Ghosts D) (kind : Sweep) (y : Shape) (most stripes : ℕ) (columns after : List Column) (old new : List (Option D)) (counted : ℕ) : Type 0 where
  pub turns : List Turn
  pub each : length turns ≡ stripes
  pub are : AreTurns g.tells kind y (contents_of g old) columns turns
  pub columns_are : after ≡ columns_in y columns turns
  pub count : counted ≡ count_in turns
  pub frame : Changes g (IsRewritten y (states_of y columns) turns) old new
  pub sums : g.tells → (s : ℕ) → turn_at turns s ≡ Some Written → HoldsSum y (contents_of g new) (states_of y columns) s
  pub dies : Dies (Failed g (states_of y columns) old new) columns after
  pub told : (d : ℕ) → ToldOn (λ (was : List Call) (is : List Call). is ≡ was ++ ahead_in kind y most columns turns d) (calls_of g old d) (calls_of g new d)
