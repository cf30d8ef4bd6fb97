-- The stripes were tested.
use Rattle.std.specs.Prelude.{◌≡◌, ◌≤◌, ◌*◌, ℕ, List, Option, None, All, ◌++◌}
use Rattle.blk_disk.specs.declared.disk.Disk.{Ghosts}
use Rattle.blk_disk.specs.Devices.{Changes, calls_of}
use Rattle.lay_core.specs.Layout.{Shape}
use Rattle.eng_cols.specs.declared.column.Column.{Column}
use Rattle.eng_cols.specs.declared.spot.Loss.{Loss}
use Rattle.eng_cols.specs.Deaths.{Dies}
use Rattle.raid_recon.specs.declared.kind.Sweep.TheVariants as sweep
use Rattle.eng_cols.specs.Stripes.{states_of}
use Rattle.raid_recon.specs.Array.{Failed}
use Rattle.raid_recon.specs.Ends.{IsCounted, IsRowsCall, AreGoodButLast}
use Rattle.raid_recon.specs.Swept.{IsSwept}
use Rattle.top_close.specs.Ended.{IsLossBy}
use Rattle.top_rounds.specs.Rounds.{in_end}
use Rattle.top_acts.specs.declared.done.Done.{Done}
use Rattle.top_acts.specs.declared.done.Done.TheVariants as done
use Rattle.top_acts.specs.Done.{unless_lost}
use Rattle.blk_disk.specs.Disk.{ToldOn}
use Rattle.blk_disk.specs.declared.disk.Call.{Call}

-- The stripes that lack no unit were tested, and as many as were found not to be in sync are told, or nothing where the array is lost. By that a column has died where its device's count of faults rose, and no other died; then one that was filling, where the array is lost. No sector has changed. A call read so many rows, at most 64 KiB. Where there is no check unit no device was called.
pub record IsChecked {D : Type 0} (g : Ghosts D) (y : Shape) (columns after : List Column) (old new : List (Option D)) (lost : Option Loss) (result : Done) : Type 0 where
  pub found : ℕ
  pub mid : List Column
  pub told : result ≡ unless_lost lost (done.Check found)
  pub counted : y.checks ≡ 1 → IsCounted g sweep.Check y columns mid old found
  pub none : y.checks ≡ 0 → (found ≡ 0) × ((mid ≡ columns) × (new ≡ old))
  pub frame : Changes g (λ _ _. ⊥) old new
  pub dies : Dies (Failed g (states_of y columns) old new) columns mid
  pub rows : ℕ
  pub room : (1 ≤ rows) × (rows * y.unit_sectors ≤ 128)
  pub swept : y.checks ≡ 1 → IsSwept g sweep.Check y rows y.stripes columns mid old new found
  pub calls : (d : ℕ)
      → ToldOn (λ (was : List Call) (is : List Call). (more : List Call) × (is ≡ was ++ more) × AreGoodButLast more × All (IsRowsCall y (states_of y columns) d) more) (calls_of g old d) (calls_of g new d)
  pub after_is : after ≡ in_end lost mid
  pub lost_is : IsLossBy y None (states_of y after) lost
