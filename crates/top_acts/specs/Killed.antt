-- A column of a labelled array that nothing was written to yet is failed.
use Rattle.std.specs.Prelude.{◌≡◌, ℕ, List, length, true, Option, None, is_some, MatchOption, slice_set}
use Rattle.blk_disk.specs.declared.disk.Disk.{Ghosts}
use Rattle.eng_cols.specs.declared.column.Column.{Column}
use Rattle.eng_cols.specs.declared.spot.Loss.{Loss}
use Rattle.lay_core.specs.Layout.{Shape}
use Rattle.eng_cols.specs.Stripes.{states_of}
use Rattle.top_close.specs.Closes.{ClosesAs}
use Rattle.top_close.specs.Ended.{IsLossBy}
use Rattle.top_close.specs.Settled.{AreSettled}
use Rattle.top_acts.specs.declared.done.Done.{Done}
use Rattle.top_acts.specs.declared.done.Done.TheVariants as done
use Rattle.top_acts.specs.Done.{unless_lost}
use Rattle.raid_label.specs.declared.label.Label.{Label}
use Rattle.top_rounds.specs.Labels.{given_up}
use Rattle.top_acts.specs.Cleared.{EndsMapped}
use Rattle.top_acts.specs.Failed.{StaysBegun}
use Rattle.eng_cols.specs.Cols.{Dead}

module _ {D : Type 0} (g : Ghosts D) where
  -- Column c was dead before the first call, so its device wasn't called, and the others were kept as at the end of a run; then each device in use was settled, once, before any label was written, and a column died whose device failed. Unless the array was lost by the columns that this left, it was then closed with them; one that was is left as it was, but for a column that was filling, and stays lost. It is lost by the columns in the end, if it is. It is told that the column was failed, or nothing where the array is lost.
  pub record IsKilled (y : Shape) (c : ℕ) (label next : Label) (columns after : List Column) (old new : List (Option D)) (lost : Option Loss) (result : Done) : Type 0 where
    pub told : result ≡ unless_lost lost (done.Killed c)
    pub left : List Column
    pub entries : length left ≡ length columns
    pub kept : ClosesAs y (slice_set (states_of y columns) c Dead) left
    pub mid : List Column
    pub dev : List (Option D)
    pub before : Option Loss
    pub settles : AreSettled g (length left) left mid old dev
    pub before_is : IsLossBy y None (states_of y mid) before
    pub ends : MatchOption before (EndsMapped g None true label next mid after dev new lost)
        (λ loss. StaysBegun g label next (given_up mid) after dev new × (is_some lost ≡ true))
    pub lost_is : IsLossBy y None (states_of y after) lost
