-- What is so of the parts of failing a column of an array that is begun.
use Rattle.std.specs.Prelude.{◌≡◌, ℕ, List, length, true, Option, None, is_some, MatchOption}
use Rattle.blk_disk.specs.declared.disk.Disk.{Ghosts}
use Rattle.eng_cols.specs.declared.column.Column.{Column}
use Rattle.eng_cols.specs.declared.spot.Loss.{Loss}
use Rattle.eng_cols.specs.Changes.{killed}
use Rattle.lay_core.specs.Layout.{Shape}
use Rattle.eng_cols.specs.Stripes.{states_of}
use Rattle.top_close.specs.Closes.{ClosesAs}
use Rattle.top_close.specs.Ended.{IsLossBy}
use Rattle.top_close.specs.Settled.{AreSettled}
use Rattle.raid_label.specs.declared.label.Label.{Label}
use Rattle.top_rounds.specs.Labels.{given_up}
use Rattle.top_acts.specs.Cleared.{EndsMapped}
use Rattle.top_acts.specs.Failed.{StaysBegun}

-- Column c is dead, and the others are kept as at the end of a run: one that is filling has those stripes done that are so with all of its stripes before them, or is live where it is whole. That changes it only where column c was spread: then it has fewer stripes.
pub record IsWithout (y : Shape) (c : ℕ) (columns after : List Column) : Type 0 where
  pub entries : length after ≡ length columns
  pub kept : ClosesAs y (killed (states_of y columns) c) after

module _ {D : Type 0} (g : Ghosts D) where
  -- First each device in use was settled, once, before any label was written; a column died whose device failed. Unless the array was lost by the columns that this left, it was then closed with them; one that was is left as it was, but for a column that was filling, and stays lost.
  pub record EndsAlive (y : Shape) (label next : Label) (columns after : List Column) (old new : List (Option D)) (lost : Option Loss) : Type 0 where
    pub mid : List Column
    pub dev : List (Option D)
    pub before : Option Loss
    pub settles : AreSettled g (length columns) columns mid old dev
    pub lost_is : IsLossBy y None (states_of y mid) before
    pub ends : MatchOption before (EndsMapped g None true label next mid after dev new lost)
        (λ loss. StaysBegun g label next (given_up mid) after dev new × (is_some lost ≡ true))
