-- A column of a labelled array died whose opening round has been written.
use Rattle.std.specs.Prelude.{◌≡◌, List, Option, Some, None}
use Rattle.blk_disk.specs.declared.disk.Disk.{Ghosts}
use Rattle.eng_cols.specs.declared.column.Column.{Column}
use Rattle.eng_cols.specs.declared.spot.Loss.{Loss}
use Rattle.raid_label.specs.declared.label.Label.{Label}
use Rattle.top_rounds.specs.Labels.{seating_in, with_round}
use Rattle.top_rounds.specs.Rounds.{HaveRounds}

module _ {D : Type 0} (g : Ghosts D) where
  -- no device was called, and the label is what it was
  pub record StaysBegun (label next : Label) (columns after : List Column) (old new : List (Option D)) : Type 0 where
    pub label_is : next ≡ label
    pub columns_are : after ≡ columns
    pub devices_are : new ≡ old

  -- the one round of a lost array was written, which isn't clean
  pub record IsLeftLost (loss : Loss) (label next : Label) (columns after : List Column) (old new : List (Option D)) : Type 0 where
    pub label_is : next ≡ with_round label next.counter 0 (seating_in next)
    pub rounds : HaveRounds g (Some loss) label next columns after old new

  -- By what the array was lost before, if it was, and by what it is lost in the end; the columns are those with the one dead that died. Where it is lost by that death, its one round was written, and else nothing was called. What was lost stays lost.
  abbrev pub EndsFailed : (before lost : Option Loss) → Label → Label → List Column → List Column → List (Option D) → List (Option D) → Type 0
  EndsFailed None None label next columns after old new = StaysBegun label next columns after old new
  EndsFailed None (Some loss) label next columns after old new = IsLeftLost loss label next columns after old new
  EndsFailed (Some before) None label next columns after old new = ⊥
  EndsFailed (Some before) (Some loss) label next columns after old new = StaysBegun label next columns after old new
