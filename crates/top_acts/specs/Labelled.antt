-- An array got its first labels.
use Rattle.std.specs.Prelude.{◌≡◌, ◌||◌, List, count_by, Option, Some, None}
use Rattle.blk_disk.specs.declared.disk.Disk.{Ghosts}
use Rattle.lay_core.specs.Layout.{Shape}
use Rattle.eng_cols.specs.declared.column.Column.{Column}
use Rattle.eng_cols.specs.Cols.{has_device, is_set_spread}
use Rattle.eng_cols.specs.declared.spot.Loss.{Loss}
use Rattle.raid_label.specs.declared.label.Label.{Label}
use Rattle.eng_cols.specs.Stripes.{states_of}
use Rattle.top_close.specs.Ended.{IsLossBy}
use Rattle.top_rounds.specs.Labels.{seating_in, with_round}
use Rattle.top_rounds.specs.Rounds.{HaveRounds}
use Rattle.top_acts.specs.declared.done.Done.{Done}
use Rattle.top_acts.specs.declared.done.Done.TheVariants as done
use Rattle.top_acts.specs.Done.{unless_lost}

-- Labels were written in rounds that began at counter 1, none of them clean, and it is told how many columns have a device or are spread, so aren't dead, or nothing where the array is lost.
pub record IsFirstLabelled {D : Type 0} (g : Ghosts D) (y : Shape) (label next : Label) (columns after : List Column) (old new : List (Option D)) (lost : Option Loss) (result : Done) : Type 0 where
  pub told : result ≡ unless_lost lost (done.Labelled (count_by (λ x. has_device (Some x) || is_set_spread x) after))
  pub label_is : next ≡ with_round label next.counter 0 (seating_in next)
  pub rounds : HaveRounds g lost (record label { counter = 0; clean = 0 }) next columns after old new
  pub lost_is : IsLossBy y None (states_of y after) lost
