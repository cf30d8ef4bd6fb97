-- A column that dies behind an opening round.
use Rattle.std.proofs.Common.{◌≡◌, ◌⊎◌, inl, inr, ℕ, ◌≤◌, List, true, false, Option, Some, None, refl, sym}
use Rattle.std.specs.Prelude.{count_by, is_some}
use Rattle.blk_disk.specs.declared.disk.Disk.{Ghosts}
use Rattle.lay_core.specs.Layout.{Shape}
use Rattle.eng_cols.specs.declared.column.Column.{Column}
use Rattle.eng_cols.specs.declared.spot.Loss.{Loss}
use Rattle.eng_cols.specs.Cols.{is_set_filling}
use Rattle.eng_cols.specs.Stripes.{states_of}
use Rattle.raid_label.specs.declared.label.Label.{Label}
use Rattle.top_close.specs.Ended.{IsLossBy}
use Rattle.top_rounds.specs.Labels.{seating_in, with_round}
use Rattle.top_rounds.specs.Rounds.{HaveRounds}
use Rattle.top_acts.specs.Failed.{EndsFailed}
use Rattle.top_acts.specs.Alive.{IsWithout}
use Rattle.top_acts.proofs.Ended.{no_loss}
use Rattle.top_acts.proofs.Without.{without_still}

module _ {D : Type 0} (g : Ghosts D) where
  -- where it is lost by that
  pub fails_lost : (lost : Option Loss) (label next : Label) (columns after : List Column) (old new : List (Option D)) → is_some lost ≡ true → next ≡ with_round label next.counter 0 (seating_in next) → HaveRounds g lost label next columns after old new → EndsFailed g None lost label next columns after old new
  fails_lost None label next columns after old new some is rounds = no_loss some
  fails_lost (Some loss) label next columns after old new some is rounds = record { label_is = is; rounds = rounds }

  -- where it was lost before, or isn't lost in the end
  pub fails_quiet : (y : Shape) (c : ℕ) (before lost : Option Loss) (label : Label) (columns after : List Column) (old : List (Option D)) → IsWithout y c columns after → count_by is_set_filling columns ≤ 1
      → IsLossBy y None (states_of y columns) before → IsLossBy y None (states_of y after) lost → (is_some before ≡ true) ⊎ (is_some lost ≡ false) → EndsFailed g before lost label label after after old old
  fails_quiet y c None None label columns after old w few was is why = record { label_is = refl; columns_are = refl; devices_are = refl }
  fails_quiet y c (Some before) (Some loss) label columns after old w few was is why = record { label_is = refl; columns_are = refl; devices_are = refl }
  fails_quiet y c None (Some loss) label columns after old w few was is why = elim why [
    | inl some ↦ no_loss some
    | inr none ↦ no_loss (sym none)
  ]
  fails_quiet y c (Some before) None label columns after old w few was is why = no_loss (without_still y columns after c w (Some before) None few was refl is)
