-- The columns of an array that is lost.
use Rattle.std.proofs.Common.{◌≡◌, ◌≤◌, List, true, Option, Some, None, refl}
use Rattle.std.specs.Prelude.{count_by, is_some}
use Rattle.lay_core.specs.Layout.{Shape}
use Rattle.eng_cols.specs.declared.column.Column.{Column}
use Rattle.eng_cols.specs.declared.spot.Loss.{Loss}
use Rattle.eng_cols.specs.Cols.{is_set_filling}
use Rattle.eng_cols.specs.Stripes.{states_of}
use Rattle.top_close.specs.Dying.{AnyCause}
use Rattle.top_close.specs.Ended.{IsLossBy}
use Rattle.top_close.proofs.DyingLaws.{dies_unfilled}
use Rattle.top_rounds.specs.Labels.{given_up}
use Rattle.top_rounds.specs.Rounds.{in_end}
use Rattle.top_rounds.proofs.RoundLaws.{given_death, none_given}
use Rattle.top_acts.proofs.Ended.{no_loss, still_lost}

pub in_end_some : (lost : Option Loss) (columns : List Column) → is_some lost ≡ true → in_end lost columns ≡ given_up columns
in_end_some None columns h = no_loss h
in_end_some (Some loss) columns h = refl

-- what is lost stays so where columns are given up
pub given_still : (y : Shape) (mid : List Column) (was lost : Option Loss) → count_by is_set_filling mid ≤ 1 → is_some was ≡ true → IsLossBy y None (states_of y mid) was → IsLossBy y None (states_of y (given_up mid)) lost → is_some lost ≡ true
given_still y mid was lost few some before is = still_lost y AnyCause mid (given_up mid) was lost (given_death mid) (dies_unfilled AnyCause mid (given_up mid) (given_death mid) (none_given mid)) few before some is
