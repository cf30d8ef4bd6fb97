use Rattle.eng_cols.specs.Cols.{is_set_filling}
use Rattle.eng_cols.specs.Contents.{AnyStripe}
use Rattle.eng_cols.proofs.Lists.{count_at_most}
use Rattle.top_close.proofs.ClosingLaws.{closing_agrees, closing_dead, closing_lost}
use Rattle.top_close.proofs.laws.columns_close_without_harm.Goals as goal

pub returns : goal.returns
returns c = record {
  agrees = λ y contents cols kept blocks closes few. closing_agrees y cols kept closes (count_at_most is_set_filling kept few) contents blocks AnyStripe;
  lost = λ y cols kept closes few. closing_lost y cols kept closes (count_at_most is_set_filling kept few);
  dead = λ y cols kept c closes. closing_dead y cols kept closes c;
}
