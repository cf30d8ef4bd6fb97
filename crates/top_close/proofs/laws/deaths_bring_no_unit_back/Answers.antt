use Rattle.std.proofs.Common.{refl}
use Rattle.eng_cols.specs.Cols.{is_set_filling, is_set_spread}
use Rattle.eng_cols.specs.Contents.{AnyStripe}
use Rattle.eng_cols.proofs.Lists.{count_at_most}
use Rattle.top_close.specs.Dying.{AnyCause}
use Rattle.top_close.proofs.Counts.{deaths_pass_less}
use Rattle.top_close.proofs.DyingLaws.{unit_back, still_agrees, lost_no_less, columns_die}
use Rattle.top_close.proofs.laws.deaths_bring_no_unit_back.Goals as goal

pub returns : goal.returns
returns c = record {
  units = λ y old new s i die. unit_back y old new die s i;
  agrees = λ y contents old new blocks die. still_agrees y old new die contents blocks AnyStripe;
  lost = λ y old new die. lost_no_less y old new die;
  columns = λ y old new dies apart few. columns_die AnyCause y old new dies apart (count_at_most is_set_filling old few);
  filling = λ old new dies. deaths_pass_less AnyCause is_set_filling old new refl dies;
  spread = λ old new dies. deaths_pass_less AnyCause is_set_spread old new refl dies;
}
