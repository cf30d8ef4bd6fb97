use Rattle.top_run.proofs.Outlived.{answered}
use Rattle.top_run.proofs.outliving.what_is_not_lost_is_answered.Goals as goal

pub returns : goal.returns
returns g c = λ a taken back s ran none. answered g.D.Disk a taken back s ran none
