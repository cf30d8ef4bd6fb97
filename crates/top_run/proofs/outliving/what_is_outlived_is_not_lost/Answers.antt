use Rattle.top_run.proofs.Outlived.{outlived}
use Rattle.top_run.proofs.outliving.what_is_outlived_is_not_lost.Goals as goal

pub returns : goal.returns
returns g c = λ a taken back s ran outlives. outlived g.D.Disk a taken back s ran outlives
