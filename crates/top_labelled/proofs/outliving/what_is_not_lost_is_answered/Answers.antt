use Rattle.top_run.proofs.Outlived.{runs-answered}
use Rattle.top_labelled.specs.Begun.{opened_as, without}
use Rattle.top_labelled.proofs.outliving.what_is_not_lost_is_answered.Goals as goal

pub returns : goal.returns
returns g c = λ a newest taken back s faulty map ran none. runs-answered g.D.Disk (opened_as a (without a.start ran.begun) ran.began) ran.opened back s ran.run none
