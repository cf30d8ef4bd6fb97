use Rattle.top_run.proofs.Rebuilt.{worth}
use Rattle.top_run.proofs.rebuilding.what_is_rebuilt_stands.Goals as goal

pub returns : goal.returns
returns g c = λ a taken back s ran how layout units done. worth g.D.Disk a taken back s ran how done layout units
