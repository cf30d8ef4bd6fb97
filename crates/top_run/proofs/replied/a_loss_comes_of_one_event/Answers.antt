use Rattle.top_run.proofs.Caused.{loss-caused}
use Rattle.top_run.proofs.replied.a_loss_comes_of_one_event.Goals as goal

pub returns : goal.returns
returns g c = λ a taken back s ran loss is. loss-caused g.D.Disk a taken back s ran loss is
