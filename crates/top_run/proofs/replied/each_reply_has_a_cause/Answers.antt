use Rattle.top_run.proofs.Caused.{replies-caused}
use Rattle.top_run.proofs.replied.each_reply_has_a_cause.Goals as goal

pub returns : goal.returns
returns g c = λ a taken back s ran. replies-caused g.D.Disk a taken back s ran
