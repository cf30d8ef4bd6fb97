use Rattle.run_effect.proofs.Effect.{effect}
use Rattle.run_effect.proofs.what_is_told_took_effect.Goals as goal

pub returns : goal.returns
returns g c = λ a taken back s ran. effect g.D.Disk a taken back s ran
