use Rattle.eng_choice.proofs.PossibleDoing.{possible-can, can-possible}
use Rattle.eng_choice.proofs.worlds.what_is_possible_can_be_done.Goals as goal

pub returns : goal.returns
returns g c = λ w s. (
  possible-can g.L.Layout g.D.Disk c.args.core.now w c.requires.sound c.requires.stands s c.args.event,
  can-possible g.L.Layout g.D.Disk c.args.core.now w c.requires.sound c.requires.stands s c.args.event,
)
