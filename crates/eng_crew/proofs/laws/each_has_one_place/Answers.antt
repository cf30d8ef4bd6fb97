use Rattle.eng_crew.proofs.Placing.{have-places}
use Rattle.eng_crew.proofs.laws.each_has_one_place.Goals as goal

pub returns : goal.returns
returns g c = λ opening now tickets fits. have-places g.L.Layout g.D.Disk now.array tickets fits.shared
