use Rattle.eng_array.proofs.ComingBack.{handed-back, handed-rises}
use Rattle.eng_array.proofs.tickets.what_was_handed_in_comes_back.Goals as goal

pub returns-clause-back : goal.returns-clause-back
returns-clause-back g c = λ setup first last events closed o h is. handed-back g.L.Layout g.D.Disk setup first last events closed o h is

pub returns-clause-rises : goal.returns-clause-rises
returns-clause-rises g c = λ setup first last events closed d o h is rose. handed-rises g.L.Layout g.D.Disk setup first last events closed o h is d rose
