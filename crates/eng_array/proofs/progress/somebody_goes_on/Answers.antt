use Rattle.eng_array.proofs.Somebody.{somebody-goes-on}
use Rattle.eng_array.proofs.progress.somebody_goes_on.Goals as goal

pub returns : goal.returns
returns g c = λ core steady home stuck. somebody-goes-on g.L.Layout g.D.Disk core steady home stuck
