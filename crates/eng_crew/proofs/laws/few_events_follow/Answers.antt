use Rattle.eng_crew.proofs.Few.{after-drained}
use Rattle.eng_crew.proofs.laws.few_events_follow.Goals as goal

pub returns : goal.returns
returns g c = λ old new steady home after. after-drained g.L.Layout g.D.Disk old.array new.array steady home after
