use Rattle.eng_array.proofs.CountedEvents.{counted-fits, counted-rebuilds}
use Rattle.eng_array.proofs.fitting.what_is_counted_fits_the_trace.Goals as goal

pub returns-clause-opening : goal.returns-clause-opening
returns-clause-opening g c = λ setup devices entries few sum. counted-fits g.L.Layout setup devices entries few sum

pub returns-clause-rebuild : goal.returns-clause-rebuild
returns-clause-rebuild g c = λ setup cols devices column asked rebuilds entries few count most sum. counted-rebuilds g.L.Layout setup devices entries few cols column asked rebuilds count most sum
