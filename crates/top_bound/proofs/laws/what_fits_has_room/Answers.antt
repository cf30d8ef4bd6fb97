use Rattle.top_bound.proofs.Counted.{what-fits, what-fits-rebuilt}
use Rattle.top_bound.proofs.laws.what_fits_has_room.Goals as goal

pub returns-clause-items : goal.returns-clause-items
returns-clause-items g c = λ setup. what-fits g.L.Layout setup

pub returns-clause-rebuild : goal.returns-clause-rebuild
returns-clause-rebuild g c = λ setup. what-fits-rebuilt g.L.Layout setup
