use Rattle.top_open.proofs.Filled.{entries, few-spread, one-filling}
use Rattle.top_open.proofs.laws.columns_are_settable.Goals as goal

pub returns-clause-entries : goal.returns-clause-entries
returns-clause-entries c = entries

pub returns-clause-filling : goal.returns-clause-filling
returns-clause-filling c = one-filling

pub returns-clause-spread : goal.returns-clause-spread
returns-clause-spread c = few-spread
