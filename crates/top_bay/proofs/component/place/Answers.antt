use Rattle.std.proofs.Common.{sym, take}
use Rattle.top_bay.specs.Asked.{names_of}
use Rattle.top_bay.proofs.Places.{component_nowhere}
use Rattle.top_bay.proofs.component.place.Goals as goal

pub returns-in-None-clause-answer : goal.returns-in-None-clause-answer
returns-in-None-clause-answer c = component_nowhere (take c.args.count (names_of c.args.conf.now)) c.args.name.now (sym c.in-None.ensures)
