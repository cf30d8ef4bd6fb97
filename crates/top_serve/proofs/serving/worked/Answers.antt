use Rattle.std.proofs.Common.{sym, subst}
use Rattle.eng_array.specs.declared.calls.Core.{Core}
use Rattle.eng_array.specs.Tickets.{After}
use Rattle.eng_crew.specs.Laws.{later_itself}
use Rattle.eng_events.specs.Opened.{NoneOut}
use Rattle.top_serve.proofs.serving.worked.Goals as goal

pub returns-in-Err-clause-after : goal.returns-in-Err-clause-after
returns-in-Err-clause-after g c = subst (λ (core : Core g.row.L.Denot g.row.D.Denot). After g.L.Layout g.D.Disk c.args.core.array core.array) (sym c.in-Err.ensures.err) (later_itself g.L.Layout g.D.Disk c.args.core.array)

pub returns-in-Err-clause-home : goal.returns-in-Err-clause-home
returns-in-Err-clause-home g c = subst (λ (core : Core g.row.L.Denot g.row.D.Denot). NoneOut core.array.clients) (sym c.in-Err.ensures.err) c.requires.home
