use Rattle.std.proofs.Common.{sym, ◌∙◌}
use Rattle.eng_log.proofs.Laying.{some-read, none-read}
use Rattle.eng_log.proofs.handed.open.sectors_at.Goals as goal

pub returns-in-Some : goal.returns-in-Some
returns-in-Some c = some-read c.args.items.now.items c.args.at c.in-Some.span (sym c.read_span.ensures ∙ c.in-Some.is)

pub returns-in-None : goal.returns-in-None
returns-in-None c = none-read c.args.items.now.items c.args.at (sym c.read_span.ensures ∙ c.in-None.is)
