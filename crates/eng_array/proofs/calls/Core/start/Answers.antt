use Rattle.std.proofs.Common.{sym, subst}
use Rattle.eng_state.specs.Steps.{Follows}
use Rattle.eng_starts.specs.Rebuilding.{added}
use Rattle.eng_array.specs.declared.start.Start.{Start}
use Rattle.eng_array.specs.Starts.{event_of}
use Rattle.eng_array.proofs.calls.Core.start.Goals as goal

pub returns-in-Fill-clause-step : goal.returns-in-Fill-clause-step
returns-in-Fill-clause-step g c = subst (λ (s : Start). Follows g.L.Layout g.D.Disk c.args.self.now.array (event_of s (added c.fill.new.self.array)) c.fill.new.self.array) (sym c.in-Fill.is) c.fill.ensures.step

pub returns-in-Resume-clause-step : goal.returns-in-Resume-clause-step
returns-in-Resume-clause-step g c = subst (λ (s : Start). Follows g.L.Layout g.D.Disk c.args.self.now.array (event_of s (added c.resume_column.new.self.array)) c.resume_column.new.self.array) (sym c.in-Resume.is) c.resume_column.ensures.step

pub returns-in-Spread-clause-step : goal.returns-in-Spread-clause-step
returns-in-Spread-clause-step g c = subst (λ (s : Start). Follows g.L.Layout g.D.Disk c.args.self.now.array (event_of s (added c.spread.new.self.array)) c.spread.new.self.array) (sym c.in-Spread.is) c.spread.ensures.step
