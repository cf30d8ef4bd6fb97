use Rattle.std.proofs.Common.{ap, subst, sym}
use Rattle.std.proofs.lemmas.Result.{IfOk-weaker}
use Rattle.std.proofs.Common.{◌∙◌}
use Rattle.std.specs.Prelude.{[]}
use Rattle.top_words.specs.Asked.{IsDrawable, Profile}
use Rattle.top_duty.specs.Steps.{drawn_or}
use Rattle.top_duty.proofs.clients.draw.Goals as goal

pub draw_by-requires-clause-range : goal.draw_by-requires-clause-range
draw_by-requires-clause-range c = subst (λ (p : Profile). IsDrawable p.drawn) (sym c.profile.ensures) c.requires.range.drawn

pub returns-clause-value : goal.returns-clause-value
returns-clause-value c = IfOk-weaker c.draw_by.result _ _ (λ r h. h ∙ ap (λ (p : Profile). drawn_or p.drawn [] c.args.blocks) c.profile.ensures) c.draw_by.ensures.value
