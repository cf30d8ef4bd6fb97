use Rattle.std.proofs.Common.{subst}
use Rattle.top_fetch.specs.Answers.{AnswersAs}
use Rattle.std.specs.Prelude.{IfOk}
use Rattle.top_words.specs.Asked.{Profile}
use Rattle.top_bay.specs.Asked.{comp_named}
use Rattle.top_bay.specs.Views.{IsNamed}
use Rattle.top_bay.proofs.component.open_component.Goals as goal

pub returns-clause-answer : goal.returns-clause-answer
returns-clause-answer c = subst (λ (p : Profile). AnswersAs (λ comp. comp) c.named.result (comp_named c.args.conf.now p.component)) c.profile.ensures c.named.ensures.answer

pub returns-clause-known : goal.returns-clause-known
returns-clause-known c = subst (λ (p : Profile). IfOk c.named.result (IsNamed c.args.conf.now p.component)) c.profile.ensures c.named.ensures.known
