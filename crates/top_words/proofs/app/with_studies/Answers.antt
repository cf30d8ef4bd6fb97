use Rattle.std.proofs.Common.{◌∙◌, ap}
use Rattle.std.specs.Prelude.{codes}
use Rattle.clap.specs.Words.{App, with_rule}
use Rattle.std.proofs.lemmas.Result.{IfOk-weaker}
use Rattle.top_words.specs.Adding.{option_rule}
use Rattle.top_words.proofs.app.with_studies.Goals as goal

pub returns : goal.returns
returns c =
    IfOk-weaker c.with_option.result _ _ (λ r h.
    h ∙ ap (λ (a : App). with_rule a (option_rule (codes "rows"))) c.in_ok-app.ensures) c.with_option.ensures
