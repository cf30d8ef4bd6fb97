use Rattle.std.proofs.Common.{◌∙◌, ap}
use Rattle.std.specs.Prelude.{codes}
use Rattle.clap.specs.Words.{App, with_rule}
use Rattle.std.proofs.lemmas.Result.{IfOk-weaker}
use Rattle.top_words.specs.Adding.{flag_rule, option_rule}
use Rattle.top_words.proofs.app.with_others.Goals as goal

pub returns : goal.returns
returns c =
    IfOk-weaker c.with_flag-2.result _ _ (λ r h.
    h ∙ ap (λ (a : App). with_rule a (flag_rule (codes "adopt"))) (c.in_ok-app-2.ensures
    ∙ ap (λ (a : App). with_rule a (option_rule (codes "sim"))) c.in_ok-app.ensures)) c.with_flag-2.ensures
