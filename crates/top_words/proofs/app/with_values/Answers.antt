use Rattle.std.proofs.Common.{◌∙◌, ap}
use Rattle.std.specs.Prelude.{codes}
use Rattle.clap.specs.Words.{App, with_rule}
use Rattle.std.proofs.lemmas.Result.{IfOk-weaker}
use Rattle.top_words.specs.Adding.{valued_rule}
use Rattle.top_words.proofs.app.with_values.Goals as goal

pub returns : goal.returns
returns c =
    IfOk-weaker c.with_valued-3.result _ _ (λ r h.
    h ∙ ap (λ (a : App). with_rule a (valued_rule (codes "label") 73)) (c.in_ok-app-2.ensures
    ∙ ap (λ (a : App). with_rule a (valued_rule (codes "show_label") 103)) c.in_ok-app.ensures)) c.with_valued-3.ensures
