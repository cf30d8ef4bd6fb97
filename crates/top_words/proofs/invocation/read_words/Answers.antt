use Rattle.std.proofs.Common.{◌∙◌, Ok, Err, Result, sym}
use Rattle.std.specs.Prelude.{OnErr}
use Rattle.top_words.proofs.Topics.{not_told}
use Rattle.top_words.proofs.invocation.read_words.Goals as goal

-- what holds anyhow holds on an error
on_err : {A E : Type 0} (r : Result A E) (P : Type 0) → P → OnErr r P
on_err (Ok x) P h = tt
on_err (Err e) P h = h

pub returns-in-None-clause-told : goal.returns-in-None-clause-told
returns-in-None-clause-told c = on_err c.take.result _ (λ topic. not_told c.args.words.now topic (sym c.topic_in.ensures ∙ c.in-None.is))
