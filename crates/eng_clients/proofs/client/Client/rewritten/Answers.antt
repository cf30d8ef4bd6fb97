use Rattle.std.proofs.Common.{◌≡◌, ℕ, subst, true}
use Rattle.std.proofs.lemmas.Bool.{iff_false, eqb-true}
use Rattle.graph_mean.specs.declared.task.Kind.{Kind}
use Rattle.graph_mean.specs.Task.{is_rebuild_of}
use Rattle.eng_clients.specs.Rebuilt.{WroteAll}
use Rattle.eng_clients.proofs.client.Client.rewritten.Goals as goal

pub returns-else-has_written : goal.returns-else-has_written
returns-else-has_written c = λ unit own all.
    iff_false c.has_written.ensures c.if-has_written.false
    (subst (λ (u : ℕ). WroteAll c.args.self.now u) (eqb-true unit c.in_ok-unit.unit (subst (λ (k : Kind). is_rebuild_of k unit ≡ true) c.in_ok-unit.ensures own)) all)
