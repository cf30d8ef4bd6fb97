use Rattle.std.proofs.Common.{subst, ap, ◌∙◌}
use Rattle.graph_mean.specs.Task.{Missing, missing_of}
use Rattle.graph_mean.specs.Ordered.{Accepted}
use Rattle.graph_mean.specs.Refused.{IsFree}
use Rattle.eng_plan.proofs.Choosing.{counted-target}
use Rattle.eng_clients.proofs.client.Client.draw.Goals as goal

pub returns-clause-passes : goal.returns-clause-passes
returns-clause-passes c =
    let t = c.self.inside.task in
    let g = c.plan.new.graph.drawn in
    let same = counted-target t.kind (missing_of c.deref.result.now) ∙ ap missing_of c.deref.ensures.value in
    record {
      accepted = subst (λ (m : Missing). Accepted g t m) same c.plan.ensures.accepted;
      free = subst (λ (m : Missing). IsFree g t m) same c.plan.ensures.free;
      bufs = λ e. c.plan.ensures.bufs;
    }
