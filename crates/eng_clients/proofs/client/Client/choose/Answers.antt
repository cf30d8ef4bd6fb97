use Rattle.std.proofs.Common.{subst, ◌≡◌, ap, refl, None, Some}
use Rattle.graph_mean.specs.Graph.{View}
use Rattle.graph_mean.specs.Task.{Missing, missing_of}
use Rattle.graph_mean.specs.Ordered.{Accepted}
use Rattle.graph_mean.specs.Refused.{IsFree}
use Rattle.eng_plan.proofs.Choosing.{file-graph}
use Rattle.eng_clients.proofs.client.Client.choose.Goals as goal

pub returns-clause-passes : goal.returns-clause-passes
returns-clause-passes c =
    let t = c.self.inside.task in
    let ms = missing_of c.self.inside.missing.items in
    let value = ap missing_of c.deref.ensures.value in
    let same = file-graph c.args.graphs.now c.args.file c.index-graphs-file.result c.self.inside.graph c.requires c.index-graphs-file.is in
    record {
      accepted = subst (λ (g : View). Accepted g t ms) same (subst (λ (m : Missing). Accepted c.index-graphs-file.result.drawn t m) value (c.in_ok-check.ensures.accepted.0 refl).0);
      free = subst (λ (g : View). IsFree g t ms) same (subst (λ (m : Missing). IsFree c.index-graphs-file.result.drawn t m) value (c.in_ok-check.ensures.free.0 refl));
      bufs = λ e. let z : Some c.args.file ≡ None = e in absurd (let u : ⊥ = cc in u);
    }
