use Rattle.std.proofs.Common.{◌≡◌, ◌∙◌, ap, refl, subst}
use Rattle.std.specs.Prelude.{Result, Ok, Err, IsOk}
use Rattle.graph_mean.specs.declared.refusal.Refusal.{Refusal}
use Rattle.graph_mean.specs.Graph.{Held, View}
use Rattle.graph_mean.specs.Task.{Aim, missing_of}
use Rattle.graph_mean.specs.Refused.{IsFree}
use Rattle.graph_check.specs.Pieces.{pieces_of, pieces_after}
use Rattle.eng_plan.proofs.Choosing.{counted-target}
use Rattle.eng_plan.proofs.checked.plan_and_check.Goals as goal

-- all pieces were looked at where the graph was accepted
all-seen : {A : Type 0} (g : View) (t : Aim) (r : Result A Refusal) → IsOk r → pieces_after g t r ≡ pieces_of g t
all-seen g t (Ok a) h = refl
all-seen g t (Err e) h = cc

pub returns-clause-accepted : goal.returns-clause-accepted
returns-clause-accepted c = c.check.ensures.free.1 (subst (λ m. IsFree c.plan.new.graph.drawn c.args.task.now m) (counted-target c.args.task.now.kind (missing_of c.args.missing.now)) c.plan.ensures.free)

pub returns-clause-graph : goal.returns-clause-graph
returns-clause-graph c = c.plan.ensures.graph

pub returns-clause-pieces : goal.returns-clause-pieces
returns-clause-pieces c =
    let free = subst (λ m. IsFree c.plan.new.graph.drawn c.args.task.now m) (counted-target c.args.task.now.kind (missing_of c.args.missing.now)) c.plan.ensures.free in
    c.check.ensures.pieces ∙ (all-seen c.plan.new.graph.drawn c.args.task.now _ (c.check.ensures.free.1 free) ∙ ap (λ (h : Held). pieces_of h.drawn c.args.task.now) c.plan.ensures.graph)
