use Rattle.std.proofs.Common.{sym, subst}
use Rattle.graph_mean.specs.Graph.{View}
use Rattle.graph_mean.specs.Ordered.{IsOrdered}
use Rattle.eng_one.specs.Control.{IsReached}
use Rattle.graph_tests.proofs.runs.reached.pass_over.Goals as goal

pub returns : goal.returns
returns c =
    let r = c.args.run.now in
    let s = c.requires.served in
    let step = c.skip.ensures.step in
    record {
      task = s.task;
      missing = s.missing;
      commit = s.commit;
      end = s.end;
      ordered = subst (λ (g : View). IsOrdered g s.task s.missing s.commit s.end) (sym step.graph) s.ordered;
      reached = subst (λ (g : View). IsReached g c.skip.new.self) (sym step.graph) (c.skip_reaches.ensures r.graph c.args.node r c.skip.new.self s.reached c.requires.after c.requires.write step);
    }
