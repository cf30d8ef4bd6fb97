use Rattle.std.proofs.Common.{true, refl, sym, subst}
use Rattle.graph_mean.specs.Graph.{View}
use Rattle.graph_mean.specs.Steps.{Units, Fail}
use Rattle.graph_mean.specs.Ordered.{IsOrdered}
use Rattle.eng_one.specs.Control.{IsReached}
use Rattle.graph_tests.proofs.runs.reached.fail.Goals as goal

pub finish-requires-clause-may : goal.finish-requires-clause-may
finish-requires-clause-may c =
    let r = c.args.run.now in
    let s = c.requires.served in
    c.no_write_is_out_before_the_commit.ensures.may r.graph s.task s.missing s.commit s.end c.args.node r s.ordered s.reached c.requires.call c.requires.out

pub returns : goal.returns
returns c =
    let r = c.args.run.now in
    let s = c.requires.served in
    let lost : Units = λ s i. true in
    let step = c.finish.ensures.step lost (λ s i own. refl) in
    record {
      task = s.task;
      missing = s.missing;
      commit = s.commit;
      end = s.end;
      ordered = subst (λ (g : View). IsOrdered g s.task s.missing s.commit s.end) (sym step.graph) s.ordered;
      reached = subst (λ (g : View). IsReached g c.finish.new.self) (sym step.graph) (c.step_reaches.ensures r.graph (Fail c.args.node lost) r c.finish.new.self s.reached step);
    }
