use Rattle.std.proofs.Common.{Option, None, subst}
use Rattle.eng_job.specs.declared.job.Job.{Job}
use Rattle.eng_crew.specs.Laws.{TurnsTo}
use Rattle.eng_crew.proofs.Keeps.{turns-on}
use Rattle.eng_crew.proofs.turns.go_far.Goals as goal

pub loop-found-init : goal.loop-found-init
loop-found-init g c = record { turned = c.make_some.ensures.turned; steady = c.make_some.ensures.steady }

pub loop-found-preserved : goal.loop-found-preserved
loop-found-preserved g c =
    let v = c.args.core.now in
    let w = c.send_one.new.core in
    record {
      turned = turns-on g.L.Layout g.D.Disk v c.loop-found.core w None None None c.loop-found.invariant.turned (subst (λ (u : Option (Job g.row.D.Denot)). TurnsTo g.L.Layout g.D.Disk c.loop-found.core None w u) c.in-Event-None.is-1 c.send_one.ensures.turned);
      steady = c.send_one.ensures.steady;
    }

pub returns-in_default-clause-turned : goal.returns-in_default-clause-turned
returns-in_default-clause-turned g c = turns-on g.L.Layout g.D.Disk c.args.core.now c.loop-found.core c.send_one.new.core None None c.send_one.result.1 c.loop-found.invariant.turned c.send_one.ensures.turned
