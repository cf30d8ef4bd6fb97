use Rattle.eng_fails.specs.Returned.{ended_by}
use Rattle.eng_crew.proofs.Made.{ended-made}
use Rattle.eng_crew.proofs.making.bring_home.Goals as goal

pub finish-requires-clause-back : goal.finish-requires-clause-back
finish-requires-clause-back g c = (c.args.job, c.requires.out, c.perform-outcome.ensures)

pub returns : goal.returns
returns g c = λ v made.
    let x = c.args.core.now in
    let done = c.perform-outcome.new.self in
    let outcome = c.perform-outcome.result in
    ended-made g.L.Layout g.D.Disk v x c.finish.new.self c.args.job done outcome (ended_by x.array done outcome) made c.perform-outcome.ensures c.finish.ensures.happens c.finish.ensures.end c.finish.ensures.gets
