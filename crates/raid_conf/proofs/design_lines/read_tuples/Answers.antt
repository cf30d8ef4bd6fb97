use Rattle.std.proofs.Common.{◌∙◌, sym, ◌-◌, arith}
use Rattle.text_steps.specs.Steps.{rest_of}
use Rattle.raid_conf.proofs.Turns.{tuple_on, tuple_stop, tuples_done}
use Rattle.raid_conf.proofs.design_lines.read_tuples.Goals as goal

pub returns-in-Err : goal.returns-in-Err
returns-in-Err c = rw c.loop-i.invariant at (tuple_stop c.args.b c.loop-i.i c.args.k c.loop-i.tuples (rest_of c.loop-i.lines) c.in-Err.fault c.loop-i-test.true c.in-Err.ensures)

pub loop-i-preserved : goal.loop-i-preserved
loop-i-preserved c = sym (tuple_on c.args.b c.loop-i.i c.args.k c.loop-i.tuples (rest_of c.loop-i.lines) c.next_tuple.new.tuples (rest_of c.next_tuple.new.lines) c.loop-i-test.true c.in-Ok.ensures) ∙ c.loop-i.invariant

pub returns : goal.returns
returns c = sym c.loop-i.invariant ∙ tuples_done (c.args.b - c.loop-i.i) c.args.k c.loop-i.tuples (rest_of c.loop-i.lines) (omega arith)
