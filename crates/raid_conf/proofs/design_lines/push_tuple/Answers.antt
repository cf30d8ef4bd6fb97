use Rattle.std.proofs.Common.{◌∙◌, sym, ◌-◌, subst, arith}
use Rattle.raid_text.specs.Seen.{words_left}
use Rattle.raid_conf.specs.Answers.{GivesFault}
use Rattle.raid_conf.proofs.Turns.{number_missing, number_on, number_stop, number_too_many, tuple_done}
use Rattle.raid_conf.proofs.design_lines.push_tuple.Goals as goal

pub returns-in_default : goal.returns-in_default
returns-in_default c =
    let told = rw c.in_default.ensures.none.0 at c.loop-i.invariant in
    sym told ∙ number_missing c.args.line c.args.count c.loop-i.i c.loop-i.tuples c.loop-i-test.true

pub returns-in-Err : goal.returns-in-Err
returns-in-Err c =
    let told = rw c.in-Some.ensures.some at c.loop-i.invariant in
    rw told at (number_stop c.args.line c.args.count c.loop-i.i c.loop-i.tuples c.in-Some.word.now (words_left c.next.new.self) c.in-Err.fault c.loop-i-test.true c.in-Err.ensures)

pub loop-i-preserved : goal.loop-i-preserved
loop-i-preserved c =
    let told = rw c.in-Some.ensures.some at c.loop-i.invariant in
    sym (number_on c.args.line c.args.count c.loop-i.i c.loop-i.tuples c.in-Some.word.now (words_left c.next.new.self) c.push_number.new.numbers c.loop-i-test.true c.in-Ok.ensures) ∙ told

pub returns-in-None : goal.returns-in-None
returns-in-None c =
    let told = rw c.in-None.ensures.none.0 at c.loop-i.invariant in
    sym told ∙ tuple_done c.args.line (c.args.count - c.loop-i.i) c.loop-i.tuples (omega arith)

pub returns-in-Some-next : goal.returns-in-Some-next
returns-in-Some-next c =
    let told = rw c.in-Some-next.ensures.some at c.loop-i.invariant in
    sym told ∙ number_too_many c.args.line (c.args.count - c.loop-i.i) c.loop-i.tuples c.in-Some-next.field-0.now (words_left c.next-2.new.self) (omega arith)
