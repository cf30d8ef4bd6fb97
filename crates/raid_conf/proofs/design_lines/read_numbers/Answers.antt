use Rattle.std.proofs.Common.{◌∙◌, sym}
use Rattle.raid_text.specs.Seen.{words_left}
use Rattle.raid_conf.proofs.Turns.{element_on, element_stop, elements_done}
use Rattle.raid_conf.proofs.design_lines.read_numbers.Goals as goal

pub loop-word-preserved : goal.loop-word-preserved
loop-word-preserved c =
    let told = rw c.in-Some.ensures.some at c.loop-word.invariant in
    sym (element_on c.args.line c.loop-word.numbers c.in-Some.word.now (words_left c.next.new.self) c.push_number.new.numbers c.in-Ok.ensures) ∙ told

pub returns-in-Err : goal.returns-in-Err
returns-in-Err c =
    let told = rw c.in-Some.ensures.some at c.loop-word.invariant in
    rw told at (element_stop c.args.line c.loop-word.numbers c.in-Some.word.now (words_left c.next.new.self) c.in-Err.fault c.in-Err.ensures)

pub returns : goal.returns
returns c =
    let told = rw c.in_default.ensures.none.0 at c.loop-word.invariant in
    sym told ∙ elements_done c.args.line c.loop-word.numbers
