use Rattle.std.proofs.Common.{◌<◌, arith}
use Rattle.raid_text.specs.Seen.{words_left}
use Rattle.raid_conf.proofs.Turns.{first_on, first_stop, first_too_many}
use Rattle.raid_conf.proofs.design_lines.tuple_from.Goals as goal

pub returns-then-k-eq0 : goal.returns-then-k-eq0
returns-then-k-eq0 c = rw c.if-k-eq0.true (first_too_many c.args.line c.args.tuples.now c.args.first.now (words_left c.args.words.now))

pub returns-in-Err : goal.returns-in-Err
returns-in-Err c =
    let some : 0 < c.args.k = omega (arith, c.if-k-eq0.false) in
    first_stop c.args.line c.args.k c.args.tuples.now c.args.first.now (words_left c.args.words.now) c.in-Err.fault some c.in-Err.ensures

pub returns : goal.returns
returns c =
    let some : 0 < c.args.k = omega (arith, c.if-k-eq0.false) in
    rw (first_on c.args.line c.args.k c.args.tuples.now c.args.first.now (words_left c.args.words.now) c.push_number.new.numbers some c.in-Ok.ensures) c.push_tuple.ensures
