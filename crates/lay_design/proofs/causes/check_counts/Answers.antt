use Rattle.std.proofs.Common.{sym, subst}
use Rattle.lay_design.specs.Given.{blocks_of, AreCounted}
use Rattle.lay_design.proofs.Tables.{stray_found, degrees_right, parted_found, pairs_right}
use Rattle.lay_design.proofs.causes.check_counts.Goals as goal

pub returns-in-Some-clause-err : goal.returns-in-Some-clause-err
returns-in-Some-clause-err c =
    let n = c.args.numbers in
    let d = blocks_of n c.args.list.now in
    let table = c.as_slice-table.result.now in
    let counted : AreCounted n.tuples n.width c.args.list.now table = subst (AreCounted n.tuples n.width c.args.list.now) (sym c.as_slice-table.ensures.value) c.in_ok-counts.ensures.counted in
    let found = stray_found d table c.requires.numbers.objects_most counted c.in-Some.object c.in-Some.ensures in
    (c.requires, found.0, found.1, found.2, found.3)

pub returns-in-Some-first_parted-clause-err : goal.returns-in-Some-first_parted-clause-err
returns-in-Some-first_parted-clause-err c =
    let n = c.args.numbers in
    let d = blocks_of n c.args.list.now in
    let table = c.as_slice-table.result.now in
    let counted : AreCounted n.tuples n.width c.args.list.now table = subst (AreCounted n.tuples n.width c.args.list.now) (sym c.as_slice-table.ensures.value) c.in_ok-counts.ensures.counted in
    let spot = c.in-Some-first_parted.spot in
    let found = parted_found d table c.requires.numbers.objects_most counted spot.row spot.place c.in-Some-first_parted.ensures in
    (c.requires, degrees_right d table c.requires.numbers.objects_most counted c.in_default.ensures, found.0, found.1)

pub returns-clause-ok : goal.returns-clause-ok
returns-clause-ok c =
    let n = c.args.numbers in
    let d = blocks_of n c.args.list.now in
    let table = c.as_slice-table.result.now in
    let counted : AreCounted n.tuples n.width c.args.list.now table = subst (AreCounted n.tuples n.width c.args.list.now) (sym c.as_slice-table.ensures.value) c.in_ok-counts.ensures.counted in
    record {
      numbers = c.requires.numbers;
      below = c.requires.below;
      distinct = c.requires.distinct;
      degrees = degrees_right d table c.requires.numbers.objects_most counted c.in_default.ensures;
      pairs = pairs_right d table c.requires.numbers.objects_most counted c.in_default-first_parted.ensures;
    }
