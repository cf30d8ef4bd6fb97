use Rattle.std.proofs.Common.{true, false, arith}
use Rattle.std.proofs.lemmas.Result.{err_from_is_err_and}
use Rattle.top_scan.specs.Lines.{member_text}
use Rattle.top_scan.proofs.Printed.{put_first, puts_nothing, puts_off, puts_on}
use Rattle.top_scan.proofs.MembersInTurn.{member_more, member_none, next_below}
use Rattle.top_scan.proofs.members.put_members.Goals as goal

pub loop-found-init : goal.loop-found-init
loop-found-init g c = record {
  rest = λ told b new puts. put_first (member_text c.args.names.now c.args.places.now c.args.set) c.args.columns b _ new puts;
  low = omega arith;
  later = omega arith;
}

pub put_member-requires : goal.put_member-requires
put_member-requires g c = omega (arith, c.in-Some.ensures.within, c.requires.count)

pub returns-in_err-put_member-clause-output : goal.returns-in_err-put_member-clause-output
returns-in_err-put_member-clause-output g c = λ told.
    let p = err_from_is_err_and c.from_residual.result c.from_residual.ensures.1 in
    let more = member_more c.args.names.now c.args.places.now c.args.set c.args.columns c.loop-found.from c.in-Some.found c.requires.columns c.in-Some.ensures in
    rw p.1 (c.loop-found.invariant.rest told false _ (puts_off _ _ _ _ _ more (c.in_err-put_member.ensures.output told)))

pub loop-found-preserved : goal.loop-found-preserved
loop-found-preserved g c =
    let more = member_more c.args.names.now c.args.places.now c.args.set c.args.columns c.loop-found.from c.in-Some.found c.requires.columns c.in-Some.ensures in
    let high = next_below c.args.names.now c.args.places.now c.args.set c.args.columns c.loop-found.from c.in-Some.found c.requires.columns c.in-Some.ensures in
    record {
      rest = λ told b new puts. c.loop-found.invariant.rest told b new
          (puts_on b _ _ new _ _ _ more (c.in_ok-put_member.ensures.output told) (rw c.from-from.ensures at puts));
      low = omega (arith, high, c.from-from.ensures);
      later = omega (arith, c.put_member.ensures.later, c.loop-found.invariant.later);
    }

pub returns-clause-output : goal.returns-clause-output
returns-clause-output g c = λ told.
    c.loop-found.invariant.rest told true _
    (puts_nothing _ _ (member_none c.args.names.now c.args.places.now c.args.set c.args.columns c.loop-found.from c.loop-found.invariant.low c.in_default.ensures))
