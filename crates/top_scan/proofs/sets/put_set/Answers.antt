use Rattle.std.proofs.Common.{is_ok, false, subst}
use Rattle.std.proofs.lemmas.Result.{err_from_is_err_and}
use Rattle.std.proofs.lemmas.List.{get_or_default}
use Rattle.raid_bay.specs.SinkLaws.{puts_cut, puts_then}
use Rattle.raid_assemble.specs.declared.sets.Set.{Set}
use Rattle.top_scan.specs.Steps.{no_set}
use Rattle.top_scan.specs.Places.{HasColumnsBelow}
use Rattle.top_scan.proofs.Here.{set_is}
use Rattle.top_scan.proofs.Printed.{puts_off, puts_on}
use Rattle.top_scan.proofs.sets.put_set.Goals as goal

pub put_members-requires-clause-columns : goal.put_members-requires-clause-columns
put_members-requires-clause-columns g c =
    let own = get_or_default c.args.sets.now c.args.set no_set _ c.requires.within in
    subst (λ (s : Set). HasColumnsBelow c.args.places.now c.args.set s.columns) own (c.requires.columns c.args.set c.requires.within)

pub returns-in_err-put-clause-output : goal.returns-in_err-put-clause-output
returns-in_err-put-clause-output g c = λ told.
    let p = err_from_is_err_and c.from_residual.result c.from_residual.ensures.1 in
    let own = get_or_default c.args.sets.now c.args.set no_set _ c.requires.within in
    let is = set_is c.args.names.now c.args.places.now c.args.sets.now c.args.set _ own in
    rw p.1 (puts_off _ _ _ _ _ is (rw c.set_set.ensures at (c.in_err-put.ensures.output told)))

pub returns-in_err-put_members-clause-output : goal.returns-in_err-put_members-clause-output
returns-in_err-put_members-clause-output g c = λ told.
    let p = err_from_is_err_and c.from_residual-in_err-put_members.result c.from_residual-in_err-put_members.ensures.1 in
    let own = get_or_default c.args.sets.now c.args.set no_set _ c.requires.within in
    let is = set_is c.args.names.now c.args.places.now c.args.sets.now c.args.set _ own in
    rw p.1 (puts_on false _ _ _ _ _ _ is (rw c.set_set.ensures at (c.in_ok-put.ensures.output told))
    (puts_cut _ _ _ _
    (c.in_err-put_members.ensures.output told)))

pub returns-clause-output : goal.returns-clause-output
returns-clause-output g c = λ told.
    let own = get_or_default c.args.sets.now c.args.set no_set _ c.requires.within in
    let is = set_is c.args.names.now c.args.places.now c.args.sets.now c.args.set _ own in
    puts_on (is_ok c.put_others.result) _ _ _ _ _ _ is (rw c.set_set.ensures at (c.in_ok-put.ensures.output told))
    (puts_then (is_ok c.put_others.result) _ _ _ _ _
    (c.in_ok-put_members.ensures.output told) (c.put_others.ensures.output told))
