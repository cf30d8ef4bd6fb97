use Rattle.std.proofs.Common.{is_ok}
use Rattle.std.proofs.lemmas.Result.{err_from_is_err_and}
use Rattle.raid_bay.specs.SinkLaws.{puts_cut, puts_then}
use Rattle.top_scan.specs.Steps.{bares_text, sets_text}
use Rattle.top_scan.proofs.OwnColumns.{a_name_each, a_place_each, have_columns_below}
use Rattle.top_scan.proofs.lines.put_all.Goals as goal

pub put_sets-requires-clause-count : goal.put_sets-requires-clause-count
put_sets-requires-clause-count g c = a_name_each c.args.names.now c.args.fronts.now c.args.sets.now c.args.places.now c.requires

pub put_sets-requires-clause-columns : goal.put_sets-requires-clause-columns
put_sets-requires-clause-columns g c =
    have_columns_below c.args.names.now c.args.fronts.now c.args.sets.now c.args.places.now c.requires c.members_have_columns_of_the_set.ensures

pub put_bares-requires-clause-names : goal.put_bares-requires-clause-names
put_bares-requires-clause-names g c = a_name_each c.args.names.now c.args.fronts.now c.args.sets.now c.args.places.now c.requires

pub put_bares-requires-clause-fronts : goal.put_bares-requires-clause-fronts
put_bares-requires-clause-fronts g c = a_place_each c.args.names.now c.args.fronts.now c.args.sets.now c.args.places.now c.requires

pub returns-in_err-put_sets-clause-output : goal.returns-in_err-put_sets-clause-output
returns-in_err-put_sets-clause-output g c = λ told.
    let p = err_from_is_err_and c.from_residual.result c.from_residual.ensures.1 in
    rw p.1 (puts_cut _ _ (sets_text c.args.names.now c.args.places.now c.args.sets.now) (bares_text c.args.names.now c.args.places.now c.args.fronts.now)
    (c.in_err-put_sets.ensures.output told))

pub returns-clause-output : goal.returns-clause-output
returns-clause-output g c = λ told.
    puts_then (is_ok c.put_bares.result) _ _ _ (sets_text c.args.names.now c.args.places.now c.args.sets.now) (bares_text c.args.names.now c.args.places.now c.args.fronts.now)
    (c.in_ok-put_sets.ensures.output told) (c.put_bares.ensures.output told)
