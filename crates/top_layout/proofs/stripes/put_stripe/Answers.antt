use Rattle.std.proofs.Common.{◌++◌, is_ok, false}
use Rattle.std.proofs.lemmas.Result.{err_from_is_err_and}
use Rattle.raid_bay.specs.SinkLaws.{puts_cut, puts_then}
use Rattle.top_layout.specs.Lines.{check_text, spare_text, stripe_text, units_text}
use Rattle.top_layout.proofs.stripes.put_stripe.Goals as goal

pub returns-in_err-put_units-clause-output : goal.returns-in_err-put_units-clause-output
unfolding stripe_text
returns-in_err-put_units-clause-output g c = λ told.
    let p = err_from_is_err_and c.from_residual.result c.from_residual.ensures.1 in
    rw p.1 (puts_cut _ _ (units_text (g.L.Layout.shape c.args.layout.now) c.args.stripe) ((check_text (g.L.Layout.shape c.args.layout.now) c.args.stripe) ++ (spare_text c.args.stripe ((g.L.Layout.shape c.args.layout.now).spare c.args.stripe))) (c.in_err-put_units.ensures.output told))

pub returns-in_err-put_check-clause-output : goal.returns-in_err-put_check-clause-output
unfolding stripe_text
returns-in_err-put_check-clause-output g c = λ told.
    let p = err_from_is_err_and c.from_residual-in_err-put_check.result c.from_residual-in_err-put_check.ensures.1 in
    rw p.1 (puts_then false _ _ _ (units_text (g.L.Layout.shape c.args.layout.now) c.args.stripe) ((check_text (g.L.Layout.shape c.args.layout.now) c.args.stripe) ++ (spare_text c.args.stripe ((g.L.Layout.shape c.args.layout.now).spare c.args.stripe))) (c.in_ok-put_units.ensures.output told) (puts_cut _ _ (check_text (g.L.Layout.shape c.args.layout.now) c.args.stripe) (spare_text c.args.stripe ((g.L.Layout.shape c.args.layout.now).spare c.args.stripe)) (c.in_err-put_check.ensures.output told)))

pub returns-clause-output : goal.returns-clause-output
unfolding stripe_text
returns-clause-output g c = λ told.
    puts_then (is_ok c.put_spare.result) _ _ _ (units_text (g.L.Layout.shape c.args.layout.now) c.args.stripe) ((check_text (g.L.Layout.shape c.args.layout.now) c.args.stripe) ++ (spare_text c.args.stripe ((g.L.Layout.shape c.args.layout.now).spare c.args.stripe))) (c.in_ok-put_units.ensures.output told)
    (puts_then (is_ok c.put_spare.result) _ _ _ (check_text (g.L.Layout.shape c.args.layout.now) c.args.stripe) (spare_text c.args.stripe ((g.L.Layout.shape c.args.layout.now).spare c.args.stripe)) (c.in_ok-put_check.ensures.output told) (rw c.spare_place.ensures at (c.put_spare.ensures.output told)))
