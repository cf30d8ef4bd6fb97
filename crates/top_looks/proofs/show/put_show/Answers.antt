use Rattle.std.proofs.Common.{◌++◌, is_ok, true, false}
use Rattle.std.proofs.lemmas.Result.{err_from_is_err_and}
use Rattle.raid_bay.specs.SinkLaws.{puts_then, puts_cut}
use Rattle.top_open.specs.Opening.{opened_seen}
use Rattle.top_looks.specs.Show.{parity_line, show_text}
use Rattle.top_looks.specs.Steps.{columns_text, spares_text}
use Rattle.top_looks.proofs.show.put_show.Goals as goal

pub returns-in_err-put_columns-clause-output : goal.returns-in_err-put_columns-clause-output
unfolding show_text columns_text spares_text
returns-in_err-put_columns-clause-output g c = λ told.
    let p = err_from_is_err_and c.from_residual.result c.from_residual.ensures.1 in
    let columns = columns_text c.args.conf.now.disks c.args.opened.now.columns.items in
    let spares = spares_text c.args.conf.now (opened_seen c.args.opened.now) c.args.sizes.now c.args.fronts.now in
    rw p.1 (puts_cut _ _ (columns ++ spares) (parity_line c.args.opened.now.newest c.args.marked)
    (puts_cut _ _ columns spares (rw c.deref.ensures.value at (c.in_err-put_columns.ensures.output told))))

pub returns-in_err-put_spares-clause-output : goal.returns-in_err-put_spares-clause-output
unfolding show_text columns_text spares_text
returns-in_err-put_spares-clause-output g c = λ told.
    let p = err_from_is_err_and c.from_residual-in_err-put_spares.result c.from_residual-in_err-put_spares.ensures.1 in
    let columns = columns_text c.args.conf.now.disks c.args.opened.now.columns.items in
    let spares = spares_text c.args.conf.now (opened_seen c.args.opened.now) c.args.sizes.now c.args.fronts.now in
    rw p.1 (puts_cut _ _ (columns ++ spares) (parity_line c.args.opened.now.newest c.args.marked)
    (puts_then false _ _ _ columns spares (rw c.deref.ensures.value at (c.in_ok-put_columns.ensures.output told)) (c.in_err-put_spares.ensures.output told)))

pub returns-clause-output : goal.returns-clause-output
unfolding show_text columns_text spares_text
returns-clause-output g c = λ told.
    let columns = columns_text c.args.conf.now.disks c.args.opened.now.columns.items in
    let spares = spares_text c.args.conf.now (opened_seen c.args.opened.now) c.args.sizes.now c.args.fronts.now in
    puts_then (is_ok c.put.result) _ _ _ (columns ++ spares) (parity_line c.args.opened.now.newest c.args.marked)
    (puts_then true _ _ _ columns spares (rw c.deref.ensures.value at (c.in_ok-put_columns.ensures.output told)) (c.in_ok-put_spares.ensures.output told))
    (rw c.parity_line.ensures at (c.put.ensures.output told))
