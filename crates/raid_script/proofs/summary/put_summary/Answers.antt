use Rattle.std.proofs.Common.{is_ok, length}
use Rattle.std.specs.Prelude.{sum_by}
use Rattle.std.proofs.lemmas.Result.{err_from_is_err_and}
use Rattle.raid_bay.specs.SinkLaws.{puts_then, puts_cut}
use Rattle.item_list.specs.ItemList.{ItemList}
use Rattle.raid_script.specs.Replies.{row_sectors}
use Rattle.raid_script.specs.Summary.{all_sum}
use Rattle.raid_script.specs.Steps.{row_writes, sweep_line, written_line}
use Rattle.raid_script.proofs.summary.put_summary.Goals as goal

pub returns-in_err-put-clause-output : goal.returns-in_err-put-clause-output
unfolding sweep_line written_line
returns-in_err-put-clause-output g c = λ told.
    let p = err_from_is_err_and c.from_residual.result c.from_residual.ensures.1 in
    let first = sweep_line (length c.args.clients.now) (sum_by (λ (row : ItemList). length row.items) c.args.clients.now) in
    let second = written_line (sum_by (λ (row : ItemList). row_writes row.items) c.args.clients.now) (sum_by (λ (row : ItemList). row_sectors row.items) c.args.clients.now) (all_sum c.args.clients.now c.args.replies.now c.args.sectors.now) in
    rw p.1 (puts_cut _ _ first second (rw (c.set_sweep.ensures, c.count_items.ensures) at (c.in_err-put.ensures.output told)))

pub returns-clause-output : goal.returns-clause-output
unfolding sweep_line written_line
returns-clause-output g c = λ told.
    let first = sweep_line (length c.args.clients.now) (sum_by (λ (row : ItemList). length row.items) c.args.clients.now) in
    let second = written_line (sum_by (λ (row : ItemList). row_writes row.items) c.args.clients.now) (sum_by (λ (row : ItemList). row_sectors row.items) c.args.clients.now) (all_sum c.args.clients.now c.args.replies.now c.args.sectors.now) in
    puts_then (is_ok c.put-2.result) _ _ _ first second
    (rw (c.set_sweep.ensures, c.count_items.ensures) at (c.in_ok-put.ensures.output told))
    (rw (c.set_written.ensures, c.count_written.ensures, c.sum_all-sums.ensures.read, c.sum_all-sums.ensures.sum) at (c.put-2.ensures.output told))
