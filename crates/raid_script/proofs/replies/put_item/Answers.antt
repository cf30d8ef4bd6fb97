use Rattle.std.proofs.Common.{is_ok}
use Rattle.std.proofs.lemmas.Result.{err_from_is_err_and}
use Rattle.raid_bay.specs.SinkLaws.{puts_then, puts_cut}
use Rattle.raid_script.specs.Replies.{reply_line, data_text, item_first, item_sectors}
use Rattle.raid_script.specs.Steps.{bytes_from}
use Rattle.raid_script.proofs.replies.put_item.Goals as goal

pub returns-in_err-put-clause-output : goal.returns-in_err-put-clause-output
returns-in_err-put-clause-output g c = λ told.
    let p = err_from_is_err_and c.from_residual.result c.from_residual.ensures.1 in
    rw p.1 (puts_cut _ _ (reply_line c.args.place.0 c.args.place.1 c.args.reply) (data_text c.args.reply (item_first c.args.item.now) (bytes_from c.args.sectors.now c.args.from (item_sectors c.args.item.now)))
    (rw c.set_reply.ensures at (c.in_err-put.ensures.output told)))

pub returns-clause-output : goal.returns-clause-output
returns-clause-output g c = λ told.
    puts_then (is_ok c.put_data.result) _ _ _ (reply_line c.args.place.0 c.args.place.1 c.args.reply) (data_text c.args.reply (item_first c.args.item.now) (bytes_from c.args.sectors.now c.args.from (item_sectors c.args.item.now)))
    (rw c.set_reply.ensures at (c.in_ok-put.ensures.output told))
    (c.put_data.ensures.output told)
