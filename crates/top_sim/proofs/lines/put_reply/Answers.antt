use Rattle.std.proofs.Common.{is_ok}
use Rattle.std.proofs.lemmas.Result.{err_from_is_err_and}
use Rattle.raid_bay.specs.SinkLaws.{puts_then, puts_cut}
use Rattle.top_sim.specs.Lines.{data_text}
use Rattle.top_sim.specs.Steps.{reply_line, reply_word}
use Rattle.top_sim.proofs.lines.put_reply.Goals as goal

pub returns-in_err-put-clause-output : goal.returns-in_err-put-clause-output
unfolding reply_line
returns-in_err-put-clause-output g c = λ told.
    let p = err_from_is_err_and c.from_residual.result c.from_residual.ensures.1 in
    rw p.1 (puts_cut _ _ (reply_line c.args.number (reply_word c.args.op.now))
    (data_text c.args.op.now c.args.sectors.now)
    (rw c.reply_word.ensures.word at
    (rw c.set_reply.ensures at (c.in_err-put.ensures.output told))))

pub returns-clause-output : goal.returns-clause-output
unfolding reply_line
returns-clause-output g c = λ told.
    puts_then (is_ok c.put_data.result) _ _ _ (reply_line c.args.number (reply_word c.args.op.now))
    (data_text c.args.op.now c.args.sectors.now)
    (rw c.reply_word.ensures.word at
    (rw c.set_reply.ensures at (c.in_ok-put.ensures.output told)))
    (c.put_data.ensures.output told)
