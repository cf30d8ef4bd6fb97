use Rattle.std.proofs.Common.{◌∙◌, ◌-◌, length}
use Rattle.put_line.proofs.Pages.{put_so_far}
use Rattle.put_line.proofs.page.PageSink.put.Goals as goal

pub returns-in-Err-clause-output : goal.returns-in-Err-clause-output
returns-in-Err-clause-output g c = λ told.
    (length c.args.bytes.now - length c.loop-rest.rest.now, c.in-Err.ensures.output told ∙ put_so_far _ _ c.loop-rest.rest.now c.args.bytes.now (c.loop-rest.invariant.output told) c.loop-rest.invariant.short)
