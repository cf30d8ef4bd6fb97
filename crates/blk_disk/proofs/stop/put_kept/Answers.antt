use Rattle.std.proofs.Common.{rules, ◌∙◌}
use Rattle.blk_disk.proofs.Stopping.{one_more_of, stopped_more}
use Rattle.blk_disk.proofs.stop.put_kept.Goals as goal

pub loop-i-preserved : goal.loop-i-preserved
loop-i-preserved c = (stopped_more c.args.bytes.now c.loop-i.bytes c.put_if.new.bytes c.args.keep.now c.args.logged.now c.loop-i.i _ _ c.loop-i-test.true (search rules) c.loop-i.invariant.0 c.put_if.ensures.bytes, c.put_if.ensures.size ∙ c.loop-i.invariant.1, λ n. one_more_of c.args.bytes.now c.loop-i.bytes c.put_if.new.bytes c.args.logged.now c.loop-i.i _ n (search rules) (c.put_if.ensures.image n) (c.loop-i.invariant.2 n))
