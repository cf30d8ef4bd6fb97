use Rattle.std.proofs.Common.{replicate}
use Rattle.eng_log.proofs.fill.set_all.Goals as goal

pub returns-then-count-gt0 : goal.returns-then-count-gt0
returns-then-count-gt0 c = c.spread.ensures (replicate 512 c.args.byte) c.set_front.ensures
