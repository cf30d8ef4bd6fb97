use Rattle.std.proofs.Common.{arith}
use Rattle.raid_conf.proofs.PrintedLines.{names_all, names_more}
use Rattle.raid_conf.proofs.print.push_names.Goals as goal

pub loop-i-preserved : goal.loop-i-preserved
loop-i-preserved c = names_more _ _ _ c.args.names.now c.loop-i.i _ c.get.ensures c.in_ok-push_name.ensures c.loop-i.invariant

pub returns : goal.returns
returns c = names_all _ _ c.args.names.now c.loop-i.i (omega arith) c.loop-i.invariant
