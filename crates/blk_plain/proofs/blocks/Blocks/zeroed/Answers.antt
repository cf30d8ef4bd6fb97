use Rattle.std.proofs.Common.{arith}
use Rattle.std.proofs.lemmas.List.{replicate_more}
use Rattle.blk_plain.specs.Plain.{zero_sector}
use Rattle.blk_plain.proofs.blocks.Blocks.zeroed.Goals as goal

pub loop-preserved : goal.loop-preserved
unfolding zero_sector
loop-preserved c = record {
  items = cc (c.push_reserved.ensures.items, c.loop.invariant.items, replicate_more c.loop.counter zero_sector);
  len = omega arith;
  room = omega arith;
}
