use Rattle.std.proofs.Common.{◌∙◌, ap, arith}
use Rattle.eng_clients.specs.Spots.{padded}
use Rattle.eng_clients.proofs.Padded.{padded-push}
use Rattle.eng_clients.proofs.spots.fill.Goals as goal

pub loop-preserved : goal.loop-preserved
loop-preserved c = record {
  same = ap (padded 2048) c.push_reserved.ensures.items ∙ (padded-push 2048 c.loop.list.items (omega arith) ∙ c.loop.invariant.same);
  count = omega arith;
  few = omega arith;
  room = omega arith;
}
