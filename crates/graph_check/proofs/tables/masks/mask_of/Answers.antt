use Rattle.std.proofs.Common.{ap, arith, get_or}
use Rattle.std.specs.Prelude.{bit_or}
use Rattle.graph_check.proofs.Masks.{with-bit}
use Rattle.graph_check.proofs.tables.masks.mask_of.Goals as goal

pub returns-then-n-base : goal.returns-then-n-base
returns-then-n-base c = with-bit c.args.base c.args.n (get_or c.args.masks.now c.args.n 0) _ (omega arith) (ap (bit_or (get_or c.args.masks.now c.args.n 0)) c.bit.ensures)
