use Rattle.std.proofs.Common.{get_or}
use Rattle.eng_log.proofs.Seating.{seat-stored}
use Rattle.eng_log.proofs.patched.patch_in.Goals as goal

pub returns-clause-stored : goal.returns-clause-stored
returns-clause-stored c = seat-stored c.args.pool.now c.take-buffer.new.self c.put.new.self (get_or c.args.lease.now c.args.buf 0) _ (c.requires.lease c.args.buf c.requires.buf).0 c.requires.home c.take-buffer.ensures.left c.put.ensures.back
