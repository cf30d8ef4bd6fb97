use Rattle.eng_log.proofs.FewItems.{few-each}
use Rattle.eng_parts.proofs.room.clients_for.Goals as goal

pub open-requires : goal.open-requires
open-requires c = few-each c.args.clients.now c.requires.clients c.requires.items
