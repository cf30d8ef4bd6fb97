use Rattle.eng_clients.proofs.MadeDesk.{made}
use Rattle.eng_clients.proofs.client.open.ClientRoom.bring.Goals as goal

pub returns-clause-client : goal.returns-clause-client
returns-clause-client c =
    let inv = c.self.invariant in
    made c.take_items-items.ensures.items inv.replies.0 inv.run inv.graph inv.task inv.map inv.missing.0 c.empty.ensures inv.spots
