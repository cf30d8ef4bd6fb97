use Rattle.std.proofs.Common.{subst}
use Rattle.buf_pool.specs.Pool.{KeepsOthers}
use Rattle.eng_clients.specs.Desk.{Desk}
use Rattle.eng_clients.proofs.client.Client.give_back.Goals as goal

pub returns-clause-others : goal.returns-clause-others
returns-clause-others c = subst (λ (d : Desk). KeepsOthers c.args.pool.now d.lease c.return_from.new.self) c.self.view_is c.return_from.ensures.others
