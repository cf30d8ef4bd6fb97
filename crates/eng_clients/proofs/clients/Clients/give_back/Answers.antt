use Rattle.std.proofs.Common.{◌≡◌, ◌<◌, ◌∙◌, List, length, ap, subst, sym}
use Rattle.std.proofs.lemmas.List.{get_or_default}
use Rattle.buf_pool.specs.Pool.{KeepsOthers}
use Rattle.eng_clients.specs.Desk.{Desk, desk_at, no_desk}
use Rattle.eng_clients.proofs.clients.Clients.give_back.Goals as goal

pub returns-clause-others : goal.returns-clause-others
returns-clause-others c =
    let list : List Desk = c.self.inside.list.items in
    let within : c.args.client < length list = subst (λ (l : List Desk). c.args.client < length l) (sym c.self.view_is) c.requires.client in
    let is : c.index.result.now ≡ desk_at c.args.self.now c.args.client =
    c.index.ensures ∙ (get_or_default list c.args.client c.index.result.now no_desk within ∙ ap (λ (l : List Desk). desk_at l c.args.client) c.self.view_is) in
    subst (λ (d : Desk). KeepsOthers c.args.pool.now d.lease c.give_back.new.pool) is c.give_back.ensures.others
