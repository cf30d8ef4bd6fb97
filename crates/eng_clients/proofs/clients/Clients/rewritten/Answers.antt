use Rattle.std.proofs.Common.{◌≡◌, ◌<◌, ℕ, List, length, subst, sym, true}
use Rattle.std.specs.Prelude.{MatchOption}
use Rattle.std.proofs.lemmas.List.{get_or_default}
use Rattle.graph_mean.specs.Task.{is_rebuild_of}
use Rattle.eng_clients.specs.Desk.{Desk, desk_at, no_desk}
use Rattle.eng_clients.specs.Rebuilt.{WroteAll}
use Rattle.eng_clients.proofs.clients.Clients.rewritten.Goals as goal

pub returns : goal.returns
returns c = subst (λ (d : Desk). MatchOption c.rewritten.result ((unit : ℕ) → is_rebuild_of d.task.kind unit ≡ true → WroteAll d unit → ⊥) (λ unit. (is_rebuild_of d.task.kind unit ≡ true) × WroteAll d unit))
    (let below : c.args.client < length c.self.inside.list.items = subst (λ (l : List Desk). c.args.client < length l) (sym c.self.view_is) c.requires.client in
    let d = get_or_default c.self.inside.list.items c.args.client c.index.result.now no_desk below in
    let e : c.index.result.now ≡ desk_at c.args.self.now c.args.client = cc (d, c.index.ensures, c.self.view_is) in
    e) c.rewritten.ensures
