use Rattle.std.proofs.Common.{ap}
use Rattle.eng_state.specs.declared.array.Array.{Array}
use Rattle.eng_state.proofs.Ending.{ends-still}
use Rattle.eng_state.proofs.array.Array.plain_home.Goals as goal

pub mark_ended-requires-clause-can : goal.mark_ended-requires-clause-can
mark_ended-requires-clause-can g c = ends-still c.args.self.now c.list_home.new.self c.args.client c.args.node c.args.outcome
    (ap (λ (s : Array g.row.L.Denot g.row.D.Denot). s.clients) c.list_home.ensures)
    (ap (λ (s : Array g.row.L.Denot g.row.D.Denot). s.graphs.items) c.list_home.ensures)
    c.requires.can
