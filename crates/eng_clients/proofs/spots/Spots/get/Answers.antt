use Rattle.std.proofs.Common.{◌∙◌, None, sym, ap}
use Rattle.std.specs.Prelude.{slice_index_or}
use Rattle.eng_clients.proofs.Padded.{padded-get}
use Rattle.eng_clients.proofs.spots.Spots.get.Goals as goal

pub returns : goal.returns
returns c =
    c.at_or_none.ensures
    ∙ (ap (λ l. slice_index_or l c.args.node None) c.deref.ensures.value
    ∙ (sym (padded-get 2048 c.self.inside.list.items c.args.node)
    ∙ ap (λ l. slice_index_or l c.args.node None) c.self.view_is))
