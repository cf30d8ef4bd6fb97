use Rattle.std.proofs.Common.{◌∙◌, ap}
use Rattle.eng_clients.specs.Desk.{item_at}
use Rattle.eng_clients.proofs.client.Client.item.Goals as goal

pub returns : goal.returns
returns c = c.as_ref.ensures.value ∙ (c.self.invariant.item ∙ ap item_at c.self.view_is)
