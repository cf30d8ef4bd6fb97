use Rattle.std.proofs.Common.{◌∙◌, ap, arith}
use Rattle.std.specs.Prelude.{slice_set}
use Rattle.eng_clients.proofs.Padded.{padded-set}
use Rattle.eng_clients.proofs.spots.Spots.set.Goals as goal

pub returns : goal.returns
returns c =
    padded-set 2048 c.reach.new.list.items c.args.node c.args.at (omega (arith, c.reach.ensures.long))
    ∙ ap (λ l. slice_set l c.args.node c.args.at) (c.reach.ensures.same ∙ c.self.view_is)
