use Rattle.std.proofs.Common.{◌≡◌, true, false}
use Rattle.eng_choice.proofs.TakeParts.{take-free, take-fits, take-from}
use Rattle.eng_choice.proofs.takable.can_take_op.Goals as goal

pub returns-in-Some : goal.returns-in-Some
returns-in-Some g c = (
  λ yes_. take-from g.L.Layout c.args.array.now c.args.client c.args.op.now c.args.file c.requires.serves c.requires.not_lost c.requires.waits c.in-Some.ensures.0 (c.fits.ensures.0 yes_),
  λ can. c.fits.ensures.1 (take-fits g.L.Layout c.args.array.now c.args.client c.args.op.now c.args.file c.requires.serves can),
)

pub returns-in-None : goal.returns-in-None
returns-in-None g c = (
  λ yes_. let z : false ≡ true = yes_ in absurd (let u : ⊥ = cc in u),
  λ can. absurd (c.in-None.ensures (take-free g.L.Layout c.args.array.now c.args.client c.args.op.now c.args.file c.requires.serves can)),
)
