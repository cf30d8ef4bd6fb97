use Rattle.std.proofs.Common.{arith}
use Rattle.eng_ends.proofs.Rebuilding.{first-position, first-within}
use Rattle.eng_ends.proofs.rebuilt.rebuilt.Goals as goal

pub stripe-stripe-requires-clause-position : goal.stripe-stripe-requires-clause-position
stripe-stripe-requires-clause-position g c = first-position g.L.Layout g.D.Disk c.args.array.now c.requires.sound c.args.client c.requires.runs c.in_ok-unit.unit c.in_ok-unit.ensures.1

pub target-requires-clause-stripe : goal.target-requires-clause-stripe
target-requires-clause-stripe g c = let lt = first-within g.L.Layout g.D.Disk c.args.array.now c.requires.sound c.args.client c.requires.runs c.in_ok-unit.unit c.in_ok-unit.ensures.1 in let e = c.stripe-stripe.ensures in omega (arith, lt, e)
