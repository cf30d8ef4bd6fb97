use Rattle.std.proofs.Math.Nat.{mul-pos}
use Rattle.lay_core.proofs.Parted.{stripe-once, unit-once, offset-once}
use Rattle.lay_core.proofs.block_numbers.parts_of.Goals as goal

pub returns-clause-stripe : goal.returns-clause-stripe
returns-clause-stripe c = stripe-once c.args.block c.args.sectors c.args.units

pub returns-clause-unit : goal.returns-clause-unit
returns-clause-unit c =
    let some = c.requires.sectors.0 in
    unit-once c.args.block c.args.sectors c.args.units some (mul-pos some c.requires.units.0)

pub returns-clause-offset : goal.returns-clause-offset
returns-clause-offset c = offset-once c.args.block c.args.sectors c.args.units
