use Rattle.std.proofs.Common.{◌+◌, ◌-◌, ◌/◌, ◌<◌, length, arith}
use Rattle.stripe_lock.proofs.Rows.{below_middle, above_middle}
use Rattle.stripe_lock.proofs.row.place.Goals as goal

pub loop-low-preserved-then-rows-middle : goal.loop-low-preserved-then-rows-middle
loop-low-preserved-then-rows-middle c =
    let middle = c.loop-low.low + (c.loop-low.high - c.loop-low.low) / 2 in
    let inside : middle < length c.args.rows.now = omega arith in
    (omega arith, c.loop-low.invariant.1, below_middle c.args.rows.now c.args.stripe middle _ c.requires inside c.if-rows-middle.true, c.loop-low.invariant.3)

pub loop-low-preserved : goal.loop-low-preserved
loop-low-preserved c =
    let middle = c.loop-low.low + (c.loop-low.high - c.loop-low.low) / 2 in
    let inside : middle < length c.args.rows.now = omega arith in
    (omega arith, omega arith, c.loop-low.invariant.2, above_middle c.args.rows.now c.args.stripe middle _ c.requires inside c.if-rows-middle.false)
