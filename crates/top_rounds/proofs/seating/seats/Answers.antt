use Rattle.std.proofs.Common.{arith, length}
use Rattle.top_rounds.specs.Labels.{seat_of}
use Rattle.top_rounds.proofs.SeatLaws.{seats_more}
use Rattle.top_rounds.proofs.seating.seats.Goals as goal

pub loop-c-preserved : goal.loop-c-preserved
loop-c-preserved c = seats_more (seat_of (length c.args.columns.now)) c.args.columns.now c.loop-c.seats c.loop-c.c c.seat.result _ (omega arith) (omega arith) c.seat.ensures c.loop-c.invariant
