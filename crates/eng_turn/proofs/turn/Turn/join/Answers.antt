use Rattle.std.proofs.Common.{rules, ap, arith}
use Rattle.eng_turn.specs.View.{Mine}
use Rattle.eng_turn.proofs.Keeps.{counts_down, joins_it}
use Rattle.eng_turn.proofs.turn.Turn.join.Goals as goal

pub join_seat-requires : goal.join_seat-requires
join_seat-requires g c = let R = g.R.TurnRule in let mine = c.requires.outside in let other = c.requires.other_outside in
    (search rules, search rules, search rules, search rules, joins_it R.empty R.fits R.after _ _ _ _ _ mine.2 mine.1 other.2 other.1 other.0 c.requires.other_empty)

pub fetch_sub-requires : goal.fetch_sub-requires
fetch_sub-requires g c = let R = g.R.TurnRule in let M : Type 0 = Mine g.row.R-Value.Denot g.row.R-Ticket.Denot in let is = c.join_seat.ensures.2 in let own = c.requires.outside.2 in
    let share = ap (λ (m : M). m.0.share) is in
    (search rules, search rules, counts_down R.empty R.fits R.after _ _ _ _ (omega arith) (ap (λ (m : M). m.0.change) is))
