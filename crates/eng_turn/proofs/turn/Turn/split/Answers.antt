use Rattle.std.proofs.Common.{rules, ap, arith}
use Rattle.eng_turn.specs.View.{Mine}
use Rattle.eng_turn.proofs.Keeps.{counts_up, splits_it}
use Rattle.eng_turn.proofs.turn.Turn.split.Goals as goal

pub fetch_add-requires : goal.fetch_add-requires
fetch_add-requires g c = let R = g.R.TurnRule in (search rules, search rules, counts_up R.empty R.fits R.after _ _ _ _ c.requires.shares c.requires.outside.1)

pub split_seat-seat-requires : goal.split_seat-seat-requires
split_seat-seat-requires g c = let R = g.R.TurnRule in let M : Type 0 = Mine g.row.R-Value.Denot g.row.R-Ticket.Denot in let is = c.fetch_add.ensures.2 in let two = c.requires.shares in
    let share = ap (λ (m : M). m.0.share) is in
    (search rules, search rules, splits_it R.empty R.fits R.after _ _ _ R.empty_comes (omega arith) (ap (λ (m : M). m.0.change) is))
