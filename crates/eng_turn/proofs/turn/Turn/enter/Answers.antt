use Rattle.std.proofs.Common.{rules, ℕ, ◌∷◌, ◌∙◌, List, Some, sym, ap, arith}
use Rattle.atomic_table.specs.Table.{rest}
use Rattle.eng_turn.specs.View.{Mine, Content}
use Rattle.eng_turn.proofs.Keeps.{takes_it}
use Rattle.eng_turn.proofs.turn.Turn.enter.Goals as goal

pub fetch_or-found-requires : goal.fetch_or-found-requires
fetch_or-found-requires g c = let R = g.R.TurnRule in let M : Type 0 = Mine g.row.R-Value.Denot g.row.R-Ticket.Denot in let is = c.loop.invariant.1 in let o = c.requires.outside in let share = ap (λ (m : M). m.0.share) is in let some_share = o.2 in
    (search rules, search rules, takes_it R.empty R.fits R.after _ _ _ _ (omega arith) (ap (λ (m : M). m.0.stage) is ∙ o.0))

pub exchange-taken-requires : goal.exchange-taken-requires
exchange-taken-requires g c = let M : Type 0 = Mine g.row.R-Value.Denot g.row.R-Ticket.Denot in let t = c.fetch_or-found.ensures.2.2 c.if-found-eq0.true in let e = ap (λ (m : M). m.1) t.1 in
    (search rules, (Some t.0, e ∙ ap (λ (l : List (ℕ × Content g.row.R-Value.Denot g.row.R-Ticket.Denot)). (0, Some t.0) ∷ l) (sym (ap rest e))))

pub loop-preserved : goal.loop-preserved
loop-preserved g c = let not = c.if-found-eq0.false in (search rules, c.fetch_or-found.ensures.2.1 (omega arith) ∙ c.loop.invariant.1)
