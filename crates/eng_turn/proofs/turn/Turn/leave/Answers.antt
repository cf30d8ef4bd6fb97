use Rattle.std.proofs.Common.{rules, ℕ, ◌<◌, ◌+◌, ◌-◌, ◌%◌, ◌^◌, ◌++◌, ◌∷◌, sym, ap, subst, ◌∙◌}
use mathlib.Core.Option.{none}
use Rattle.atomic_table.specs.Table.{Allows, step, rest}
use Rattle.eng_turn.specs.View.{Mine}
use Rattle.eng_turn.specs.Rule.{Kept}
use Rattle.eng_turn.specs.Steps.{Gave}
use Rattle.eng_turn.proofs.Keeps.{gives_it, gave_to}
use Rattle.eng_turn.proofs.turn.Turn.leave.Goals as goal

pub fetch_sub-requires : goal.fetch_sub-requires
fetch_sub-requires g c =
    let st = c.requires.step in
    let key = c.args.self.now.table.shared.key.value in
    let slots = c.args.self.now.table.shared.table_id.slots in
    let R = g.R.TurnRule in (
      search rules,
      search rules,
      subst (λ (m : Mine g.row.R-Value.Denot g.row.R-Ticket.Denot). Allows (Kept R.empty R.fits R.after key) slots c.exchange-none.new.seat.id m 0 (λ n. (n + (2 ^ 64 - 1)) % 2 ^ 64) (Gave (step slots 0 1 0 none) m)) (sym c.exchange-none.ensures.3)
          (gives_it R.empty R.fits R.after key R.after_itself R.after_later slots _ c.args.pass.now.seat.me.0 _ (rest c.args.pass.now.seat.me.1) st.0 st.1.2 st.1.0 (R.after_step _ _ _ _ st.2)
          (λ xs ys f. subst (λ (t : g.row.R-Ticket.Denot). R.fits key c.args.value (xs ++ t ∷ ys)) (sym c.of-copy.ensures) (st.3 xs ys f))),
    )

pub returns-clause-outside : goal.returns-clause-outside
returns-clause-outside g c = let M : Type 0 = Mine g.row.R-Value.Denot g.row.R-Ticket.Denot in let st = c.requires.step in let is = gave_to c.args.pass.now.seat.me.0 _ _ _ _ c.exchange-none.ensures.3 c.fetch_sub.ensures.2 in
    (ap (λ (m : M). m.0.stage) is, ap (λ (m : M). m.0.change) is ∙ st.1.1, subst (λ (n : ℕ). 0 < n) (sym (ap (λ (m : M). m.0.share) is)) st.1.2, ap (λ (m : M). m.1) is ∙ ap rest st.1.3)

pub returns-clause-mine : goal.returns-clause-mine
returns-clause-mine g c = let M : Type 0 = Mine g.row.R-Value.Denot g.row.R-Ticket.Denot in let is = gave_to c.args.pass.now.seat.me.0 _ _ _ _ c.exchange-none.ensures.3 c.fetch_sub.ensures.2 in
    (search rules, ap (λ (m : M). m.0.opening) is ∙ c.requires.mine.1)

pub returns-clause-ticket : goal.returns-clause-ticket
returns-clause-ticket g c = let M : Type 0 = Mine g.row.R-Value.Denot g.row.R-Ticket.Denot in let is = gave_to c.args.pass.now.seat.me.0 _ _ _ _ c.exchange-none.ensures.3 c.fetch_sub.ensures.2 in
    ap (λ (m : M). m.0.ticket) is ∙ c.of-copy.ensures

pub returns-clause-mark : goal.returns-clause-mark
returns-clause-mark g c = let M : Type 0 = Mine g.row.R-Value.Denot g.row.R-Ticket.Denot in let is = gave_to c.args.pass.now.seat.me.0 _ _ _ _ c.exchange-none.ensures.3 c.fetch_sub.ensures.2 in
    ap (λ (m : M). m.0.mark) is

pub returns-clause-share : goal.returns-clause-share
returns-clause-share g c = let M : Type 0 = Mine g.row.R-Value.Denot g.row.R-Ticket.Denot in let is = gave_to c.args.pass.now.seat.me.0 _ _ _ _ c.exchange-none.ensures.3 c.fetch_sub.ensures.2 in
    ap (λ (m : M). m.0.share) is
