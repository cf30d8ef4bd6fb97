use Rattle.std.proofs.Common.{ℕ, ◌+◌, List, ap₂, subst, sym}
use Rattle.top_rounds.specs.Labels.{IsLabelFor, with_round}
use Rattle.top_rounds.proofs.SeatLaws.{held_round}
use Rattle.top_rounds.proofs.pass.begin.Goals as goal

pub returns-clause-held : goal.returns-clause-held
returns-clause-held c =
    let label = c.args.label.now in
    subst (IsLabelFor c.args.columns.now)
    (sym (ap₂ (λ (s : List ℕ) (p : ℕ × ℕ). with_round label (label.counter + 1) label.clean (record { version = 2; seats = s; filling = p.0; done = p.1 })) c.seats-label.ensures c.filling.ensures))
    (held_round c.args.columns.now label (label.counter + 1) label.clean c.requires.held.held.clean c.requires.held)
