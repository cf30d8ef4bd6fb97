use Rattle.std.proofs.Common.{◌∙◌, ap, sym}
use Rattle.std.specs.Prelude.{[], Option}
use Rattle.top_words.specs.Asked.{Profile}
use Rattle.top_words.specs.declared.profile.Drawing.{Drawing}
use Rattle.top_duty.specs.Steps.{drawn_or}
use Rattle.top_duty.specs.Views.{items_seen}
use Rattle.top_duty.proofs.clients.choose.Goals as goal

pub returns-in-Some : goal.returns-in-Some
returns-in-Some c = λ blocks h.
    h ∙ (sym (ap (λ (p : Profile). drawn_or p.drawn [] blocks) c.profile.ensures)
    ∙ (ap (λ (o : Option Drawing). drawn_or o [] blocks) c.in-Some.is
    ∙ (sym (ap (λ (o : Option Drawing). drawn_or o (items_seen c.args.scripted.items) blocks) c.in-Some.is)
    ∙ ap (λ (p : Profile). drawn_or p.drawn (items_seen c.args.scripted.items) blocks) c.profile.ensures)))

pub returns-in-None : goal.returns-in-None
returns-in-None c = λ blocks h.
    sym (ap (λ (o : Option Drawing). drawn_or o (items_seen c.args.scripted.items) blocks) c.in-None.is)
    ∙ ap (λ (p : Profile). drawn_or p.drawn (items_seen c.args.scripted.items) blocks) c.profile.ensures
