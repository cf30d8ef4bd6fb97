use Rattle.std.proofs.Common.{◌∙◌, ap, ap₂, Bool, false, ℕ}
use Rattle.std.specs.Prelude.{Option}
use Rattle.top_open.specs.declared.plan.Needs.{Needs}
use Rattle.top_words.specs.Asked.{Profile}
use Rattle.top_duty.specs.Opening.{excused_by, own_by}
use Rattle.top_duty.proofs.needs.needs_for.Goals as goal

pub returns : goal.returns
returns c =
    let by : Option ℕ → Bool → Needs = λ e o. record { plain = c.profile-profile.result.plain; labels = c.profile-profile.result.labels; excused = e; own = o; writes = c.profile-profile.result.writes; adopts = false } in
    let all : Profile → Needs = λ p. record { plain = p.plain; labels = p.labels; excused = excused_by p.component c.args.comp; own = own_by p.rebuild; writes = p.writes; adopts = false } in
    ap₂ by c.excused_by.ensures c.own_by.ensures ∙ ap all c.profile-profile.ensures
