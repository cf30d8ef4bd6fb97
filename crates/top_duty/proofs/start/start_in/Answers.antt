use Rattle.std.proofs.Common.{◌∙◌, ap}
use Rattle.top_open.specs.Opening.{opened_seen}
use Rattle.top_words.specs.Asked.{Profile}
use Rattle.top_duty.specs.Start.{start_with}
use Rattle.top_duty.proofs.start.start_in.Goals as goal

pub returns : goal.returns
returns c =
    c.start_with.ensures
    ∙ ap (λ (p : Profile). start_with p.rebuild p.limit c.args.asked.now.comp c.args.asked.now.conf (opened_seen c.args.opened.now) c.args.sizes.now c.args.fronts.now) c.profile-rebuild.ensures
