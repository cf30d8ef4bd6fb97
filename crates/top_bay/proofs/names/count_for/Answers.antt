use Rattle.std.proofs.Common.{◌∙◌, ap}
use Rattle.std.specs.Prelude.{length}
use Rattle.top_words.specs.Asked.{Profile}
use Rattle.top_bay.specs.Asked.{names_with}
use Rattle.top_bay.proofs.names.count_for.Goals as goal

pub returns : goal.returns
returns c = c.count_with.ensures ∙ ap (λ (p : Profile). length (names_with c.args.conf.now p.kind p.component)) c.profile-profile.ensures
