use Rattle.std.proofs.Common.{◌≤◌, subst, sym}
use Rattle.top_words.specs.Asked.{Profile}
use Rattle.raid_top.proofs.setup.workers_of.Goals as goal

pub returns : goal.returns
returns c = subst (λ (p : Profile). p.workers ≤ 16) (sym c.profile.ensures) c.requires.workers
