use Rattle.std.proofs.Common.{ap}
use Rattle.top_words.specs.Asked.{Profile}
use Rattle.top_duty.proofs.kind.reads_fronts.Goals as goal

pub returns : goal.returns
returns c = ap (λ (p : Profile). p.reads) c.profile.ensures
