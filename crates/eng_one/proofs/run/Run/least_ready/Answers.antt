use Rattle.std.proofs.Common.{subst}
use Rattle.std.specs.Prelude.{MatchOption}
use Rattle.eng_one.specs.Control.{Control, NoneReady, IsLeastReady}
use Rattle.eng_one.proofs.Kept.{first-ready, running-either}
use Rattle.eng_one.proofs.run.Run.least_ready.Goals as goal

pub returns-in-Before : goal.returns-in-Before
returns-in-Before c = subst (λ (r : Control). MatchOption c.first_from.result (NoneReady r c.args.from) (IsLeastReady r c.args.from)) c.self.view_is (first-ready _ _ _ _ _ _ _ _ _ c.self.invariant (running-either _ c.in-Before.is) c.args.from c.first_from.result c.first_from.ensures)
