use Rattle.std.proofs.Common.{ℕ, Option, Some, None, sym, subst, arith}
use Rattle.std.specs.Prelude.{MatchOption}
use Rattle.std.specs.Option.{unwrap_or}
use Rattle.eng_one.specs.Control.{Control, IsReadyIn, NoneReady, IsLeastReady}
use Rattle.graph_tests.proofs.runs.reached.next.Goals as goal

-- the first that is ready, where some node is
first-ready : (r : Control) (found : Option ℕ) → MatchOption found (NoneReady r 0) (IsLeastReady r 0) → (n : ℕ) × IsReadyIn r n → IsReadyIn r (unwrap_or found 0)
first-ready r (Some n) is some = is.ready
first-ready r None is some = absurd (is some.0 (omega arith) some.1)

pub returns : goal.returns
returns c =
    let r = c.args.run.now in
    let s = c.requires.served in
    let none = (c.count_follows_the_marks.ensures.none r).0 c.requires.none in
    let some = c.run_goes_on.ensures r.graph s.task s.missing s.commit s.end r s.ordered s.reached c.requires.running none in
    subst (IsReadyIn r) (sym c.unwrap_or.ensures) (first-ready r c.least_ready.result c.least_ready.ensures some)
