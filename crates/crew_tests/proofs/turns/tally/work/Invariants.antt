use Rattle.std.proofs.Common.{◌≡◌}
use Rattle.eng_turn.specs.Turn.{share_of}
use Rattle.eng_turn.specs.Tally.{IsReady}
use Rattle.crew_tests.proofs.turns.tally.work.Given as goal

abbrev pub invariant-loop : goal.invariant-loop
invariant-loop g l = IsReady l.turn l.pass × (share_of l.pass ≡ share_of l.initial.pass)
