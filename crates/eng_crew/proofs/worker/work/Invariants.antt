use Rattle.std.proofs.Common.{◌≡◌, ◌<◌}
use Rattle.eng_turn.specs.Turn.{IsOf, IsOutside, ticket_of, share_of}
use Rattle.eng_crew.proofs.worker.work.Given as goal

abbrev pub invariant-loop : goal.invariant-loop
invariant-loop g l = record {
  mine : IsOf l.pass l.turn × IsOutside l.pass;
  ticket : ticket_of l.pass ≡ l.held;
  share : share_of l.pass ≡ share_of l.initial.pass;
  few : l.empty < 1048576;
}
