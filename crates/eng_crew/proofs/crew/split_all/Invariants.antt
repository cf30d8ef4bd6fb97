use Rattle.std.proofs.Common.{◌≡◌, ◌+◌, ◌≤◌, All, vec_len}
use Rattle.std.specs.Prelude.{vec_capacity}
use Rattle.eng_turn.specs.Turn.{share_of}
use Rattle.eng_crew.specs.Idle.{IsReady, IsSpare}
use Rattle.eng_crew.proofs.crew.split_all.Given as goal

abbrev pub invariant-loop : goal.invariant-loop
invariant-loop g l = record {
  ready : IsReady l.turn l.pass;
  share : share_of l.pass + l.counter ≡ share_of l.initial.pass;
  spare : All (IsSpare l.turn) l.others.items;
  count : vec_len l.others ≡ l.counter;
  room : l.initial.count ≤ vec_capacity l.others;
}
