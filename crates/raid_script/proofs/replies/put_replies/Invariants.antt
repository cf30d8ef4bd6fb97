use Rattle.std.proofs.Common.{◌≡◌, ◌≤◌, List, ℕ, Bool, length, min}
use Rattle.raid_bay.specs.Sink.{Puts}
use Rattle.raid_script.specs.Replies.{replies_text, sectors_before}
use Rattle.raid_script.specs.Steps.{client_text}
use Rattle.raid_script.proofs.Printed.{from_place}
use Rattle.raid_script.proofs.replies.put_replies.Given as goal

-- whatever comes of the clients that are left comes of all of them
abbrev pub invariant-loop-client : goal.invariant-loop-client
invariant-loop-client g l = record {
  rest : g.K.Sink.tells → (b : Bool) (new : List ℕ) → Puts b (g.K.Sink.output l.out) (from_place (client_text l.clients l.replies l.sectors) l.client (min (length l.clients) 16)) new → Puts b (g.K.Sink.output l.fn.out) (replies_text l.clients l.replies l.sectors) new;
  later : g.K.Sink.faults l.fn.out ≤ g.K.Sink.faults l.out;
  place : l.at ≡ sectors_before l.clients l.client;
}
